use Rattle.std.proofs.Common.{refl}
use Rattle.c_lexer.proofs.white.ends_in_margin.Goals as goal
use Rattle.c_lexer.proofs.WhiteMargin.{margin_before, no_margin_before}

pub returns-then-front-i-eq10 : goal.returns-then-front-i-eq10
returns-then-front-i-eq10 c = (
  λ _. margin_before c.args.front.now c.loop-i.i c.loop-i-test.true c.loop-i.auto.i c.loop-i.invariant c.if-front-i-eq10.true,
  λ _. refl,
)

pub returns-then-front-i-ne9 : goal.returns-then-front-i-ne9
returns-then-front-i-ne9 c = (
  λ never. cc,
  λ ends. absurd (no_margin_before c.args.front.now c.loop-i.i c.loop-i-test.true c.loop-i.auto.i c.loop-i.invariant c.if-front-i-eq10.false c.if-front-i-ne32.true c.if-front-i-ne9.true ends),
)
