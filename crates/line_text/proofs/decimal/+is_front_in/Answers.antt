use Rattle.std.proofs.Common.{refl, arith}
use Rattle.line_text.proofs.NumberLemmas.{front_same, begun_in_range, range_of_begun}
use Rattle.line_text.proofs.decimal.+is_front_in.Goals as goal

pub returns-then-least-front : goal.returns-then-least-front
returns-then-least-front t c = (
  λ _. (c.args.front, c.if-least-front.true, c.if-most-front.false, front_same c.args.front c.args.front refl),
  λ _. grind arith,
)

pub returns-else-least-front : goal.returns-else-least-front
returns-else-least-front t c = (
  λ holds. begun_in_range c.args.front c.args.least c.args.most c.requires.range (c.is_front_in.ensures.0 holds),
  λ begun. c.is_front_in.ensures.1 (range_of_begun c.args.front c.args.least c.args.most c.if-least-front.false begun),
)
