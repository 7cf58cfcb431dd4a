use Rattle.std.proofs.lemmas.List.Elements.{All-more}
use Rattle.c_lexer.specs.Runs.{IsOf}
use Rattle.c_lexer.proofs.KindsRuns.{front_whole}
use Rattle.c_lexer.proofs.run.run_length.Goals as goal

pub returns : goal.returns
returns c = front_whole (IsOf c.args.class) c.args.text.now c.loop-place.place c.loop-place-test.false c.loop-place.invariant

pub loop-place-preserved : goal.loop-place-preserved
loop-place-preserved c =
    All-more (IsOf c.args.class) c.args.text.now c.loop-place.place 0 c.loop-place-test.true c.loop-place.invariant (c.has.ensures.0 c.if-not-has.false)
