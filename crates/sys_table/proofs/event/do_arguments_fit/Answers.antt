use Rattle.std.proofs.Common.{sym, rules}
use Rattle.std.proofs.lemmas.Option.{slice_get-get_or}
use Rattle.sys_table.specs.Table.{FitsArgument}
use Rattle.sys_table.proofs.Pairs.{pair_at, no_pair_at, PairsBelow-more, PairsBelow-decides}
use Rattle.sys_table.proofs.event.do_arguments_fit.Goals as goal

pub returns-in_default : goal.returns-in_default
returns-in_default c = (
  λ no. cc,
  λ all. absurd (no_pair_at FitsArgument c.args.kinds.now c.args.arguments.now c.loop-i.i all c.loop-i-test.true c.in_default.ensures),
)

pub returns-then-not-fits : goal.returns-then-not-fits
returns-then-not-fits c = (
  λ no. cc,
  λ all.
      let kind = slice_get-get_or c.args.kinds.now c.loop-i.i _ c.loop-i-test.true in
      c.if-not-fits.ensures.1 (pair_at FitsArgument c.args.kinds.now c.args.arguments.now c.loop-i.i _ _ all kind (sym c.in-Some.ensures)),
)

pub loop-i-preserved : goal.loop-i-preserved
loop-i-preserved c =
    let kind = slice_get-get_or c.args.kinds.now c.loop-i.i _ c.loop-i-test.true in
    PairsBelow-more FitsArgument c.args.kinds.now c.args.arguments.now c.loop-i.i _ _ c.loop-i.invariant kind (sym c.in-Some.ensures) (c.if-not-fits.ensures.0 (search rules))

pub returns : goal.returns
returns c =
    PairsBelow-decides FitsArgument c.args.kinds.now c.args.arguments.now c.len.result c.len.ensures.len (λ k x y within. c.loop-i.invariant k x y (search rules))
