use Rattle.std.proofs.Common.{arith}
use Rattle.certify_making.proofs.AheadLemmas.{ahead_more, ahead_none, all_closed, fact_read, past_end, turned_away}
use Rattle.certify_making.proofs.saturating.saturate.Goals as goal

pub loop-place-init : goal.loop-place-init
loop-place-init c = (c.requires, λ judge begun. ahead_none judge c.args.model.now c.args.trace.now c.args.facts.now.lines.items c.new-notes.result begun)

pub loop-place-preserved : goal.loop-place-preserved
loop-place-preserved c = (
  c.in-Ok.ensures.kept,
  λ judge begun.
      ahead_more judge c.args.model.now c.args.trace.now c.loop-place.place c.loop-place.facts.lines.items c.loop-place.notes c.in-Some.field-0.now.fact (c.loop-place.invariant.1 judge begun)
      (fact_read c.loop-place.facts.lines.items c.deref.result.now c.loop-place.place c.in-Some.field-0.now c.deref.ensures.value c.in-Some.ensures.lookup.0 c.in-Some.ensures.lookup.1)
      (c.loop-place.invariant.0).few c.take_turn.new.facts.lines.items c.take_turn.new.notes c.in-Ok.ensures.turn,
)

pub returns-in_default-clause-closed : goal.returns-in_default-clause-closed
returns-in_default-clause-closed c = λ judge begun.
    all_closed judge c.args.model.now c.args.trace.now c.loop-place.place c.loop-place.facts.lines.items c.loop-place.notes (c.loop-place.invariant.1 judge begun)
    (past_end c.loop-place.facts.lines.items c.deref.result.now c.loop-place.place c.deref.ensures.value c.in_default.ensures.lookup.0)

pub returns-in-Err-clause-large : goal.returns-in-Err-clause-large
returns-in-Err-clause-large c = λ judge begun.
    turned_away judge c.args.model.now c.args.trace.now c.loop-place.place c.loop-place.facts.lines.items c.loop-place.notes c.in-Some.field-0.now.fact c.in-Err.error (c.loop-place.invariant.1 judge begun)
    (fact_read c.loop-place.facts.lines.items c.deref.result.now c.loop-place.place c.in-Some.field-0.now c.deref.ensures.value c.in-Some.ensures.lookup.0 c.in-Some.ensures.lookup.1)
    c.in-Err.ensures.large

pub returns-clause-closed : goal.returns-clause-closed
returns-clause-closed c = λ judge begun.
    all_closed judge c.args.model.now c.args.trace.now c.loop-place.place c.loop-place.facts.lines.items c.loop-place.notes (c.loop-place.invariant.1 judge begun) (omega (arith, (c.loop-place.invariant.0).few, c.loop-place-test.false))
