use Rattle.std.proofs.Common.{◌≡◌, ◌≤◌, List, Contains, length, get_or, Some, refl, ap, sym, ◌∙◌, subst, arith}
use Rattle.std.specs.Prelude.{slice_get}
use Rattle.std.proofs.lemmas.Option.{slice_get_read}
use Rattle.flow_model.specs.Call.{Call}
use Rattle.inline_model.specs.Entries.{HasEntries}
use Rattle.inline_model.proofs.EntryLemmas.{no_entries, entries_more}
use Rattle.inline_model.proofs.table.all_entries.Goals as goal

pub loop-place-init : goal.loop-place-init
loop-place-init c = subst (HasEntries c.args.model.now 0) (sym c.new-entries.ensures.items) (no_entries c.args.model.now)

pub loop-place-preserved : goal.loop-place-preserved
loop-place-preserved c =
    let items = c.calls-call-items.result.now in
    let at : slice_get items c.loop-place.place ≡ Some c.call-item.result = slice_get_read items (length items) c.loop-place.place c.call-item.result refl c.loop-place-test.true c.call-item.is in
    entries_more c.args.model.now c.loop-place.place c.call-item.result c.loop-place.entries.items c.add_call.new.entries.items
    (subst (λ xs. slice_get xs c.loop-place.place ≡ Some c.call-item.result) c.calls-call-items.ensures at) c.loop-place.invariant c.in_ok-add_call.ensures

pub returns : goal.returns
returns c =
    let all : c.loop-place.place ≡ length c.args.model.now.calls = omega (arith, c.loop-place-test.false, c.loop-place.auto.place-end, ap length c.calls-call-items.ensures) in
    subst (λ k. HasEntries c.args.model.now k c.loop-place.entries.items) all c.loop-place.invariant
