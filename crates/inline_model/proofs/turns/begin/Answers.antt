use Rattle.std.proofs.Common.{None, length, sym, ap, ◌∙◌, subst}
use Rattle.std.specs.Prelude.{slice_get}
use Rattle.std.proofs.lemmas.List.{length-replicate}
use Rattle.inline_model.specs.declared.search.Mark.TheVariants.{Unseen}
use Rattle.inline_model.specs.Searching.{AreSearching}
use Rattle.inline_model.proofs.SearchLemmas.{begun, slice_get-replicate}
use Rattle.inline_model.proofs.turns.begin.Goals as goal

pub returns : goal.returns
returns c =
    let marks = c.in_ok-marks.ensures in
    let heights = c.in_ok-heights.ensures in
    subst (AreSearching c.args.model.now c.in_ok-marks.marks.items c.in_ok-heights.heights.items) (sym c.in_ok-path.ensures)
    (begun c.args.model.now c.nodes-nodes.ensures.valid c.in_ok-marks.marks.items c.in_ok-heights.heights.items
    (ap length marks ∙ length-replicate _ _ ∙ ap length c.calls.ensures)
    (ap length heights ∙ length-replicate _ _ ∙ ap length c.functions.ensures)
    (λ p m at. slice_get-replicate _ p Unseen m (ap (λ xs. slice_get xs p) (sym marks) ∙ at))
    (λ f h at. slice_get-replicate _ f None h (ap (λ xs. slice_get xs f) (sym heights) ∙ at)))
