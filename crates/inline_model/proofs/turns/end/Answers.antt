use Rattle.std.proofs.Common.{◌≡◌, length, Some, refl, sym, ap, ◌∙◌, subst, arith}
use Rattle.std.specs.Prelude.{slice_get}
use Rattle.inline_model.specs.Searching.{AreHeights, AreLow, IsComplete, IsHeight, IsReady}
use Rattle.inline_model.proofs.SearchLemmas.{ready_here, written_back}
use Rattle.inline_model.proofs.HeightLemmas.{enters_start}
use Rattle.inline_model.proofs.turns.end.Goals as goal

pub complete-requires-clause-low : goal.complete-requires-clause-low
complete-requires-clause-low c = subst AreLow (sym c.deref_mut.ensures.value) c.requires.search.sound.low

pub complete-requires-clause-ready : goal.complete-requires-clause-ready
complete-requires-clause-ready c = λ f enters.
    subst (λ hs. IsReady c.args.entries.now hs f) (sym c.deref_mut.ensures.value)
    (ready_here c.args.model.now c.nodes-nodes.ensures.valid c.args.search.now.marks.items c.args.search.now.heights.items c.args.search.now.path c.args.frame c.requires.top.0 c.requires.top.1 c.requires.search c.requires.over c.args.entries.now c.requires.entries f enters)

pub height_at-requires : goal.height_at-requires
height_at-requires c =
    let g = c.args.model.now in
    let items = c.args.search.now.heights.items in
    let now = c.complete.new.heights in
    let value = c.deref_mut.ensures.value in
    let made = c.complete.ensures.completes (subst (AreHeights g) (sym value) c.requires.search.sound.right) in
    let heights = written_back now items c.args.search.now.heights.len (omega (arith, c.args.search.now.heights.ok.0)) (made.tall ∙ ap length value) in
    subst (λ hs. IsComplete hs c.start.result) (sym heights ∙ sym c.deref.ensures.value)
    (made.all c.start.result (enters_start g c.args.frame.opener c.start.result c.requires.opener c.start.ensures.start c.start.result refl))

pub returns : goal.returns
returns c =
    let g = c.args.model.now in
    let items = c.args.search.now.heights.items in
    let now = c.complete.new.heights in
    let value = c.deref_mut.ensures.value in
    let made = c.complete.ensures.completes (subst (AreHeights g) (sym value) c.requires.search.sound.right) in
    let heights = written_back now items c.args.search.now.heights.len (omega (arith, c.args.search.now.heights.ok.0)) (made.tall ∙ ap length value) in
    let at : slice_get now c.start.result ≡ Some (Some c.height_at.result) = ap (λ hs. slice_get hs c.start.result) (sym heights ∙ sym c.deref.ensures.value) ∙ c.height_at.ensures in
    subst (λ f. IsHeight g f c.height_at.result) c.start.ensures.start (made.heights c.start.result c.height_at.result at)
