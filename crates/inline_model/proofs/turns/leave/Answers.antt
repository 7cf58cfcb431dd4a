use Rattle.std.proofs.Common.{◌<◌, length, set, refl, sym, ap, subst, arith}
use Rattle.inline_model.specs.declared.search.Mark.TheVariants.{Done, Open}
use Rattle.inline_model.specs.Searching.{AreSearching, AreHeights, AreLow, Completes, Enters, IsReady, StayLow, frame_left}
use Rattle.std.specs.Prelude.{sum_by}
use Rattle.std.proofs.lemmas.Option.{slice_get_within}
use Rattle.inline_model.proofs.SearchLemmas.{leave_done, leave_left, popped, ready_here, top_open, written_back}
use Rattle.inline_model.proofs.turns.leave.Goals as goal

pub complete-requires-clause-low : goal.complete-requires-clause-low
complete-requires-clause-low c = subst AreLow (sym c.deref_mut.ensures.value) c.requires.search.sound.low

pub complete-requires-clause-ready : goal.complete-requires-clause-ready
complete-requires-clause-ready c = λ f enters.
    subst (λ hs. IsReady c.args.entries.now hs f) (sym c.deref_mut.ensures.value)
    (ready_here c.args.model.now c.nodes-nodes.ensures.valid c.args.search.now.marks.items c.args.search.now.heights.items c.args.search.now.path c.args.frame c.requires.top.0 c.requires.top.1 c.requires.search c.requires.over c.args.entries.now c.requires.entries f enters)

pub index_mut-requires : goal.index_mut-requires
index_mut-requires c =
    let within : c.args.place < length c.args.search.now.marks.items = slice_get_within c.args.search.now.marks.items c.args.place Open (top_open c.args.model.now c.args.search.now.marks.items c.args.search.now.heights.items c.args.search.now.path c.args.frame c.requires.top.0 c.requires.top.1 c.requires.search c.args.place c.requires.opener) in
    omega (arith, within, c.args.search.now.marks.ok.0)

pub returns : goal.returns
returns c =
    let g = c.args.model.now in
    let items = c.args.search.now.heights.items in
    let now = c.complete.new.heights in
    let n = length g.calls in
    let old_marks = c.args.search.now.marks.items in
    let top = c.requires.top.1 in
    let rest = popped c.pop-left.result c.args.search.now.path c.pop-left.new.self c.args.frame c.requires.top.0 c.pop-left.ensures.some c.pop-left.ensures.none top in
    let value = c.deref_mut.ensures.value in
    let made : Completes g items now (Enters g c.args.frame.opener) =
    subst (λ hs. Completes g hs now (Enters g c.args.frame.opener)) value (c.complete.ensures.completes (subst (AreHeights g) (sym value) c.requires.search.sound.right)) in
    let stays : StayLow items now = subst (λ hs. StayLow hs now) value c.complete.ensures.stays in
    let heights = written_back now items c.args.search.now.heights.len (omega (arith, c.args.search.now.heights.ok.0)) made.tall in
    let marks = set old_marks c.args.place Done in
    let open_here = top_open g old_marks items c.args.search.now.path c.args.frame c.requires.top.0 top c.requires.search c.args.place c.requires.opener in (
      subst (λ hs. AreSearching g marks hs c.pop-left.new.self) (sym heights)
          (subst (AreSearching g marks now) (sym rest)
          (leave_done g old_marks items c.args.search.now.path c.args.frame c.requires.top.0 top c.requires.search c.args.place c.requires.opener c.requires.over marks now made stays refl)),
      omega (arith, leave_left n old_marks marks c.args.frame c.requires.top.0 c.args.place open_here refl, ap (sum_by (frame_left n)) rest, ap (sum_by (frame_left n)) top),
    )
