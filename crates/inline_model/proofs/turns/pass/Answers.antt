use Rattle.std.proofs.Common.{◌≡◌, ◌+◌, ◌<◌, ◌∷◌, length, sym, ap, ◌∙◌, subst, arith}
use Rattle.std.specs.Prelude.{sum_by}
use Rattle.std.proofs.lemmas.Option.{slice_get_within}
use Rattle.inline_model.specs.declared.search.Mark.TheVariants.{Done}
use Rattle.inline_model.specs.Searching.{AreSearching, frame_left}
use Rattle.inline_model.proofs.SearchLemmas.{pass_done, pass_left, popped}
use Rattle.inline_model.proofs.turns.pass.Goals as goal

pub returns : goal.returns
returns c =
    let g = c.args.model.now in
    let n = length g.calls in
    let frame = c.args.frame in
    let marks = c.args.search.now.marks.items in
    let top = c.requires.top.1 in
    let rest = popped c.pop-left.result c.args.search.now.path c.pop-left.new.self frame c.requires.top.0 c.pop-left.ensures.some c.pop-left.ensures.none top in
    let path : c.push.new.self ≡ record { opener = frame.opener; next = c.args.place + 1 } ∷ c.requires.top.0 = c.in_ok-push.ensures ∙ ap (λ r. record { opener = frame.opener; next = c.args.place + 1 } ∷ r) rest in
    let lt : c.args.place < n = omega (arith, slice_get_within marks c.args.place Done c.requires.done, c.requires.search.sound.long) in (
      subst (AreSearching g marks c.args.search.now.heights.items) (sym path) (pass_done g marks c.args.search.now.heights.items c.args.search.now.path frame c.requires.top.0 top c.requires.search c.args.place c.requires.next c.requires.done),
      omega (arith, pass_left n marks frame c.requires.top.0 c.args.place c.requires.next.0 lt, ap (sum_by (frame_left n)) path, ap (sum_by (frame_left n)) top),
    )
