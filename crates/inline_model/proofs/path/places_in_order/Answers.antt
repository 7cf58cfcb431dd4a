use Rattle.std.proofs.Common.{◌++◌, take, get_or, None, sym, ap, ◌∙◌}
use Rattle.std.proofs.lemmas.List.{take_more}
use Rattle.inline_model.specs.declared.path.Frame.{Frame}
use Rattle.inline_model.specs.Places.{place_of, places_of}
use Rattle.inline_model.proofs.PlacesLemmas.{places_of-push}
use Rattle.inline_model.proofs.path.places_in_order.Goals as goal

abbrev nothing : Frame
nothing = record { opener = None; next = 0 }

pub loop-frame-preserved : goal.loop-frame-preserved
loop-frame-preserved c =
    let frames = c.args.frames.now in
    let k = c.loop-frame.frame-index in
    let f = get_or frames k nothing in
    c.in_ok-add_place.ensures ∙ ap (λ xs. xs ++ place_of f) c.loop-frame.invariant ∙ sym (places_of-push (take k frames) f) ∙ ap places_of (sym (take_more frames k nothing c.loop-frame-test.true))
