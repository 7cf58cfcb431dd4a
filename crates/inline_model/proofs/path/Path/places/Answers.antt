use Rattle.std.proofs.Common.{[], reverse, sym, ap, ◌∙◌}
use Rattle.std.proofs.lemmas.List.{append-nil, reverse-reverse}
use Rattle.inline_model.specs.Places.{places_of}
use Rattle.inline_model.proofs.PlacesLemmas.{onto_reverse}
use Rattle.inline_model.proofs.path.Path.places.Goals as goal

pub returns : goal.returns
returns c =
    let items = c.self.inside.frames.items in
    c.in_ok-places.ensures
    ∙ ap places_of c.deref.ensures.value
    ∙ ap places_of (sym (reverse-reverse items))
    ∙ ap (λ p. places_of (reverse p)) c.self.view_is
    ∙ sym (append-nil (places_of (reverse c.args.self.now)))
    ∙ sym (onto_reverse c.args.self.now [])
