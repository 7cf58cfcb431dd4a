-- The places of frames, told from either end.
use Rattle.std.proofs.Common.{◌≡◌, ℕ, List, [], ◌∷◌, ◌++◌, reverse, refl, sym, ◌∙◌, ap}
use Rattle.std.proofs.lemmas.List.{append-nil, append_assoc}
use Rattle.std.proofs.lemmas.Grind.{reverse_onto}
use Rattle.inline_model.specs.declared.path.Frame.{Frame}
use Rattle.inline_model.specs.Places.{place_of, places_of, places_onto}

pub places_of-append : (xs ys : List Frame) → places_of (xs ++ ys) ≡ places_of xs ++ places_of ys
places_of-append [] ys = refl
places_of-append (x ∷ xs) ys = ap (λ zs. place_of x ++ zs) (places_of-append xs ys) ∙ sym (append_assoc (place_of x) (places_of xs) (places_of ys))

pub places_of-push : (xs : List Frame) (x : Frame) → places_of (xs ++ x ∷ []) ≡ places_of xs ++ place_of x
places_of-push xs x = places_of-append xs (x ∷ []) ∙ ap (λ zs. places_of xs ++ zs) (append-nil (place_of x))

pub onto_reverse : (path : List Frame) (places : List ℕ) → places_onto path places ≡ places_of (reverse path) ++ places
onto_reverse [] places = refl
onto_reverse (frame ∷ rest) places =
    onto_reverse rest (place_of frame ++ places)
    ∙ sym (append_assoc (places_of (reverse rest)) (place_of frame) places)
    ∙ ap (λ zs. zs ++ places) (sym (ap places_of (reverse_onto rest frame []) ∙ places_of-push (reverse rest) frame))
