-- For private contracts and proofs alone: the places of the call edges on a path.
use Rattle.std.specs.Prelude.{ℕ, List, [], ◌∷◌, ◌++◌, Option, Some, None, slice_get, option_map, unwrap_or}
use Rattle.flow_model.specs.Graph.{Graph}
use Rattle.inline_model.specs.declared.path.Frame.{Frame}

abbrev pub places_in : Option ℕ → List ℕ
places_in None = []
places_in (Some p) = p ∷ []

-- the place of the frame, where it has one
abbrev pub place_of : Frame → List ℕ
place_of frame = places_in frame.opener

-- the places of the frames, the oldest first, and then the others
abbrev pub places_onto : List Frame → List ℕ → List ℕ
places_onto [] places = places
places_onto (frame ∷ rest) places = places_onto rest (place_of frame ++ places)

-- the site of the call edge at the place
abbrev pub site_at : Graph → ℕ → ℕ
site_at g p = unwrap_or (option_map (λ c. c.site) (slice_get g.calls p)) 0

-- the places of the frames in their order
abbrev pub places_of : List Frame → List ℕ
places_of [] = []
places_of (frame ∷ rest) = place_of frame ++ places_of rest
