-- The lines of an explanation, put together of their parts.
use Rattle.std.proofs.Common.{◌≡◌, ℕ, List, ◌++◌, length, replicate, codes, ◌∙◌, ap}
use Rattle.code_reasons.specs.Reasons.{reason_of}
use Rattle.text_places.specs.Lines.{part_before, part_from, shown}
use Rattle.text_places.specs.Locations.{SourceLocation, located, location_text}
use Rattle.tool_texts.specs.Explained.{code_text, place_of, explanation}
use Rattle.tool_texts.specs.SourceError.{SourceError}

pub put_together : (name text : List ℕ) (error : SourceError) (place : ℕ) (location : SourceLocation) (code before from first both : List ℕ)
    → place ≡ place_of error → location ≡ located name text place → code ≡ code_text error → before ≡ part_before text place → from ≡ part_from text place
    → first ≡ location_text location ++ codes ": " ++ code ++ codes ": " ++ reason_of code ++ codes "\n"
    → both ≡ first ++ shown before ++ shown from ++ codes "\n" ++ replicate (length before) 32 ++ codes "^\n"
    → both ≡ explanation name text error
put_together name text error place location code before from first both is_place is_location is_code is_before is_from is_first is_both =
    let l : location ≡ located name text (place_of error) = is_location ∙ ap (located name text) is_place in
    let b : before ≡ part_before text (place_of error) = is_before ∙ ap (part_before text) is_place in
    let f : from ≡ part_from text (place_of error) = is_from ∙ ap (part_from text) is_place in
    is_both ∙ ap (λ w. w ++ shown before ++ shown from ++ codes "\n" ++ replicate (length before) 32 ++ codes "^\n") is_first
    ∙ (λ i. location_text (l i) ++ codes ": " ++ is_code i ++ codes ": " ++ reason_of (is_code i) ++ codes "\n" ++ shown (b i) ++ shown (f i) ++ codes "\n" ++ replicate (length (b i)) 32 ++ codes "^\n")
