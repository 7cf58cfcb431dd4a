use Rattle.std.proofs.Common.{◌≡◌, ℕ, ◌+◌, ◌<◌, List, [], ◌∷◌, ◌++◌, length, take, drop, Some, slice_get, Contains, sym, ◌∙◌, ap}
use Rattle.std.proofs.lemmas.List.{take-append-drop, take_more}
use Rattle.std.proofs.lemmas.Option.{slice_get_within, get_or_from_slice_get}
use Rattle.trace_file.specs.Pieces.{IsCut}
use Rattle.trace_file.proofs.pieces.whole_line.Goals as goal

cut_after : (text : List ℕ) (i : ℕ) (line rest : List ℕ) → slice_get text i ≡ Some 10 → (Contains (take i text) 10 → ⊥) → line ≡ take (i + 1) text → rest ≡ drop (i + 1) text → IsCut text line rest
cut_after text i line rest there lacks front back =
    let within : i < length text = slice_get_within text i 10 there in
    let whole : take (i + 1) text ≡ take i text ++ 10 ∷ [] = take_more text i 10 within ∙ ap (λ x. take i text ++ x ∷ []) (get_or_from_slice_get text i 10 10 there) in
    record {
      line_whole = record { front = take i text; plain = lacks; ends = front ∙ whole };
      parts = sym (take-append-drop (i + 1) text) ∙ ap (λ w. w ++ drop (i + 1) text) (sym front) ∙ ap (λ w. line ++ w) (sym back);
    }

pub returns-in-Some : goal.returns-in-Some
returns-in-Some c =
    cut_after c.args.text.now c.in-Some.i c.split_at.result.0.now c.split_at.result.1.now c.in-Some.ensures.there c.in-Some.ensures.first c.split_at.ensures.front c.split_at.ensures.back
