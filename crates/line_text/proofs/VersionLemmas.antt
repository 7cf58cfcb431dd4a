-- A word that stands first, a line feed that stands last, and the number between them.
use Rattle.std.proofs.Common.{◌≡◌, ℕ, ◌-◌, ◌<◌, ◌^◌, List, [], ◌∷◌, ◌++◌, length, take, drop, true, false, nat_eq, decimal, refl, sym, ◌∙◌, ap, subst, inl, inr, append_assoc, arith}
use Rattle.std.specs.Prelude.{◌⊎◌, Contains, Option, Some, None, IfNone}
use Rattle.std.specs.Str.Parse.{AllDigits, digits_value}
use Rattle.std.specs.Cmp.Lexicographic.{same_text, other_text}
use Rattle.std.proofs.lemmas.Fmt.{digits_decimal}
use Rattle.std.proofs.lemmas.List.{take-append-drop, take_at, append_cancel_left, append_cancel_right, get_or_default}
use Rattle.std.proofs.lemmas.List.Elements.{Contains-append_right}
use Rattle.std.proofs.lemmas.Str.Parse.{IsNumeralModel, numerals_by_value, tells_digits, not_in_digits}
use lib.Pointwise.{pointwise}
use Rattle.line_text.specs.Files.{IsVersionLine}
use Rattle.dm_base.proofs.Decimals.{own}

pub first_part : (word text : List ℕ) → pointwise nat_eq (take (length word) text) word ≡ true → text ≡ word ++ drop (length word) text
first_part word text same =
    sym (take-append-drop (length word) text) ∙ ap (λ (w : List ℕ). w ++ drop (length word) text) (same_text (take (length word) text) word (sym same))

pub no_first_part : (word text rest : List ℕ) → pointwise nat_eq (take (length word) text) word ≡ false → text ≡ word ++ rest → ⊥
no_first_part word text rest other is = other_text (take (length word) text) word (sym other) (ap (take (length word)) is ∙ take_at word rest _ refl)

pub last_part : (word text : List ℕ) → pointwise nat_eq (drop (length text - length word) text) word ≡ true → text ≡ take (length text - length word) text ++ word
last_part word text same =
    sym (take-append-drop (length text - length word) text) ∙ ap (λ (w : List ℕ). take (length text - length word) text ++ w) (same_text (drop (length text - length word) text) word (sym same))

pub decimal-no_feed : (n : ℕ) → n < 2 ^ 64 → Contains (decimal n) 10 → ⊥
decimal-no_feed n small has =
    not_in_digits own (decimal n) 10 (digits_decimal own n small) (λ digit. omega (arith, digit.0)) has.0 has.1 (get_or_default (decimal n) has.0 0 10 has.1 ∙ has.2)

pub has_last : (front : List ℕ) → Contains (front ++ 10 ∷ []) 10
has_last front = Contains-append_right front (10 ∷ []) 10 (0, omega arith, refl)

-- no version stands where there is no number before the line feed
pub no_version : (word line number text : List ℕ) (found : Option ℕ) → line ≡ word ++ number → ((number ≡ text ++ 10 ∷ []) ⊎ ((number ≡ text) × ((front : List ℕ) → number ≡ front ++ 10 ∷ [] → ⊥))) → IfNone found ((n : ℕ) → n < 2 ^ 32 → text ≡ decimal n → ⊥) → IfNone found ((n : ℕ) → n < 2 ^ 32 → IsVersionLine word n line → ⊥)
no_version word line number text (Some m) is feed none = tt
no_version word line number text None is (inl feed) none = λ n small version. elim version [
  | inl same ↦
      let number_is : number ≡ decimal n = append_cancel_left word number (decimal n) (sym is ∙ same) in
      decimal-no_feed n (omega (arith, small)) (subst (λ (t : List ℕ). Contains t 10) (sym feed ∙ number_is) (has_last text))
  | inr same ↦
      let number_is : number ≡ decimal n ++ 10 ∷ [] = append_cancel_left word number (decimal n ++ 10 ∷ []) (sym is ∙ same ∙ append_assoc word (decimal n) (10 ∷ [])) in
      none n small (append_cancel_right text (decimal n) (10 ∷ []) (sym feed ∙ number_is))
]
no_version word line number text None is (inr feed) none = λ n small version. elim version [
  | inl same ↦ none n small (sym feed.0 ∙ append_cancel_left word number (decimal n) (sym is ∙ same))
  | inr same ↦ feed.1 (decimal n) (append_cancel_left word number (decimal n ++ 10 ∷ []) (sym is ∙ same ∙ append_assoc word (decimal n) (10 ∷ [])))
]
