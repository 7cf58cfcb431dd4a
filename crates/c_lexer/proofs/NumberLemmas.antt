-- The digits of a constant, and its parts.
use Rattle.std.proofs.Common.{◌≡◌, ◌≤◌, ◌<◌, ◌+◌, ◌*◌, ℕ, zero, suc, List, [], ◌∷◌, length, get_or, take, ap, sym, ◌∙◌, arith}
use Rattle.std.specs.Char.{digit_value}
use Rattle.std.specs.Str.Parse.{AllDigits, digits_value}
use Rattle.std.proofs.lemmas.Int.Digits.{digits_value_more}
use Rattle.std.proofs.lemmas.Str.Parse.{digits_value-take-le}
use Rattle.std.proofs.lemmas.List.{take_all}

pub digit_within : (radix : ℕ) (ds : List ℕ) (i : ℕ) → AllDigits radix ds → i < length ds → digit_value (get_or ds i 0) < radix
digit_within radix [] i each within = absurd (omega arith)
digit_within radix (d ∷ ds) zero each within = each.0
digit_within radix (d ∷ ds) (suc i) each within = digit_within radix ds i each.1 (omega arith)

-- a front of the digits that is too large makes the whole too large
pub front_too_large : (radix : ℕ) (ds : List ℕ) (i n limit : ℕ) → 1 ≤ radix → i < length ds → n ≡ digits_value radix (take i ds) → (n * radix + digit_value (get_or ds i 0) < limit → ⊥) → digits_value radix ds < limit → ⊥
front_too_large radix ds i n limit low within is large small =
    let next : digits_value radix (take (i + 1) ds) ≡ digits_value radix (take i ds) * radix + digit_value (get_or ds i 0) = digits_value_more radix ds i within in
    let front : digits_value radix (take (i + 1) ds) ≤ digits_value radix ds = digits_value-take-le radix ds (i + 1) low in
    let same : n * radix + digit_value (get_or ds i 0) ≡ digits_value radix (take (i + 1) ds) = ap (λ m. m * radix + digit_value (get_or ds i 0)) is ∙ sym next in
    large (omega arith)

pub longer_front : (radix : ℕ) (ds : List ℕ) (i n longer : ℕ) → i < length ds → n ≡ digits_value radix (take i ds) → n * radix + digit_value (get_or ds i 0) ≡ longer → longer ≡ digits_value radix (take (i + 1) ds)
longer_front radix ds i n longer within is next = sym next ∙ ap (λ m. m * radix + digit_value (get_or ds i 0)) is ∙ sym (digits_value_more radix ds i within)

pub whole_value : (radix : ℕ) (ds : List ℕ) (i n : ℕ) → length ds ≤ i → n ≡ digits_value radix (take i ds) → n ≡ digits_value radix ds
whole_value radix ds i n all is = is ∙ ap (digits_value radix) (take_all i ds all)
