-- The bits of 64-bit words.
use Rattle.std.proofs.Common.{◌≡◌, ◌≢◌, ℕ, ◌+◌, ◌-◌, ◌*◌, ◌/◌, ◌%◌, ◌^◌, ◌<◌, ◌≤◌, List, length, set, get_or, replicate, sym, ap, ◌∙◌, subst, inl, inr, arith}
use Rattle.std.proofs.Math.Nat.{div-div-eq-div-mul}
use Rattle.std.proofs.lemmas.Bool.{cases_eq, cases_lt}
use Rattle.std.proofs.lemmas.List.{get_or-set_same, get_or-set_other, get_or_past, get_or-replicate, length-replicate}
use Rattle.std.proofs.lemmas.Nat.{pow-add}
use Rattle.std.proofs.lemmas.Nat.Bits.{bit_at_set_same, bit_at_set_other, bit_at-zero, bit_at_above, bit_at-trailing_zeros}
use Rattle.std.specs.Int.{bit_at, w64, trailing_zeros}
use Rattle.std.specs.Int.RustNames.{bit_or}
use Rattle.dm_sets.specs.Bits.{bit}

-- the bit that was set
pub bit-set_same : (words : List ℕ) (k : ℕ) → k / 64 < length words → bit (set words (k / 64) (bit_or (get_or words (k / 64) 0) (1 * 2 ^ (k % 64) % 2 ^ 64))) k ≡ 1
bit-set_same words k lt =
    rw get_or-set_same (let within : k % 64 < 64 = omega arith in bit_at_set_same w64 (get_or words (k / 64) 0) (k % 64) within)

-- the other bits
pub bit-set_other : (words : List ℕ) (k j : ℕ) → k / 64 < length words → (j ≡ k → ⊥) → bit (set words (k / 64) (bit_or (get_or words (k / 64) 0) (1 * 2 ^ (k % 64) % 2 ^ 64))) j ≡ bit words j
bit-set_other words k j lt differ = elim (cases_eq (j / 64) (k / 64)) [
  | inl same ↦
      let word = get_or words (k / 64) 0 in
      let within : k % 64 < 64 = omega arith in
      let apart : j % 64 ≢ k % 64 = λ e. differ (omega arith) in
      let there : bit_at (get_or (set words (k / 64) (bit_or word (1 * 2 ^ (k % 64) % 2 ^ 64))) (k / 64) 0) (j % 64) ≡ bit_at word (j % 64) = rw get_or-set_same (bit_at_set_other w64 word (k % 64) within (j % 64) apart) in
      subst (λ i. bit_at (get_or (set words (k / 64) (bit_or word (1 * 2 ^ (k % 64) % 2 ^ 64))) i 0) (j % 64) ≡ bit_at (get_or words i 0) (j % 64)) (sym same) there
  | inr other ↦ ap (λ w. bit_at w (j % 64)) (get_or-set_other words (k / 64) (j / 64) _ 0 other)
]

-- the bits of a number that is shifted down
shifted : (n low j : ℕ) → low ≤ j → bit_at (n / 2 ^ low) (j - low) ≡ bit_at n j
shifted n low j le =
    let whole : low + (j - low) ≡ j = omega arith in
    ap (λ x. x % 2) (div-div-eq-div-mul n (2 ^ low) (2 ^ (j - low)) ∙ ap (λ y. n / y) (sym (pow-add 2 low (j - low)) ∙ ap (λ k. 2 ^ k) whole))

-- a word that is 0 once it is shifted has no bit from there on
pub no_place : (word low : ℕ) → word / 2 ^ low ≡ 0 → (j : ℕ) → low ≤ j → bit_at word j ≡ 0
no_place word low zero j le = sym (shifted word low j le) ∙ ap (λ n. bit_at n (j - low)) zero ∙ bit_at-zero (j - low)

-- the least bit of a word that is not below a place
pub record IsFirstPlace (word low k : ℕ) : Type 0 where
  pub from : low ≤ k
  pub within : k < 64
  pub is : bit_at word k ≡ 1
  pub least : (j : ℕ) → low ≤ j → j < k → bit_at word j ≡ 0

pub first_place : (word low : ℕ) → word < 2 ^ 64 → word / 2 ^ low ≤ word → (word / 2 ^ low ≡ 0 → ⊥) → IsFirstPlace word low (low + trailing_zeros w64 (word / 2 ^ low))
first_place word low fits less some =
    let rest = word / 2 ^ low in
    let pos : 0 < rest = omega arith in
    let small : rest < 2 ^ 64 = omega arith in
    let tz = bit_at-trailing_zeros w64 rest pos small in
    let place = trailing_zeros w64 rest in
    let back : low + place - low ≡ place = omega arith in
    let up : low ≤ low + place = omega arith in
    let is : bit_at word (low + place) ≡ 1 = sym (shifted word low (low + place) up) ∙ ap (bit_at rest) back ∙ tz.1 in
    record {
      from = up;
      within = elim (cases_lt (low + place) 64) [
        | inl lt ↦ lt
        | inr ge ↦ absurd (let none : bit_at word (low + place) ≡ 0 = bit_at_above word 64 (low + place) fits ge in omega (arith, is, none))
      ];
      is = is;
      least = λ j le lt. let below : j - low < place = omega arith in sym (shifted word low j le) ∙ tz.2 (j - low) below;
    }

-- past the last word there is no bit
pub none_past : (words : List ℕ) (j : ℕ) → 64 * length words ≤ j → bit words j ≡ 0
none_past words j ge =
    let past : length words ≤ j / 64 = omega arith in
    ap (λ w. bit_at w (j % 64)) (get_or_past words (j / 64) 0 past) ∙ bit_at-zero (j % 64)

-- a bit is 0 or 1
pub bit_cases : (words : List ℕ) (k : ℕ) → (bit words k ≡ 1 → ⊥) → bit words k ≡ 0
bit_cases words k differ = omega arith

-- words without a bit
pub bit-replicate : (n k : ℕ) → bit (replicate n 0) k ≡ 0
bit-replicate n k =
    let none : get_or (replicate n 0) (k / 64) 0 ≡ 0 = elim (cases_lt (k / 64) n) [
      | inl lt ↦ get_or-replicate n (k / 64) 0 0 lt
      | inr ge ↦ (let past : length (replicate n 0) ≤ k / 64 = omega (arith, length-replicate {A = ℕ} n 0) in get_or_past (replicate n 0) (k / 64) 0 past)
    ] in
    ap (λ w. bit_at w (k % 64)) none ∙ bit_at-zero (k % 64)
