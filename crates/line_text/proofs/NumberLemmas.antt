-- Numbers whose decimals begin with given digits.
use Rattle.std.proofs.Common.{◌≡◌, ◌≢◌, ℕ, zero, suc, ◌+◌, ◌*◌, ◌/◌, ◌%◌, ◌^◌, ◌<◌, ◌≤◌, List, [], ◌∷◌, ◌++◌, length, take, get_or, decimal, refl, sym, ◌∙◌, ap, subst, inl, inr, append_assoc, arith, length-append}
use Rattle.std.specs.Prelude.{◌⊎◌, ◌↔◌}
use Rattle.std.proofs.Math.Nat.{one-le-pow, pow-succ', le-mul_of_pos_right}
use Rattle.std.proofs.lemmas.List.{append-nil, take_more, take_all, length-take-le, nil_from_length, same_from_push}
use Rattle.std.proofs.lemmas.Fmt.{decimal_digit, decimal_step, decimal_injective, decimal_nonempty, digits_decimal}
use Rattle.std.specs.Int.{IsInRange}
use Rattle.std.specs.Str.Parse.{AllDigits}
use Rattle.std.proofs.lemmas.Str.Parse.{digit_from_value}
use Rattle.std.proofs.lemmas.Bool.{cases_lt}
use Rattle.line_text.specs.Numbers.{IsFrontOf}
use Rattle.line_text.specs.Reading.{Agree, StandsFirst}
use Rattle.line_text.specs.Spelling.{BeginsOne}
use Rattle.line_text.specs.Words.{IsEnd, IsPlain, ended_word, number_word}
use Rattle.dm_base.proofs.Decimals.{own}
use Rattle.line_text.proofs.WordLemmas.{value_stands, no_value_stands}

pub front_same : (m n : ℕ) → n ≡ m → IsFrontOf m n
front_same m n is = (0, 0, omega arith, omega arith)

pub front_of_shorter : (m n : ℕ) → IsFrontOf m (n / 10) → IsFrontOf m n
front_of_shorter m n (k, j, small, is) =
    (suc k, 10 * j + n % 10, rw pow-succ' (omega arith), rw pow-succ' (omega arith))

pub front_cases : (m n : ℕ) → IsFrontOf m n → (n ≡ m) ⊎ IsFrontOf m (n / 10)
front_cases m n (zero, j, small, is) = inl (omega arith)
front_cases m n (suc k, j, small, is) =
    let small' : j < 10 * 10 ^ k = rw pow-succ' at small in
    let is' : n ≡ m * (10 * 10 ^ k) + j = rw pow-succ' at is in
    inr (k, j / 10, omega arith, omega arith)

pub front_le : (m n : ℕ) → IsFrontOf m n → m ≤ n
front_le m n (k, j, small, is) =
    let most : m ≤ m * 10 ^ k = le-mul_of_pos_right m (one-le-pow k 10 (omega arith)) in
    omega arith

-- the numbers of a range that begin with m are m itself, and those that are one digit longer than such numbers of the range without its last digits

pub begun_in_range : (m least most : ℕ) → least ≤ most → ((n : ℕ) × (least / 10 ≤ n) × (n ≤ most / 10) × IsFrontOf m n) → (n : ℕ) × (least ≤ n) × (n ≤ most) × IsFrontOf m n
begun_in_range m least most range (n, low, high, front) =
    elim (cases_lt (10 * n) least) [
      | inl below ↦
          let same : least / 10 ≡ n = omega arith in
          (least, omega arith, range, front_of_shorter m least (subst (IsFrontOf m) (sym same) front))
      | inr above ↦
          let same : (10 * n) / 10 ≡ n = omega arith in
          (10 * n, above, omega arith, front_of_shorter m (10 * n) (subst (IsFrontOf m) (sym same) front))
    ]

pub range_of_begun : (m least most : ℕ) → m < least → ((n : ℕ) × (least ≤ n) × (n ≤ most) × IsFrontOf m n) → (n : ℕ) × (least / 10 ≤ n) × (n ≤ most / 10) × IsFrontOf m n
range_of_begun m least most below (n, low, high, front) =
    elim (front_cases m n front) [
      | inl same ↦ absurd (omega arith)
      | inr shorter ↦ (n / 10, omega arith, omega arith, shorter)
    ]

-- the digits

pub decimal_of_longer : (m n : ℕ) → 0 < m → n < 2 ^ 64 → IsFrontOf m n → (rest : List ℕ) × (decimal n ≡ decimal m ++ rest)
decimal_of_longer m n some small (k, j, below, is) = digits_of_longer m k n j some small below is where
  digits_of_longer : (m k n j : ℕ) → 0 < m → n < 2 ^ 64 → j < 10 ^ k → n ≡ m * 10 ^ k + j → (rest : List ℕ) × (decimal n ≡ decimal m ++ rest)
  digits_of_longer m zero n j some small below is =
      let same : n ≡ m = omega arith in
      ([], ap decimal same ∙ sym (append-nil (decimal m)))
  digits_of_longer m (suc k) n j some small below is =
      let below' : j < 10 * 10 ^ k = rw pow-succ' at below in
      let is' : n ≡ m * (10 * 10 ^ k) + j = rw pow-succ' at is in
      let most : m ≤ m * 10 ^ k = le-mul_of_pos_right m (one-le-pow k 10 (omega arith)) in
      let shorter = digits_of_longer m k (n / 10) (j / 10) some (omega arith) (omega arith) (omega arith) in
      (shorter.0 ++ (48 + n % 10) ∷ [], decimal_step n (omega arith) small ∙ ap (λ w. w ++ (48 + n % 10) ∷ []) shorter.1 ∙ append_assoc (decimal m) shorter.0 ((48 + n % 10) ∷ []))

-- the digits with which a decimal begins are a decimal
pub decimal_of_front : (front rest : List ℕ) (n : ℕ) → front ≢ [] → n < 2 ^ 64 → decimal n ≡ front ++ rest → (m : ℕ) × (front ≡ decimal m) × IsFrontOf m n × (m ≡ 0 → n ≡ 0)
decimal_of_front front rest n some small is = digits_of_front (length rest) front rest n refl some small is where
  digits_of_front : (k : ℕ) (front rest : List ℕ) (n : ℕ) → length rest ≡ k → front ≢ [] → n < 2 ^ 64 → decimal n ≡ front ++ rest → (m : ℕ) × (front ≡ decimal m) × IsFrontOf m n × (m ≡ 0 → n ≡ 0)
  digits_of_front zero front rest n many some small is =
      (n, sym (append-nil front) ∙ ap (λ w. front ++ w) (sym (nil_from_length rest many)) ∙ sym is, front_same n n refl, λ none. none)
  digits_of_front (suc k) front rest n many some small is =
      let last : rest ≡ take k rest ++ get_or rest k 0 ∷ [] = sym (take_all (k + 1) rest (omega arith)) ∙ take_more rest k 0 (omega arith) in
      let parts : decimal n ≡ (front ++ take k rest) ++ get_or rest k 0 ∷ [] = is ∙ ap (λ w. front ++ w) last ∙ sym (append_assoc front (take k rest) (get_or rest k 0 ∷ [])) in
      let long : 10 ≤ n = two_digits n front rest some (omega arith) is in
      let step = same_from_push (decimal (n / 10)) (front ++ take k rest) (48 + n % 10) (get_or rest k 0) (sym (decimal_step n long small) ∙ parts) in
      let shorter = digits_of_front k front (take k rest) (n / 10) (length-take-le k rest (omega arith)) some (omega arith) step.0 in
      (shorter.0, shorter.1, front_of_shorter shorter.0 n shorter.2, λ none. absurd (omega (arith, shorter.3 none)))
    where
      two_digits : (n : ℕ) (front rest : List ℕ) → front ≢ [] → 0 < length rest → decimal n ≡ front ++ rest → 10 ≤ n
      two_digits n [] rest some more is = absurd (some refl)
      two_digits n (b ∷ front) rest some more is =
          elim (cases_lt n 10) [
            | inl below ↦
                let one : length (decimal n) ≡ 1 = ap length (decimal_digit n below) in
                let both : length (decimal n) ≡ suc (length front + length rest) = ap length is ∙ ap suc (length-append front rest) in
                absurd (omega arith)
            | inr long ↦ long
          ]

-- the digits read

pub begins_all : (least most : ℕ) → least ≤ most → BeginsOne (λ n. (least ≤ n) × (n ≤ most)) decimal []
begins_all least most range = (least, decimal least, (omega arith, range), refl)

pub nonempty_decimal : (n : ℕ) → n < 2 ^ 64 → decimal n ≢ []
nonempty_decimal n small none = omega (arith, decimal_nonempty n small, ap length none)

pub begins_zero : (text : List ℕ) (least most : ℕ) → text ≡ decimal 0 → least ≤ most → most < 2 ^ 64 → (least ≡ 0) ↔ BeginsOne (λ n. (least ≤ n) × (n ≤ most)) decimal text
begins_zero text least most is range small = (
  λ none. (0, [], (omega arith, omega arith), sym is ∙ sym (append-nil text)),
  λ (n, rest, within, begins).
      let found = decimal_of_front text rest n (λ empty. nonempty_decimal 0 (omega arith) (sym is ∙ empty)) (omega (arith, within.1)) begins in
      let none : found.0 ≡ 0 = decimal_injective found.0 0 (omega (arith, front_le found.0 n found.2, within.1)) (omega arith) (sym found.1 ∙ is) in
      omega (arith, found.3 none, within.0),
)

pub begins_some : (text : List ℕ) (front least most : ℕ) → text ≡ decimal front → 0 < front → front < 2 ^ 64 → most < 2 ^ 64 → ((n : ℕ) × (least ≤ n) × (n ≤ most) × IsFrontOf front n) ↔ BeginsOne (λ n. (least ≤ n) × (n ≤ most)) decimal text
begins_some text front least most is some fits small = (
  λ (n, low, high, goes_on).
      let found = decimal_of_longer front n some (omega arith) goes_on in
      (n, found.0, (low, high), found.1 ∙ ap (λ w. w ++ found.0) (sym is)),
  λ (n, rest, within, begins).
      let found = decimal_of_front text rest n (λ empty. nonempty_decimal front fits (sym is ∙ empty)) (omega (arith, within.1)) begins in
      let same : found.0 ≡ front = decimal_injective found.0 front (omega (arith, front_le found.0 n found.2, within.1)) fits (sym found.1 ∙ is) in
      (n, within.0, within.1, subst (λ (m : ℕ). IsFrontOf m n) same found.2),
)

pub begins_none : (text : List ℕ) (least most : ℕ) → text ≢ [] → most < 2 ^ 64 → ((n : ℕ) → n < 2 ^ 64 → text ≡ decimal n → ⊥) → BeginsOne (λ n. (least ≤ n) × (n ≤ most)) decimal text → ⊥
begins_none text least most some small none (n, rest, within, begins) =
    let found = decimal_of_front text rest n some (omega (arith, within.1)) begins in
    none found.0 (omega (arith, front_le found.0 n found.2, within.1)) found.1

-- decimals are plain words

digits_plain : (ds : List ℕ) → AllDigits 10 ds → IsPlain ds
digits_plain [] digits = tt
digits_plain (c ∷ ds) digits = (digit_no_end c (digit_from_value c digits.0), digits_plain ds digits.1) where
  digit_no_end : (c : ℕ) → IsInRange 48 57 c → IsEnd c → ⊥
  digit_no_end c within (inl is) = omega (arith, within.0)
  digit_no_end c within (inr is) = omega (arith, within.0)

pub decimal-IsPlain : (n : ℕ) → n < 2 ^ 64 → IsPlain (decimal n)
decimal-IsPlain n small = digits_plain (decimal n) (digits_decimal own n small)

-- the readers of numbers

pub number_stands : (least most end : ℕ) (old new word : List ℕ) (n : ℕ) → most < 2 ^ 64 → StandsFirst IsPlain (ended_word end) old new word → (least ≤ n) × (n ≤ most) × (word ≡ decimal n) → StandsFirst (λ m. (least ≤ m) × (m ≤ most)) (number_word end) old new n
number_stands least most end old new word n small first (low, high, is) =
    value_stands (λ m. (least ≤ m) × (m ≤ most)) decimal end old new word n (λ m within. decimal-IsPlain m (omega (arith, within.1))) first (low, high) is
    (λ m within same. decimal_injective m n (omega (arith, within.1)) (omega arith) same)

pub no_number_stands : (least most end : ℕ) (old new word : List ℕ) → most < 2 ^ 64 → StandsFirst IsPlain (ended_word end) old new word → ((n : ℕ) → least ≤ n → n ≤ most → word ≡ decimal n → ⊥) → (n : ℕ) → (least ≤ n) × (n ≤ most) → Agree (number_word end n) old → ⊥
no_number_stands least most end old new word small first none =
    no_value_stands (λ m. (least ≤ m) × (m ≤ most)) decimal end old new word (λ m within. decimal-IsPlain m (omega (arith, within.1))) first (λ m within is. none m within.0 within.1 is)
