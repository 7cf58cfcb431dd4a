-- Words in lower-case hexadecimal.
use Rattle.std.proofs.Common.{◌≡◌, ◌≢◌, ℕ, zero, suc, ◌+◌, ◌-◌, ◌*◌, ◌/◌, ◌%◌, ◌<◌, Bool, true, not, cond, nat_eq, nat_lt, nat_le, ◌&&◌, ◌||◌, List, [], ◌∷◌, ◌++◌, length, slice_index, Result, Ok, Err, refl, sym, ◌∙◌, ap, subst, inl, inr, arith, length-append}
use Rattle.std.specs.Prelude.{◌⊎◌, All}
use Rattle.std.proofs.lemmas.Bool.{agree_below, agree_below_at, eqb-true, or_cases, and_parts, cases_eq, both_ways, not-true, ltb-true}
use Rattle.std.proofs.lemmas.List.Elements.{All-cons, All-head, All-nil, All-tail}
use Rattle.hex.specs.Hex.{IsBytes, decode_of, encode_lower, encode_with, lower_digits}
use Rattle.hex.proofs.HexLemmas.{decode_of-encode_lower, decode_of-same, length-encode_with}
use Rattle.line_text.specs.Hexadecimal.{IsLowerDigit}
use Rattle.line_text.specs.Spelling.{BeginsOne, Spells}
use Rattle.line_text.specs.declared.miss.Miss.{Miss}
use Rattle.line_text.specs.declared.miss.Miss.TheVariants.{OutOfMemory, Short, Wrong}
use Rattle.line_text.specs.Words.{IsEnd, IsPlain, bytes_text}

-- every byte is a lower-case digit
abbrev pub AreLower : List ℕ → Type 0
AreLower [] = Unit {0}
AreLower (b ∷ text) = IsLowerDigit b × AreLower text

pub lower_from_all : (text : List ℕ) → All IsLowerDigit text → AreLower text
lower_from_all [] all = tt
lower_from_all (b ∷ text) all = (All-head IsLowerDigit b text all, lower_from_all text (All-tail IsLowerDigit b text all))

pub all_from_lower : (text : List ℕ) → AreLower text → All IsLowerDigit text
all_from_lower [] lower = All-nil IsLowerDigit
all_from_lower (b ∷ text) lower = All-cons IsLowerDigit b text lower.0 (all_from_lower text lower.1)

lower_front : (a b : List ℕ) → AreLower (a ++ b) → AreLower a
lower_front [] b lower = tt
lower_front (x ∷ a) b lower = (lower.0, lower_front a b lower.1)

lower_append : (a b : List ℕ) → AreLower a → AreLower b → AreLower (a ++ b)
lower_append [] b in_a in_b = in_b
lower_append (x ∷ a) b in_a in_b = (in_a.0, lower_append a b in_a.1 in_b)

lower_no_end : (b : ℕ) → IsLowerDigit b → IsEnd b → ⊥
lower_no_end b (inl digit) (inl is) = omega arith
lower_no_end b (inl digit) (inr is) = omega arith
lower_no_end b (inr letter) (inl is) = omega arith
lower_no_end b (inr letter) (inr is) = omega arith

lower-IsPlain : (text : List ℕ) → AreLower text → IsPlain text
lower-IsPlain [] lower = tt
lower-IsPlain (b ∷ text) lower = (lower_no_end b lower.0, lower-IsPlain text lower.1)

-- the value of a lower-case digit
digit_value : ℕ → ℕ
digit_value b = cond (nat_lt b 58) (b - 48) (b - 87)

-- the tests of the 16 digits, which compute

is_lower : ℕ → Bool
is_lower b = (nat_le 48 b && nat_le b 57) || (nat_le 97 b && nat_le b 102)

spells_itself : ℕ → Bool
spells_itself b = not (is_lower b) || (nat_lt (digit_value b) 16 && nat_eq (slice_index lower_digits (digit_value b)) b)

spells_lower : ℕ → Bool
spells_lower d = is_lower (slice_index lower_digits d)

all_spell : agree_below spells_itself (λ _. true) 103 ≡ true
unfolding spells_itself is_lower digit_value
all_spell = refl

all_lower : agree_below spells_lower (λ _. true) 16 ≡ true
unfolding spells_lower is_lower
all_lower = refl

lower_from_test : (b : ℕ) → is_lower b ≡ true → IsLowerDigit b
unfolding is_lower
lower_from_test b holds = grind arith

test_from_lower : (b : ℕ) → IsLowerDigit b → is_lower b ≡ true
unfolding is_lower
test_from_lower b (inl digit) = grind arith
test_from_lower b (inr letter) = grind arith

below_103 : (b : ℕ) → IsLowerDigit b → b < 103
below_103 b (inl digit) = omega arith
below_103 b (inr letter) = omega arith

digit_of : (b : ℕ) → IsLowerDigit b → (digit_value b < 16) × (slice_index lower_digits (digit_value b) ≡ b)
unfolding spells_itself
digit_of b lower =
    elim (or_cases (not (is_lower b)) (nat_lt (digit_value b) 16 && nat_eq (slice_index lower_digits (digit_value b)) b) (agree_below_at spells_itself (λ _. true) 103 b all_spell (below_103 b lower))) [
      | inl other ↦ absurd (both_ways (is_lower b) (not-true (is_lower b) other) (test_from_lower b lower))
      | inr holds ↦
          let parts = and_parts (nat_lt (digit_value b) 16) (nat_eq (slice_index lower_digits (digit_value b)) b) holds in
          (ltb-true (digit_value b) 16 parts.0, eqb-true (slice_index lower_digits (digit_value b)) b parts.1)
    ]

lower_at : (d : ℕ) → d < 16 → IsLowerDigit (slice_index lower_digits d)
unfolding spells_lower
lower_at d below = lower_from_test (slice_index lower_digits d) (agree_below_at spells_lower (λ _. true) 16 d all_lower below)

IsBytes-cons : (b : ℕ) (rest : List ℕ) → b < 256 → IsBytes rest → IsBytes (b ∷ rest)
IsBytes-cons b rest small bytes zero = small
IsBytes-cons b rest small bytes (suc i) = bytes i

-- an even number of lower-case digits spells bytes
bytes_of : (text : List ℕ) → length text % 2 ≡ 0 → AreLower text → (bytes : List ℕ) × IsBytes bytes × (text ≡ encode_lower bytes)
unfolding encode_with
bytes_of [] even lower = ([], λ k. omega arith, refl)
bytes_of (a ∷ []) even lower = absurd (omega arith)
bytes_of (a ∷ b ∷ text) even lower =
    let high = digit_of a lower.0 in
    let low = digit_of b lower.1.0 in
    let more = bytes_of text (omega arith) lower.1.1 in
    let byte = digit_value a * 16 + digit_value b in
    let front : byte / 16 ≡ digit_value a = omega (arith, low.0) in
    let back : byte % 16 ≡ digit_value b = omega (arith, low.0) in
    let first : slice_index lower_digits (byte / 16) ≡ a = ap (slice_index lower_digits) front ∙ high.1 in
    let second : slice_index lower_digits (byte % 16) ≡ b = ap (slice_index lower_digits) back ∙ low.1 in
    (byte ∷ more.0, IsBytes-cons byte more.0 (omega (arith, high.0, low.0)) more.1, rw (first, second) (ap (λ w. a ∷ b ∷ w) more.2))

-- the text of bytes has two lower-case digits for each
lower_of_encode : (bytes : List ℕ) → IsBytes bytes → AreLower (encode_lower bytes)
unfolding encode_with
lower_of_encode [] is_bytes = tt
lower_of_encode (b ∷ bytes) is_bytes =
    let small : b < 256 = is_bytes 0 in
    (lower_at (b / 16) (omega arith), (lower_at (b % 16) (omega arith), lower_of_encode bytes (λ i. is_bytes (suc i))))

-- bytes that are some
abbrev pub AreSome : List ℕ → Type 0
AreSome bytes = IsBytes bytes × (bytes ≢ [])

length_some : (bytes : List ℕ) → bytes ≢ [] → 0 < length bytes
length_some [] some = absurd (some refl)
length_some (b ∷ bytes) some = omega arith

pub hexadecimal-text : (bytes text : List ℕ) → AreSome bytes → text ≡ encode_lower bytes → (0 < length text) × (length text % 2 ≡ 0) × AreLower text
hexadecimal-text bytes text fits is =
    let len : length text ≡ 2 * length bytes = ap length is ∙ length-encode_with lower_digits bytes in
    let some = length_some bytes fits.1 in
    (omega arith, omega arith, subst AreLower (sym is) (lower_of_encode bytes fits.0))

pub hexadecimal-spelt : (text decoded : List ℕ) → 0 < length text → length text % 2 ≡ 0 → AreLower text → decode_of text ≡ Ok decoded → AreSome decoded × (text ≡ encode_lower decoded)
hexadecimal-spelt text decoded some even lower reads =
    let found = bytes_of text even lower in
    let back : decode_of text ≡ Ok found.0 = ap decode_of found.2 ∙ decode_of-encode_lower found.0 found.1 in
    let same : found.0 ≡ decoded = decode_of-same text found.0 decoded back reads in
    let spelt : text ≡ encode_lower decoded = found.2 ∙ ap encode_lower same in
    ((subst IsBytes same found.1, λ none. nothing spelt none), spelt)
  where
    nothing : text ≡ encode_lower decoded → decoded ≡ [] → ⊥
    nothing spelt none =
        let len : length text ≡ 2 * length decoded = ap length spelt ∙ length-encode_with lower_digits decoded in
        let empty : length decoded ≡ 0 = ap length none in
        omega arith

pub encode-injective : (a b : List ℕ) → IsBytes a → IsBytes b → encode_lower a ≡ encode_lower b → a ≡ b
encode-injective a b bytes_a bytes_b is =
    decode_of-same (encode_lower b) a b (ap decode_of (sym is) ∙ decode_of-encode_lower a bytes_a) (decode_of-encode_lower b bytes_b)

pub hexadecimal-IsPlain : (bytes : List ℕ) → IsBytes bytes → IsPlain (encode_lower bytes)
hexadecimal-IsPlain bytes is_bytes = lower-IsPlain (encode_lower bytes) (lower_of_encode bytes is_bytes)

-- what a text begins

pub lower_of_front : (text : List ℕ) → BeginsOne AreSome encode_lower text → AreLower text
lower_of_front text (bytes, rest, fits, is) = lower_front text rest (subst AreLower is (lower_of_encode bytes fits.0))

zero_digit : IsLowerDigit 48
zero_digit = inl (omega arith, omega arith)

pub front_of_lower : (text : List ℕ) → AreLower text → BeginsOne AreSome encode_lower text
front_of_lower text lower =
    elim (cases_eq (length text % 2) 0) [
      | inl even ↦ front_with text (48 ∷ 48 ∷ []) lower (zero_digit, (zero_digit, tt)) (omega arith) (omega arith)
      | inr odd ↦ front_with text (48 ∷ []) lower (zero_digit, tt) (omega arith) (omega arith)
    ]
  where
    front_with : (text more : List ℕ) → AreLower text → AreLower more → 0 < length more → (length text + length more) % 2 ≡ 0 → BeginsOne AreSome encode_lower text
    front_with text more lower lower_more some even =
        let len = length-append text more in
        let found = bytes_of (text ++ more) (rw len even) (lower_append text more lower lower_more) in
        (found.0, more, (found.1, λ none. nothing text more found.0 found.2 some none), sym found.2)
      where
        nothing : (text more bytes : List ℕ) → text ++ more ≡ encode_lower bytes → 0 < length more → bytes ≡ [] → ⊥
        nothing text more bytes spelt some none =
            let len : length text + length more ≡ 2 * length bytes = sym (length-append text more) ∙ ap length spelt ∙ length-encode_with lower_digits bytes in
            let empty : length bytes ≡ 0 = ap length none in
            omega arith

-- bytes as a word, `-` for none

pub some-bytes_text : (bytes : List ℕ) → bytes ≢ [] → bytes_text bytes ≡ encode_lower bytes
some-bytes_text [] some = absurd (some refl)
some-bytes_text (b ∷ bytes) some = refl

minus_plain : IsPlain (45 ∷ [])
minus_plain = (minus_no_end, tt) where
  minus_no_end : IsEnd 45 → ⊥
  minus_no_end (inl is) = omega arith
  minus_no_end (inr is) = omega arith

pub bytes-IsPlain : (bytes : List ℕ) → IsBytes bytes → IsPlain (bytes_text bytes)
bytes-IsPlain [] is_bytes = minus_plain
bytes-IsPlain (b ∷ bytes) is_bytes = hexadecimal-IsPlain (b ∷ bytes) is_bytes

minus_not_lower : (bytes : List ℕ) → IsBytes bytes → 45 ∷ [] ≡ encode_lower bytes → ⊥
minus_not_lower bytes is_bytes is = not_lower (subst AreLower (sym is) (lower_of_encode bytes is_bytes)) where
  not_digit : IsLowerDigit 45 → ⊥
  not_digit (inl digit) = omega arith
  not_digit (inr letter) = omega arith

  not_lower : AreLower (45 ∷ []) → ⊥
  not_lower lower = not_digit lower.0

pub bytes-injective : (a b : List ℕ) → IsBytes a → IsBytes b → bytes_text a ≡ bytes_text b → a ≡ b
bytes-injective [] [] bytes_a bytes_b is = refl
bytes-injective [] (y ∷ b) bytes_a bytes_b is = absurd (minus_not_lower (y ∷ b) bytes_b is)
bytes-injective (x ∷ a) [] bytes_a bytes_b is = absurd (minus_not_lower (x ∷ a) bytes_a (sym is))
bytes-injective (x ∷ a) (y ∷ b) bytes_a bytes_b is = encode-injective (x ∷ a) (y ∷ b) bytes_a bytes_b is

-- what spells some bytes spells those, and what is no minus and spells none of them spells none
pub bytes-spelt : (word : List ℕ) (found : Result (List ℕ) Miss) → word ≢ 45 ∷ [] → Spells AreSome encode_lower word found → Spells IsBytes bytes_text word found
bytes-spelt word (Ok bytes) other (fits, is) = (fits.0, is ∙ sym (some-bytes_text bytes fits.1))
bytes-spelt word (Err OutOfMemory) other spells = tt
bytes-spelt word (Err Short) other spells = spells
bytes-spelt word (Err Wrong) other spells = no_bytes where
  no_bytes : (bytes : List ℕ) → IsBytes bytes → word ≡ bytes_text bytes → ⊥
  no_bytes [] is_bytes is = other is
  no_bytes (b ∷ bytes) is_bytes is = spells (b ∷ bytes) (is_bytes, λ none. cc) is

pub front_of_bytes : (text : List ℕ) → AreLower text → BeginsOne IsBytes bytes_text text
front_of_bytes text lower =
    let found = front_of_lower text lower in
    (found.0, found.1, found.2.0, some-bytes_text found.0 found.2.1 ∙ found.3)

pub front_of_minus : BeginsOne IsBytes bytes_text (45 ∷ [])
front_of_minus = ([], [], (λ i. omega arith), refl)

pub bytes_of_front : (text : List ℕ) → BeginsOne IsBytes bytes_text text → AreLower text ⊎ (text ≡ 45 ∷ [])
bytes_of_front text ([], rest, fits, is) = front_of_one text rest is where
  front_of_one : (text rest : List ℕ) → 45 ∷ [] ≡ text ++ rest → AreLower text ⊎ (text ≡ 45 ∷ [])
  front_of_one [] rest is = inl tt
  front_of_one (x ∷ []) rest is = inr cc
  front_of_one (x ∷ y ∷ text) rest is = absurd cc
bytes_of_front text (b ∷ bytes, rest, fits, is) = inl (lower_of_front text (b ∷ bytes, rest, (fits, λ none. cc), is))
