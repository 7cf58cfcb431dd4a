-- The decimal of a number below 2 ^ 64, and what is read of a text.
use Rattle.std.proofs.Common.{◌≡◌, ◌≢◌, ℕ, zero, suc, ◌^◌, ◌<◌, List, length, get_or, decimal, Result, Ok, Err, IfSome, IfNone, sym, ◌∙◌, ap, arith}
use Rattle.std.specs.Result.{result_ok}
use Rattle.std.specs.Str.{IsUtf8}
use Rattle.std.specs.Str.Parse.{AllDigits, digits_value, ParsesUnsigned}
use Rattle.std.proofs.lemmas.Str.{IsUtf8-from_ascii}
use Rattle.std.proofs.lemmas.Str.Parse.{IsNumeralModel, numerals_by_value, tells_digits, parse_plain, not_in_digits}
use Rattle.std.proofs.lemmas.Fmt.{digits_decimal, decimal_nonempty, first_decimal, decimal_digit, IsAscii-decimal, decimal-digits_value, parse-decimal}

pub own : IsNumeralModel (AllDigits 10) (digits_value 10)
own = numerals_by_value (AllDigits 10) tells_digits

decimal-no_plus : (n : ℕ) → n < 2 ^ 64 → get_or (decimal n) 0 0 ≢ 43
decimal-no_plus n small = not_in_digits own (decimal n) 43 (digits_decimal own n small) (λ within. omega arith) 0 (decimal_nonempty n small)

decimal-zero : (n : ℕ) → n < 2 ^ 64 → get_or (decimal n) 0 0 ≡ 48 → length (decimal n) ≡ 1
decimal-zero zero small first = ap length (decimal_digit 0 (omega arith))
decimal-zero (suc n) small first = absurd (omega (arith, first_decimal (suc n) (omega arith) small))

-- a decimal begins with no sign, and with no zero before other bytes
pub decimal-plain : (text : List ℕ) (n : ℕ) → n < 2 ^ 64 → text ≡ decimal n → (get_or text 0 0 ≢ 43) × (get_or text 0 0 ≡ 48 → length text ≡ 1)
decimal-plain text n small is = rw is (decimal-no_plus n small, decimal-zero n small)

pub decimal-text : (text : List ℕ) (n : ℕ) → n < 2 ^ 64 → text ≡ decimal n → IsUtf8 text
decimal-text text n small is = rw is (IsUtf8-from_ascii (decimal n) (IsAscii-decimal n small))

-- what was read of a text with such a beginning is the number whose decimal the text is, where there is one
pub decimal-read : {E : Type 0} (text : List ℕ) (read : Result ℕ E) → (get_or text 0 0 ≢ 43) × (get_or text 0 0 ≡ 48 → length text ≡ 1) → ParsesUnsigned 64 10 text read → IfSome (result_ok read) (λ n. text ≡ decimal n)
decimal-read text (Err e) plain parses = tt
decimal-read {E} text (Ok n) plain parses =
    let told = parse_plain own {E = E} 64 text (Ok n) parses plain.0 in
    sym (decimal-digits_value own text told.0.0 told.0.1 plain.1 told.0.2) ∙ ap decimal (sym told.1)

pub decimal-unread : {E : Type 0} (text : List ℕ) (read : Result ℕ E) → ParsesUnsigned 64 10 text read → IfNone (result_ok read) ((n : ℕ) → n < 2 ^ 64 → text ≡ decimal n → ⊥)
decimal-unread text (Ok n) parses = tt
decimal-unread text (Err e) parses = λ n small spelt.
    let same = parse-decimal 64 n text (Err e) small small spelt parses in cc
