use Rattle.std.proofs.Common.{◌≡◌, ◌<◌, ◌+◌, ◌*◌, ◌^◌, get_or, arith, subst, sym, ℕ}
use Rattle.std.specs.Char.{digit_value}
use Rattle.c_lexer.proofs.NumberLemmas.{digit_within, front_too_large, longer_front, whole_value}
use Rattle.c_lexer.proofs.number.number_of.Goals as goal

pub with_digit-requires-clause-digit : goal.with_digit-requires-clause-digit
with_digit-requires-clause-digit c = digit_within c.args.base c.args.digits.now c.loop-digit.digit-index c.requires.numeral.1 c.loop-digit-test.true

pub returns-in_default : goal.returns-in_default
returns-in_default c =
    front_too_large c.args.base c.args.digits.now c.loop-digit.digit-index c.loop-digit.number (2 ^ 32) (omega arith) c.loop-digit-test.true c.loop-digit.invariant.0 c.in_default.ensures

pub loop-digit-preserved : goal.loop-digit-preserved
loop-digit-preserved c =
    let next : (c.loop-digit.number * c.args.base + digit_value (get_or c.args.digits.now c.loop-digit.digit-index 0) < 2 ^ 32) × (c.in-Some.longer ≡ c.loop-digit.number * c.args.base + digit_value (get_or c.args.digits.now c.loop-digit.digit-index 0)) = c.in-Some.ensures in
    let P : ℕ → Type 0 = λ n. n < 2 ^ 32 in
    (longer_front c.args.base c.args.digits.now c.loop-digit.digit-index c.loop-digit.number c.in-Some.longer c.loop-digit-test.true c.loop-digit.invariant.0 (sym next.1), subst P (sym next.1) next.0)

pub returns : goal.returns
returns c =
    let whole = whole_value c.args.base c.args.digits.now c.loop-digit.digit-index c.loop-digit.number c.loop-digit-test.false c.loop-digit.invariant.0 in
    (let P : ℕ → Type 0 = λ n. n < 2 ^ 32 in subst P whole c.loop-digit.invariant.1, whole)
