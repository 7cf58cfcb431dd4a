use Rattle.std.proofs.Common.{sym, ap, ◌∙◌, nat_lt, get_or}
use Rattle.std.specs.Char.{digit_value}
use Rattle.std.proofs.lemmas.Bool.{false≢true, lt-ltb, ltb-true}
use Rattle.std.proofs.lemmas.Int.Digits.{digits_more}
use Rattle.c_lexer.proofs.NumberLemmas.{digit_within}
use Rattle.c_lexer.proofs.number.is_numeral.Goals as goal

pub returns-then-not-is_digit : goal.returns-then-not-is_digit
returns-then-not-is_digit c = (
  λ e. absurd (false≢true e),
  λ numeral.
      let digit = digit_within c.args.base c.args.digits.now c.loop-digit.digit-index numeral.1 c.loop-digit-test.true in
      sym c.if-not-is_digit.true ∙ c.is_digit.ensures.value ∙ ap (λ b. nat_lt (digit_value b) c.args.base) c.from.ensures ∙ lt-ltb _ _ digit,
)

pub loop-digit-preserved : goal.loop-digit-preserved
loop-digit-preserved c =
    digits_more c.args.base c.args.digits.now c.loop-digit.digit-index c.loop-digit-test.true c.loop-digit.invariant
    (ltb-true (digit_value (get_or c.args.digits.now c.loop-digit.digit-index 0)) c.args.base
    (sym (ap (λ b. nat_lt (digit_value b) c.args.base) c.from.ensures) ∙ sym c.is_digit.ensures.value ∙ c.if-not-is_digit.false))
