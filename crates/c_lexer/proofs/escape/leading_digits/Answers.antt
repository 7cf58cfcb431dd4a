use Rattle.std.proofs.Common.{◌≡◌, ◌+◌, ◌*◌, ◌<◌, ◌∙◌, ℕ, take, get_or, length, subst, sym, ap, rules}
use Rattle.std.specs.Char.{digit_value}
use Rattle.std.specs.Str.Parse.{digits_value}
use Rattle.std.proofs.lemmas.Int.Digits.{digits_more, digits_value_more}
use Rattle.c_lexer.specs.Elements.{KeepsByte}
use Rattle.c_lexer.proofs.escape.leading_digits.Goals as goal

pub loop-count-preserved : goal.loop-count-preserved
loop-count-preserved c =
    let value : ℕ = digits_value c.args.radix (take c.loop-count.count c.args.text.now) in
    let digit : ℕ = digit_value (get_or c.args.text.now c.loop-count.count 0) in
    let within : c.loop-count.count < length c.args.text.now = search rules in
    let low : digit < c.args.radix = search rules in
    let same : c.in-Some.digit ≡ digit = search rules in
    let step = digits_value_more c.args.radix c.args.text.now c.loop-count.count within in
    let next : value * c.args.radix + c.in-Some.digit ≡ digits_value c.args.radix (take (c.loop-count.count + 1) c.args.text.now) = ap (λ (d : ℕ). value * c.args.radix + d) same ∙ sym step in
    record {
      are = digits_more c.args.radix c.args.text.now c.loop-count.count within c.loop-count.invariant.are low;
      value = subst (λ (n : ℕ). KeepsByte n c.with_digit-value.result) next (c.with_digit-value.ensures value c.loop-count.invariant.value);
    }
