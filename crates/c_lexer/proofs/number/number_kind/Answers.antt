use Rattle.std.proofs.Common.{◌≡◌, ◌<◌, ◌^◌, ◌==◌, Some, None, sym, ap, ◌∙◌}
use Rattle.std.specs.Str.Parse.{digits_value}
use Rattle.std.proofs.lemmas.Bool.{both_ways}
use Rattle.c_lexer.specs.Literals.{type_of}
use Rattle.c_lexer.proofs.NumberParts.{number_malformed, number_untyped, number_spelled, type_too_large}
use Rattle.c_lexer.proofs.number.number_kind.Goals as goal

pub returns-then-not-is_numeral : goal.returns-then-not-is_numeral
returns-then-not-is_numeral c =
    number_malformed c.without_suffix-suffixed.ensures c.based-base.ensures (λ numeral. both_ways _ c.if-not-is_numeral.true (c.is_numeral.ensures.1 numeral))

pub returns-in_default : goal.returns-in_default
returns-in_default c =
    number_untyped c.without_suffix-suffixed.ensures c.based-base.ensures (c.is_numeral.ensures.0 c.if-not-is_numeral.false)
    (type_too_large _ _ _ c.in_default.ensures)

pub returns-in_default-type_of : goal.returns-in_default-type_of
returns-in_default-type_of c =
    let held : (digits_value c.based-base.result.0 c.based-base.result.1.now < 2 ^ 32) × (c.in-Some.value ≡ digits_value c.based-base.result.0 c.based-base.result.1.now) = c.in-Some.ensures in
    let typed : None ≡ type_of (c.based-base.result.0 == 10) c.without_suffix-suffixed.result.1 c.in-Some.value = c.in_default-type_of.ensures in
    number_untyped c.without_suffix-suffixed.ensures c.based-base.ensures (c.is_numeral.ensures.0 c.if-not-is_numeral.false)
    (ap (type_of (c.based-base.result.0 == 10) c.without_suffix-suffixed.result.1) (sym held.1) ∙ sym typed)

pub returns : goal.returns
returns c =
    let held : (digits_value c.based-base.result.0 c.based-base.result.1.now < 2 ^ 32) × (c.in-Some.value ≡ digits_value c.based-base.result.0 c.based-base.result.1.now) = c.in-Some.ensures in
    let typed : Some c.in-Some-type_of.unsigned ≡ type_of (c.based-base.result.0 == 10) c.without_suffix-suffixed.result.1 c.in-Some.value = c.in-Some-type_of.ensures in
    number_spelled c.without_suffix-suffixed.ensures c.based-base.ensures c.in-Some.value c.in-Some-type_of.unsigned (c.is_numeral.ensures.0 c.if-not-is_numeral.false) held.1 (sym typed)
