use Rattle.std.proofs.Common.{List, ℕ, subst, ◌∙◌, w32, rules}
use Rattle.std.specs.Prelude.{Some, FitsSigned}
use Rattle.std.proofs.lemmas.Bool.{iff_false}
use Rattle.std.proofs.lemmas.Int.{to_z-of_z}
use Rattle.c_lexer.specs.Elements.{HasNoElement, ReadsElement}
use Rattle.c_lexer.proofs.LiteralValues.{slice_later}
use Rattle.c_lexer.proofs.LiteralAnswers.{character_none, character_open, character_large, character_fits}
use Rattle.c_lexer.proofs.literal.read_character.Goals as goal

pub returns-in_default : goal.returns-in_default
returns-in_default c =
    let stop = subst (λ (i : List ℕ). HasNoElement 39 i) (slice_later 39 c.args.text.now c.requires.0 c.requires.1) c.in_default.ensures in
    character_none c.args.text.now c.requires.0 c.requires.1 stop

pub returns-then-not-has_byte : goal.returns-then-not-has_byte
returns-then-not-has_byte c =
    let reads = subst (λ (i : List ℕ). ReadsElement 39 i (Some c.in-Some.element)) (slice_later 39 c.args.text.now c.requires.0 c.requires.1) c.in-Some.ensures in
    character_open c.args.text.now c.requires.0 c.in-Some.element c.requires.1 reads (iff_false c.has_byte.ensures c.if-not-has_byte.true)

pub returns-in_default-value : goal.returns-in_default-value
returns-in_default-value c =
    let reads = subst (λ (i : List ℕ). ReadsElement 39 i (Some c.in-Some.element)) (slice_later 39 c.args.text.now c.requires.0 c.requires.1) c.in-Some.ensures in
    character_large c.args.text.now c.requires.0 c.in-Some.element c.requires.1 reads (c.has_byte.ensures.0 c.if-not-has_byte.false) c.in_default-value.is

pub returns : goal.returns
returns c =
    let reads = subst (λ (i : List ℕ). ReadsElement 39 i (Some c.in-Some.element)) (slice_later 39 c.args.text.now c.requires.0 c.requires.1) c.in-Some.ensures in
    let fits : FitsSigned w32 c.char_value.result = search rules in
    character_fits c.args.text.now c.requires.0 c.in-Some.element c.in-Some-value.value _ c.requires.1 reads (c.has_byte.ensures.0 c.if-not-has_byte.false) c.in-Some-value.is (to_z-of_z w32 c.char_value.result fits ∙ c.char_value.ensures)
