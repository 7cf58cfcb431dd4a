use Rattle.std.proofs.Common.{List, ℕ, subst, ◌∙◌}
use Rattle.std.proofs.lemmas.Bool.{iff_false}
use Rattle.c_lexer.specs.Elements.{ReadsElements}
use Rattle.c_lexer.proofs.LiteralValues.{slice_later}
use Rattle.c_lexer.proofs.LiteralAnswers.{string_open, string_large, string_fits}
use Rattle.c_lexer.proofs.literal.read_string.Goals as goal

pub returns-then-not-has_byte : goal.returns-then-not-has_byte
returns-then-not-has_byte c =
    let reads = subst (λ (i : List ℕ). ReadsElements 34 i c.in_ok-elements.elements) (slice_later 34 c.args.text.now c.requires.0 c.requires.1) c.in_ok-elements.ensures in
    string_open c.args.text.now c.requires.0 c.in_ok-elements.elements c.requires.1 reads (iff_false c.has_byte.ensures c.if-not-has_byte.true)

pub returns-then-elements : goal.returns-then-elements
returns-then-elements c =
    let reads = subst (λ (i : List ℕ). ReadsElements 34 i c.in_ok-elements.elements) (slice_later 34 c.args.text.now c.requires.0 c.requires.1) c.in_ok-elements.ensures in
    string_large c.args.text.now c.requires.0 c.in_ok-elements.elements c.requires.1 reads (c.has_byte.ensures.0 c.if-not-has_byte.false) c.if-elements.true

pub returns : goal.returns
returns c =
    let reads = subst (λ (i : List ℕ). ReadsElements 34 i c.in_ok-elements.elements) (slice_later 34 c.args.text.now c.requires.0 c.requires.1) c.in_ok-elements.ensures in
    string_fits c.args.text.now c.requires.0 c.in_ok-bytes.bytes c.in_ok-elements.elements c.requires.1 reads (c.has_byte.ensures.0 c.if-not-has_byte.false) c.if-elements.false (c.in_ok-bytes.ensures ∙ c.deref.ensures.value)
