use Rattle.std.proofs.Common.{◌≡◌, ◌∷◌, ◌∙◌, List, ℕ, subst, sym, ap}
use Rattle.c_lexer.specs.Elements.{ReadsElement}
use Rattle.c_lexer.proofs.EscapeReads.{simple_read}
use Rattle.c_lexer.proofs.escape.read_escape.Goals as goal

pub returns-then-first-eq120 : goal.returns-then-first-eq120
returns-then-first-eq120 c = λ q.
    let is : 120 ∷ c.in_ok-first.later.now ≡ c.args.rest.now = sym (c.in_ok-first.ensures.cases.0 ∙ ap (λ (b : ℕ). b ∷ c.in_ok-first.later.now) c.if-first-eq120.true) in
    subst (λ (i : List ℕ). ReadsElement q (92 ∷ i) c.read_hexadecimal.result) is (c.read_hexadecimal.ensures q)

pub returns-then-is_some : goal.returns-then-is_some
returns-then-is_some c = λ q.
    simple_read q c.in_ok-first.field-0-0.now c.args.rest.now c.in_ok-first.later.now c.simple_value-simple.result c.in_ok-first.ensures.cases.0 c.simple_value-simple.ensures (sym c.is_some.ensures ∙ c.if-is_some.true)
