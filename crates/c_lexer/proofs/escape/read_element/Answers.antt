use Rattle.std.proofs.Common.{◌≡◌, ◌<◌, ◌∷◌, ◌∙◌, List, ℕ, Fits, w8, get_or, subst, sym, ap, rules}
use Rattle.std.proofs.lemmas.Bool.{iff_false}
use Rattle.c_lexer.specs.Elements.{ReadsElement}
use Rattle.c_lexer.proofs.EscapeReads.{plain_some, plain_none}
use Rattle.c_lexer.proofs.escape.read_element.Goals as goal

pub returns-then-first-eq92 : goal.returns-then-first-eq92
returns-then-first-eq92 c =
    let is : 92 ∷ c.in_ok-first.rest.now ≡ c.args.text.now = sym (c.in_ok-first.ensures.cases.0 ∙ ap (λ (b : ℕ). b ∷ c.in_ok-first.rest.now) c.if-first-eq92.true) in
    subst (λ (i : List ℕ). ReadsElement c.args.quote i c.read_escape.result) is (c.read_escape.ensures c.args.quote)

pub returns-then-not-is_plain : goal.returns-then-not-is_plain
returns-then-not-is_plain c =
    plain_none c.args.quote c.in_ok-first.field-0-0.now c.args.text.now c.in_ok-first.rest.now c.in_ok-first.ensures.cases.0 c.if-first-eq92.false (iff_false c.is_plain.ensures c.if-not-is_plain.true)

pub returns : goal.returns
returns c =
    let holds = c.is_plain.ensures.0 c.if-not-is_plain.false in
    let fits : Fits w8 c.in_ok-first.field-0-0.now = subst (λ (i : List ℕ). Fits w8 (get_or i 0 0)) c.in_ok-first.ensures.cases.0 (c.type_inv.text 0) in
    let below : c.in_ok-first.field-0-0.now < 256 = search rules in
    plain_some c.args.quote c.in_ok-first.field-0-0.now c.args.text.now c.in_ok-first.rest.now c.in_ok-first.ensures.cases.0 holds.0 below holds.1 holds.2 c.if-first-eq92.false
