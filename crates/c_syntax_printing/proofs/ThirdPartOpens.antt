-- Where character constants and the third part of a conditional expression open past the limits (C99 6.4.4.4, 6.5.15).
use Rattle.std.proofs.Common.{inl, inr, ◌≤◌, suc, List, ◌∷◌, refl, ℕ, ℤ}
use Rattle.c_lexer.specs.declared.token.Token.{Token}
use Rattle.c_lexer.specs.declared.punctuator.TheConstants.{COLON, QUESTION}
use Rattle.c_syntax.specs.Tree.{Expr, conditional}
use Rattle.c_syntax.specs.Tokens.{Is, IsChar, place}
use Rattle.c_syntax.specs.Grammar.{primary_level, binary_level, conditional_level, expression_level, Reads, is_char, a_choice}
use Rattle.c_syntax_printing.proofs.MorePairs.{wide}
use Rattle.c_syntax_printing.specs.Nodes.{expr_here, in_no}
use Rattle.c_syntax_printing.specs.Opens.{Opens, DeepExpr}
use Rattle.c_syntax_printing.proofs.Opening.{opens_under, opens_here, opens_past, opens_token}
use Rattle.c_syntax_printing.proofs.Fixed.{expr_on}
use Rattle.c_syntax_printing.proofs.ExprOpens.{either, placed_on}

pub char_too_deep : {p : ℕ} {c : ℤ} {t : Token} {i : List Token} → IsChar c t → Opens (DeepExpr t.from p 0 primary_level) (t ∷ i) (t ∷ i)
char_too_deep h = opens_here (λ m. record { tokens = m; reads = record { tree = _; reads = is_char h; deep = inl (expr_here refl) } })

-- the third part of a conditional expression
pub no_opens : {at p n d : ℕ} {a b : Expr} {t u : Token} {i j k r : List Token} → d ≤ suc p → Is QUESTION t → Reads d (binary_level 10) a i (t ∷ j) → Reads d expression_level b j (u ∷ k) → Is COLON u → Opens (DeepExpr at p n conditional_level) k r → Opens (DeepExpr at p (suc n) conditional_level) i r
no_opens {a = a} {b = b} {i = i} g h w x c o =
    opens_past (placed_on w g) (opens_token (opens_past (expr_on (wide x g))
    (opens_under (λ k m z l y n f. record { tree = conditional (place i) a b z.tree; reads = a_choice f.begins f.reads h y c z.reads; deep = either in_no (λ v. inr (inr v)) z.deep }) o)))
