-- Where an operand fails.
use Rattle.std.proofs.Common.{◌≡◌, ◌≤◌, ℕ, suc, List, ◌∷◌, sym, subst, ◌∙◌}
use Rattle.c_lexer.specs.declared.token.Token.{Token}
use Rattle.c_lexer.specs.declared.punctuator.TheConstants.{LEFT_PARENTHESIS}
use Rattle.c_syntax_printing.specs.Starts.{start}
use Rattle.c_syntax_printing.specs.Heads.{head}
use Rattle.c_syntax.specs.Tokens.{Is}
use Rattle.c_syntax.specs.Grammar.{primary_level, postfix_level, cast_level, binary_level}
use Rattle.c_syntax_printing.specs.Fails.{Fails}
use Rattle.c_syntax_printing.specs.Phrases.{Bound, inner, AnExpr, AStmt, EvaluationTail}
use Rattle.c_syntax_printing.specs.Operands.{SomeSuffixes, SomeChain, CastTail}
use Rattle.c_syntax_printing.proofs.Combine.{fails_as, fails_first, fails_later, fails_under_alike}
use Rattle.c_syntax_printing.proofs.Fixed.{expr_fixes, start_alike, head_alike}
use Rattle.c_syntax_printing.proofs.StmtForms.{evaluation_form}
use Rattle.c_syntax_printing.proofs.ExprForms.{postfix_form, cast_form, chain_form}

pub postfix_fails : (b : Bound) {i r : List Token} → Fails (AnExpr b primary_level) i r → Fails (AnExpr b postfix_level) i r
postfix_fails b f = fails_as (λ k j m a. postfix_form b a) (fails_first f)

pub suffixes_fail : (b c : Bound) {i j r : List Token} → AnExpr c primary_level i j → Fails (SomeSuffixes b) j r → Fails (AnExpr b postfix_level) i r
suffixes_fail b c a f = fails_as (λ k j m a. postfix_form b a) (fails_later (expr_fixes c b primary_level) a f)

pub operand_fails : (b : Bound) (n : ℕ) {i r : List Token} → Fails (AnExpr b (binary_level n)) i r → Fails (AnExpr b (binary_level (suc n))) i r
operand_fails b n f = fails_as (λ k j m a. chain_form b n a) (fails_first f)

pub operators_fail : (b c : Bound) (n : ℕ) {i j r : List Token} → AnExpr c (binary_level n) i j → Fails (SomeChain b n) j r → Fails (AnExpr b (binary_level (suc n))) i r
operators_fail b c n a f = fails_as (λ k j m a. chain_form b n a) (fails_later (expr_fixes c b (binary_level n)) a f)

pub cast_fails : (b : Bound) {t : Token} {i r : List Token} → Is LEFT_PARENTHESIS t → 7 ≤ start i → Fails (CastTail (inner b)) i r → Fails (AnExpr b cast_level) (t ∷ i) r
cast_fails b h l f = fails_under_alike (λ k j m a. cast_form b h (subst (λ n. 7 ≤ n) (start_alike m) l) a) f

pub evaluation_fails : (b : Bound) {i r : List Token} → (20 ≤ head i → head i ≡ 20) → Fails (EvaluationTail (inner b)) i r → Fails (AStmt b) i r
evaluation_fails b {i} h f = fails_as (λ k j m a. evaluation_form b (λ l. sym (head_alike m) ∙ h (subst (λ n. 20 ≤ n) (sym (head_alike m)) l)) a) f
