-- What is read of expressions and declarators, with one part more.
use Rattle.std.proofs.Common.{◌≡◌, ◌≤◌, ℕ, zero, suc, List, [], ◌∷◌, ◌++◌, refl, sym, ap, ◌∙◌, arith}
use Rattle.std.proofs.lemmas.List.{append_assoc}
use Rattle.c_lexer.specs.declared.token.Token.{Token}
use Rattle.c_lexer.specs.declared.punctuator.TheConstants.{COMMA}
use Rattle.c_syntax.specs.declared.tree.Expr.{Expr as ExprTree}
use Rattle.c_syntax.specs.Tree.{Infix, Expr, Exprs, no_exprs, more_exprs, binary}
use Rattle.c_syntax.specs.Tokens.{Is, IsStr, IsInfix, code_of_infix, place}
use Rattle.c_syntax.specs.Specifiers.{Consts, no_const, a_const}
use Rattle.c_syntax.specs.Grammar.{binary_level, assignment_level, ReadsStrings, last_string, next_string, Reads, a_chain, ReadsList, last_expr, next_expr, Chain, no_operator, an_operator}
use Rattle.c_syntax.specs.View.{expr_of}
use Rattle.c_syntax.specs.Writes.{exprs_of}

-- the consts of both
pub consts_join : {i j k : List Token} → Consts i j → Consts j k → Consts i k
consts_join no_const c = c
consts_join (a_const w b) c = a_const w (consts_join b c)

-- one string more
pub strings_more : {bytes part : List ℕ} {t : Token} {i j : List Token} → ReadsStrings bytes i (t ∷ j) → IsStr part t → ReadsStrings (bytes ++ part) i j
strings_more (last_string g) h = next_string g (last_string h) refl
strings_more {part = part} (next_string {front = front} {rest = rest} g r e) h = next_string g (strings_more r h) (ap (λ x. x ++ part) e ∙ append_assoc front rest part)

-- the levels from one up
data Up (n : ℕ) : ℕ → Type 0 where
  stays : Up n n
  rises : {m : ℕ} → Up n m → Up n (suc m)

both_rise : {n m : ℕ} → Up n m → Up (suc n) (suc m)
both_rise stays = stays
both_rise (rises u) = rises (both_rise u)

up_to : (n m : ℕ) → n ≤ m → Up n m
up_to zero zero l = stays
up_to zero (suc m) l = rises (up_to zero m (omega arith))
up_to (suc n) zero l = absurd (omega (arith, l))
up_to (suc n) (suc m) l = both_rise (up_to n m (omega (arith, l)))

raised : {d n m at : ℕ} {e : Expr} {i j : List Token} → at ≡ place i → Up n m → Reads d (binary_level n) e i j → Reads d (binary_level m) e i j
raised p stays r = r
raised p (rises u) r = a_chain p (raised p u r) no_operator

-- an expression of a level is one of each higher level of binary operators
pub lifted : {d n at : ℕ} {e : Expr} {i j : List Token} (m : ℕ) → at ≡ place i → n ≤ m → Reads d (binary_level n) e i j → Reads d (binary_level m) e i j
lifted {n = n} m p l r = raised p (up_to n m l) r

operator_more : {d n at : ℕ} {o : Infix} {a b e : Expr} {t : Token} {i j k : List Token} → Chain d n at a e i (t ∷ j) → IsInfix o (suc n) → Is (code_of_infix o) t → Reads d (binary_level n) b j k → Chain d n at a (binary at o e b) i k
operator_more no_operator l h r = an_operator l h r no_operator
operator_more (an_operator g p q c) l h r = an_operator g p q (operator_more c l h r)

-- one operator and its right operand more
pub chained_more : {d n at : ℕ} {o : Infix} {b e : Expr} {t : Token} {i j k : List Token} → at ≡ place i → Reads d (binary_level (suc n)) e i (t ∷ j) → IsInfix o (suc n) → Is (code_of_infix o) t → Reads d (binary_level n) b j k → Reads d (binary_level (suc n)) (binary at o e b) i k
chained_more p (a_chain q r c) l h s = a_chain p r (operator_more (rw (p ∙ sym q) c) l h s)

exprs_on : Exprs → Expr → Exprs
exprs_on no_exprs e = more_exprs e no_exprs
exprs_on (more_exprs a rest) e = more_exprs a (exprs_on rest e)

list_on : {d : ℕ} {a : Expr} {es : Exprs} {t : Token} {i j k : List Token} → ReadsList d es i (t ∷ j) → Is COMMA t → Reads d assignment_level a j k → ReadsList d (exprs_on es a) i k
unfolding exprs_on
list_on (last_expr r) h a = next_expr r h (last_expr a)
list_on (next_expr r g b) h a = next_expr r g (list_on b h a)

exprs_pushed : (es : List ExprTree) (e : ExprTree) → exprs_of (es ++ e ∷ []) ≡ exprs_on (exprs_of es) (expr_of e)
unfolding exprs_on
exprs_pushed [] e = refl
exprs_pushed (x ∷ es) e = ap (more_exprs (expr_of x)) (exprs_pushed es e)

-- one expression more, after a comma
pub list_more : {d : ℕ} {t : Token} {i j k : List Token} (es : List ExprTree) (e : ExprTree) → ReadsList d (exprs_of es) i (t ∷ j) → Is COMMA t → Reads d assignment_level (expr_of e) j k → ReadsList d (exprs_of (es ++ e ∷ [])) i k
list_more es e r h a = rw (exprs_pushed es e) (list_on r h a)
