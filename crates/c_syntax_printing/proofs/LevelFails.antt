-- Where operators and what stands between them fail (C99 6.5.5 to 6.5.17).
use Rattle.std.proofs.Common.{◌≡◌, ◌≤◌, zero, suc, ◌-◌, List, ◌∷◌, refl, sym, ap, ◌∙◌, subst, arith, ℕ}
use Rattle.c_lexer.specs.declared.token.Token.{Token}
use Rattle.c_lexer.specs.declared.punctuator.TheConstants.{LEFT_PARENTHESIS, QUESTION, COMMA}
use Rattle.c_syntax.specs.Tree.{Infix, Expr, Exprs}
use Rattle.c_syntax.specs.Tokens.{Is, IsInfix, code_of_infix, IsAssignment}
use Rattle.c_syntax.specs.Grammar.{Level, unary_level, cast_level, binary_level, conditional_level, assignment_level, expression_level}
use Rattle.c_syntax.specs.Grammar.{Reads, no_cast, no_chain, a_chain, no_choice, a_choice, no_assignment, an_assignment, no_comma, a_comma, Chain, no_operator, an_operator, ReadsList, last_expr, next_expr}
use Rattle.c_syntax.specs.Limits.{height, height_of_exprs}
use Rattle.c_syntax_printing.specs.Ranks.{rank, Stops}
use Rattle.c_syntax_printing.proofs.Precedence.{assignment_rank}
use Rattle.c_syntax_printing.proofs.Ranks.{ranked, ranked_infix, heads, ranks}
use Rattle.c_syntax_printing.proofs.Begins.{prefixed_inside}
use Rattle.c_syntax_printing.specs.Starts.{start}
use Rattle.c_syntax_printing.specs.Twins.{Twin}
use Rattle.c_syntax_printing.proofs.OneChain.{chain_stops, stops_before, moved_chain}
use Rattle.c_syntax_printing.proofs.One.{same, chain_passes}
use Rattle.c_syntax_printing.specs.Fails.{Meets, at_token, Fails, Then, then, first, second, One, one}
use Rattle.c_syntax_printing.specs.Phrases.{Bound, any, within, Fits, fits_any, inner, AnExpr}
use Rattle.c_syntax_printing.specs.Operands.{SomeExprs, SomeChain, no_choice_stands, ChoiceTail, ChoiceRest, no_comma_stands, ExprsRest}
use Rattle.c_syntax_printing.proofs.Combine.{climb, at_same, fails_as, fails_first, fails_later, fails_after, fails_under, fails_begun, fails_beside, fails_past, twin_back, Begins}
use Rattle.c_syntax_printing.proofs.Fixed.{rank_alike, expr_fixes, expr_on}
use Rattle.c_syntax_printing.proofs.StmtForms.{fits_part, an_expr}
use Rattle.c_syntax_printing.proofs.BlockForms.{fits_under}
use Rattle.c_syntax_printing.proofs.ExprForms.{chain_rises, some_chain}
use Rattle.c_syntax_printing.proofs.OperandFails.{operand_fails, operators_fail}
use Rattle.c_syntax_printing.proofs.PrefixFails.{fits_low}
use Rattle.c_syntax.proofs.BackTokens.{chained_up}

-- binary operators (C99 6.5.5 to 6.5.14)

uncast_chain : {b : Bound} {d n : ℕ} {e : Expr} {i j : List Token} → n ≡ 0 → Reads d (binary_level n) e i j → Stops (binary_level n) j → Fits b d (height e) → AnExpr b cast_level i j
uncast_chain q (no_chain r) s f = record { depth = _; tree = _; reads = r; stops = s; fits = f }
uncast_chain q (a_chain p r c) s f = absurd (omega arith)

-- the first operand fails
pub first_operand : {b : Bound} {i r : List Token} (n : ℕ) → Fails (AnExpr b cast_level) i r → Fails (AnExpr b (binary_level n)) i r
first_operand {b} zero f = fails_as (λ k j m a. uncast_chain refl a.reads a.stops a.fits) f
first_operand {b} (suc n) f = operand_fails b n (first_operand n f)

-- a level that binds less
pub level_up : {b : Bound} {i r : List Token} (n m : ℕ) → n ≤ m → Fails (AnExpr b (binary_level n)) i r → Fails (AnExpr b (binary_level m)) i r
level_up {b} {i} {r} n m l f = climb {P = λ z. Fails (AnExpr b (binary_level z)) i r} (λ k a. operand_fails b k a) (m - n) n m (omega (arith, l)) f

operand_reads : (b : Bound) {n d at : ℕ} {o : Infix} {a e : Expr} {t : Token} {i j : List Token} → IsInfix o (suc n) → Is (code_of_infix o) t → Chain d n at a e (t ∷ i) j → Stops (binary_level (suc n)) j → Fits b d (height e) → Then (AnExpr (inner b) (binary_level n)) (SomeChain b n) i j
operand_reads b {n} {o = o} h k no_operator s f = absurd (omega (arith, ranked_infix n o h k))
operand_reads b h k (an_operator g c r w) s f = then (an_expr r (chain_stops w s) (fits_part b f (omega (arith, chain_rises w)))) (some_chain w s f)

-- an operator of the level n + 1, its right operand and what follows
pub chain_goes : (b : Bound) (n : ℕ) {o : Infix} {t : Token} {i r : List Token} → IsInfix o (suc n) → Is (code_of_infix o) t → Fails (Then (AnExpr (inner b) (binary_level n)) (SomeChain b n)) i r → Fails (SomeChain b n) (t ∷ i) r
chain_goes b n h k f = fails_under (λ l j a. operand_reads b h k a.reads a.stops a.fits) f

-- what is read of a chain leads on
chain_leads : (b : Bound) (n : ℕ) {d at : ℕ} {a e : Expr} {i j r : List Token} → Chain d n at a e i j → Stops (binary_level n) j → Fails (SomeChain b n) j r → Fails (SomeChain b n) i r
chain_leads b n no_operator s f = f
chain_leads b n (an_operator h k r w) s f =
    chain_goes b n h k
    (fails_later (expr_fixes _ (inner b) (binary_level n)) (record { depth = _; tree = _; reads = r; stops = stops_before w s; fits = fits_any }) (chain_leads b n w s f))

-- what is read of an expression of the level n + 1 stands, and no operator of it or what follows one fails
pub chain_fails : (b : Bound) (n : ℕ) {d : ℕ} {e : Expr} {i j r : List Token} → Reads d (binary_level (suc n)) e i j → Stops (binary_level n) j → Fails (SomeChain b n) j r → Fails (AnExpr b (binary_level (suc n))) i r
chain_fails b n (a_chain p q c) s f = operators_fail b any n (record { depth = _; tree = _; reads = q; stops = stops_before c s; fits = fits_any }) (chain_leads b n c s f)

operator_rises : (n : ℕ) {x at : ℕ} {a f : Expr} {o : Infix} {t : Token} {j k : List Token} → IsInfix o (suc n) → Is (code_of_infix o) t → Chain x n at a f (t ∷ j) k → Stops (binary_level (suc n)) k → suc (height a) ≤ height f
operator_rises n {o = o} h k no_operator z = absurd (omega (arith, ranked_infix n o h k, z))
operator_rises n h k (an_operator g c r w) z = omega (arith, chain_rises w)

chain_too_high : (n : ℕ) {d x : ℕ} {o : Infix} {e f : Expr} {t : Token} {i j k : List Token} → IsInfix o (suc n) → Is (code_of_infix o) t → Reads d (binary_level (suc n)) e i (t ∷ j) → Reads x (binary_level (suc n)) f i k → Stops (binary_level (suc n)) k → suc (height e) ≤ height f
chain_too_high n {o = o} h c (a_chain p q w) (a_chain u v y) z =
    let s = same q v (stops_before w (omega (arith, ranked_infix n o h c))) (chain_stops y z) in
    operator_rises n h c ((chain_passes w (omega (arith, ranked_infix n o h c))).is _ _ _ (moved_chain (p ∙ sym u) s.0 s.1 y) z) z

-- an operator between two operands: what follows it fails
pub operator_fails : (b : Bound) (o : Infix) (l most : ℕ) {d : ℕ} {e : Expr} {t : Token} {i k r : List Token} → IsInfix o l → 1 ≤ l → l ≤ most → Is (code_of_infix o) t → Reads d (binary_level l) e i (t ∷ k) → Fails (Then (AnExpr (inner b) (binary_level (l - 1))) (SomeChain b (l - 1))) k r → Fails (AnExpr b (binary_level most)) i r
operator_fails b o zero most h l m c w f = absurd (omega (arith, l))
operator_fails b o (suc n) most {k = k} {r = r} h l m c w f =
    let e : suc n - 1 ≡ n = omega arith in
    let g : Fails (Then (AnExpr (inner b) (binary_level n)) (SomeChain b n)) k r = subst (λ z. Fails (Then (AnExpr (inner b) (binary_level z)) (SomeChain b z)) k r) e f in
    level_up (suc n) most m (chain_fails b n w (omega (arith, ranked_infix n o h c)) (chain_goes b n h c g))

-- what stands before the token is as high as nodes may be
too_high_before : {p m d : ℕ} {l high : Level} {e : Expr} {t : Token} {i j : List Token} → Reads d l e i (t ∷ j) → ((x : ℕ) (f : Expr) (y k z : List Token) → Reads d l e y (t ∷ k) → Reads x high f y z → Stops high z → suc (height e) ≤ height f) → m ≤ height e → Fails (AnExpr (within p m) high) i (t ∷ j)
too_high_before {p} {m} {d} {l} {high} {e} {t} {i} {j} w f g = fails_beside {R = Reads d l e} (λ k q. expr_on w k) (λ y k z q v a. none q v a)
  where
    none : {y k z : List Token} → Meets (t ∷ j) k → Reads d l e y k → AnExpr (within p m) high y z → ⊥
    none at_token v a = omega (arith, g, (fits_low a.fits).1, f _ _ _ _ _ v a.reads a.stops)

too_high : {p most n m d : ℕ} {o : Infix} {e : Expr} {t : Token} {i j : List Token} → IsInfix o (suc n) → suc n ≤ most → Is (code_of_infix o) t → Reads d (binary_level (suc n)) e i (t ∷ j) → m ≤ height e → Fails (AnExpr (within p m) (binary_level most)) i (t ∷ j)
too_high {n = n} h l c w g = level_up (suc n) _ l (too_high_before w (λ x f y k z v u s. chain_too_high n h c v u s) g)

-- the left operand is as high as nodes may be
pub operator_too_high : (o : Infix) (l most : ℕ) {p n d : ℕ} {e : Expr} {t : Token} {i j : List Token} → IsInfix o l → 1 ≤ l → l ≤ most → Is (code_of_infix o) t → Reads d (binary_level l) e i (t ∷ j) → n ≤ height e → Fails (AnExpr (within p n) (binary_level most)) i (t ∷ j)
operator_too_high o zero most h l m c w g = absurd (omega (arith, l))
operator_too_high o (suc n) most h l m c w g = too_high h m c w g

-- conditional expressions (C99 6.5.15)

choice_reads : (b : Bound) {d : ℕ} {e : Expr} {i j : List Token} → Reads d conditional_level e i j → Stops conditional_level j → Fits b d (height e) → Then (AnExpr b (binary_level 10)) (ChoiceRest b) i j
choice_reads b (no_choice r) s f = then (an_expr r (omega (arith, s)) f) (first (no_choice_stands s))
choice_reads b (a_choice p r q v c w) s f =
    then (an_expr r (omega (arith, ranked q)) (fits_under b f (omega arith)))
    (second (then (one q) (then (an_expr v (omega (arith, ranked c)) (fits_part b f (omega arith))) (then (one c) (an_expr w s (fits_part b f (omega arith)))))))

-- the test fails
pub test_fails : {b : Bound} {i r : List Token} → Fails (AnExpr b (binary_level 10)) i r → Fails (AnExpr b conditional_level) i r
test_fails {b} f = fails_as (λ k j m a. choice_reads b a.reads a.stops a.fits) (fails_first f)

choice_goes : (b : Bound) {t : Token} {i j : List Token} → Is QUESTION t → ChoiceRest b (t ∷ i) j → ChoiceTail (inner b) i j
choice_goes b h (first (no_choice_stands s)) = absurd (omega (arith, ranked h, s))
choice_goes b h (second (then (one q) w)) = w

-- what follows ? fails
pub choice_fails : {b c : Bound} {t : Token} {i j r : List Token} → AnExpr c (binary_level 10) i (t ∷ j) → Is QUESTION t → Fails (ChoiceTail (inner b)) j r → Fails (AnExpr b conditional_level) i r
choice_fails {b} {c} a h f =
    fails_as (λ k j m a. choice_reads b a.reads a.stops a.fits)
    (fails_later (expr_fixes c b (binary_level 10)) a (fails_under (λ k j w. choice_goes b h w) f))

choice_raises : {d x : ℕ} {e f : Expr} {t : Token} {i j k : List Token} → Is QUESTION t → Reads d (binary_level 10) e i (t ∷ j) → Reads x conditional_level f i k → Stops conditional_level k → suc (height e) ≤ height f
choice_raises h r (no_choice w) s = let v = same r w (omega (arith, ranked h)) (omega (arith, s)) in absurd (omega (arith, ranked h, s, ranks v.1))
choice_raises h r (a_choice p w q v c y) s = let u = same r w (omega (arith, ranked h)) (omega (arith, ranked q)) in omega (arith, ap height u.0)

-- the test is as high as nodes may be
pub choice_too_high : {p n d : ℕ} {e : Expr} {t : Token} {i j : List Token} → Is QUESTION t → Reads d (binary_level 10) e i (t ∷ j) → n ≤ height e → Fails (AnExpr (within p n) conditional_level) i (t ∷ j)
choice_too_high h r g = too_high_before r (λ x f y k z v u s. choice_raises h v u s) g

-- assignment expressions (C99 6.5.16)

place_begins : (b : Bound) {d : ℕ} {e : Expr} {i j : List Token} → Reads d assignment_level e i j → Stops assignment_level j → Fits b d (height e) → Begins (AnExpr b conditional_level) i
place_begins b (no_assignment r) s f = record { rest = _; reads = record { depth = _; tree = _; reads = r; stops = omega (arith, s); fits = f } }
place_begins b (an_assignment p r h q v) s f =
    record { rest = _; reads = record { depth = _; tree = _; reads = no_choice (chained_up 10 (no_cast r)); stops = omega (arith, ranked h, assignment_rank q); fits = fits_under b f (omega arith) } }

-- where a conditional expression fails, an assignment does
pub value_fails : {b : Bound} {i r : List Token} → Fails (AnExpr b conditional_level) i r → Fails (AnExpr b assignment_level) i r
value_fails {b} f = fails_begun (λ k j m a. place_begins b a.reads a.stops a.fits) f

-- the operand fails
pub assigned_operand_fails : {b : Bound} {i r : List Token} → Fails (AnExpr b cast_level) i r → Fails (AnExpr b assignment_level) i r
assigned_operand_fails f = value_fails (test_fails (first_operand 10 f))

assign_goes : (b : Bound) {d x op : ℕ} {a e : Expr} {t : Token} {h k l : List Token} → Is op t → IsAssignment op → Reads d unary_level a h (t ∷ k) → Reads x assignment_level e h l → Stops assignment_level l → Fits b x (height e) → (suc (height a) ≤ height e) × Begins (AnExpr (inner b) assignment_level) k
assign_goes b o q r (no_assignment w) s f =
    let v = same (no_choice (chained_up 10 (no_cast r))) w (omega (arith, ranked o, assignment_rank q)) (omega (arith, s)) in absurd (omega (arith, ranked o, assignment_rank q, s, ranks v.1))
assign_goes b {x = x} o q r (an_assignment p w c u v) s f =
    let y = same r w (omega (arith, ranked o, assignment_rank q)) (omega (arith, ranked c, assignment_rank u)) in
    (omega (arith, ap height y.0), record { rest = _; reads = record { depth = x; tree = _; reads = at_same (Reads x assignment_level _) _ (sym (heads y.1).1) v; stops = s; fits = fits_part b f (omega arith) } })

behind_token : {B : List Token → List Token → Type 0} {P : Token → Type 0} {t : Token} {k : List Token} → P t → Begins B k → Begins (Then (One P) B) (t ∷ k)
behind_token h b = record { rest = b.rest; reads = then (one h) b.reads }

-- the value fails
pub assigned_value_fails : {b : Bound} {d op : ℕ} {a : Expr} {t : Token} {i j r : List Token} → Is op t → IsAssignment op → Reads d unary_level a i (t ∷ j) → Fails (AnExpr (inner b) assignment_level) j r → Fails (AnExpr b assignment_level) i r
assigned_value_fails {b} {d} {op} {a} {t} {i} {j} h q w f =
    fails_past {R = λ i j. Reads d unary_level a i j} {C = Then (One (Is op)) (AnExpr (inner b) assignment_level)} (λ k m. expr_on w k) (λ y k l m v e. goes m v e) (fails_after f)
  where
    goes : {y k l : List Token} → Meets (t ∷ j) k → Reads d unary_level a y k → AnExpr b assignment_level y l → Begins (Then (One (Is op)) (AnExpr (inner b) assignment_level)) k
    goes at_token v e = behind_token h (assign_goes b h q v e.reads e.stops e.fits).1

-- what is assigned to is as high as nodes may be
pub assigned_too_high : {p n d op : ℕ} {a : Expr} {t : Token} {i j : List Token} → Is op t → IsAssignment op → Reads d unary_level a i (t ∷ j) → n ≤ height a → Fails (AnExpr (within p n) assignment_level) i (t ∷ j)
assigned_too_high h q w g = too_high_before w (λ x f y k z v u s. (assign_goes any h q v u s fits_any).0) g

-- a reading that moved
record Moved (d : ℕ) (e : Expr) (i j h k : List Token) : Type 0 where
  reads : Reads d conditional_level e h k
  twin : Twin j k i h

is_unary_place : {d x : ℕ} {e f : Expr} {h k l : List Token} → rank k ≡ 13 → Reads d conditional_level e h k → Reads x assignment_level f h l → Stops assignment_level l → Reads x unary_level e h k
is_unary_place z r (no_assignment w) s = let v = same r w (omega (arith, z)) (omega (arith, s)) in absurd (omega (arith, z, s, ranks v.1))
is_unary_place z r (an_assignment p w h q y) s = let v = same r (no_choice (chained_up 10 (no_cast w))) (omega (arith, z)) (omega (arith, ranked h, assignment_rank q)) in rw (v.0, v.1) w

-- an assignment operator stands after what is no unary expression
pub no_place_fails : {b : Bound} {d : ℕ} {e : Expr} {i j : List Token} → ((x : ℕ) → Reads x unary_level e i j → ⊥) → Reads d conditional_level e i j → rank j ≡ 13 → Fails (AnExpr b assignment_level) i j
no_place_fails {b} {d} {e} {i} {j} n w z =
    fails_beside {R = Moved d e i j} (λ k m. let x = expr_on w k in record { tokens = x.tokens; twin = x.twin; reads = record { reads = x.reads; twin = x.twin } })
    (λ y k l m v a.
    let u = is_unary_place (sym (rank_alike m) ∙ z) v.reads a.reads a.stops in
    let x = expr_on u j in
    n a.depth (subst (λ q. Reads a.depth unary_level e q j) (twin_back v.twin x.twin) x.reads))

-- operators stand between the operand and the assignment operator
pub assigned_after_operators : {b c : Bound} {d : ℕ} {e : Expr} {i h j : List Token} → AnExpr c cast_level i h → (rank h ≡ 13 → ⊥) → Reads d conditional_level e i j → rank j ≡ 13 → Fails (AnExpr b assignment_level) i j
assigned_after_operators a f w z = no_place_fails (λ x u. f (ranks (same a.reads (no_cast u) a.stops (omega (arith, z))).1 ∙ z)) w z

-- a cast is assigned to
pub assigned_cast : {b : Bound} {d : ℕ} {e : Expr} {t : Token} {i j : List Token} → Is LEFT_PARENTHESIS t → 7 ≤ start i → Reads d cast_level e (t ∷ i) j → rank j ≡ 13 → Fails (AnExpr b assignment_level) (t ∷ i) j
assigned_cast h l w z = no_place_fails (λ x u. omega (arith, l, prefixed_inside u h)) (no_choice (chained_up 10 w)) z

-- expressions with commas (C99 6.5.17)

comma_begins : (b : Bound) {d : ℕ} {e : Expr} {i j : List Token} → Reads d expression_level e i j → Stops expression_level j → Fits b d (height e) → Begins (AnExpr b assignment_level) i
comma_begins b (no_comma r) s f = record { rest = _; reads = record { depth = _; tree = _; reads = r; stops = omega (arith, s); fits = f } }
comma_begins b (a_comma p r c w) s f = record { rest = _; reads = record { depth = _; tree = _; reads = r; stops = omega (arith, ranked c); fits = fits_under b f (omega arith) } }

-- the first of them fails
pub comma_first : {b : Bound} {i r : List Token} → Fails (AnExpr b assignment_level) i r → Fails (AnExpr b expression_level) i r
comma_first {b} f = fails_begun (λ k j m a. comma_begins b a.reads a.stops a.fits) f

comma_goes : (b : Bound) {d x : ℕ} {a e : Expr} {t : Token} {h k l : List Token} → Is COMMA t → Reads d assignment_level a h (t ∷ k) → Reads x expression_level e h l → Stops expression_level l → Fits b x (height e) → (suc (height a) ≤ height e) × Begins (SomeExprs (inner b)) k
comma_goes b o r (no_comma w) s f = let v = same r w (omega (arith, ranked o)) (omega (arith, s)) in absurd (omega (arith, ranked o, s, ranks v.1))
comma_goes b {x = x} o r (a_comma p w c v) s f =
    let y = same r w (omega (arith, ranked o)) (omega (arith, ranked c)) in
    (omega (arith, ap height y.0), record { rest = _; reads = record { depth = x; trees = _; reads = at_same (ReadsList x _) _ (sym (heads y.1).1) v; stops = s; fits = fits_part b f (omega arith) } })

-- what follows the first of them fails
pub comma_fails : {b : Bound} {d : ℕ} {a : Expr} {t : Token} {i j r : List Token} → Is COMMA t → Reads d assignment_level a i (t ∷ j) → Fails (ExprsRest (inner b)) (t ∷ j) r → Fails (AnExpr b expression_level) i r
comma_fails {b} {d} {a} {t} {i} {j} h w f = fails_past {R = λ i j. Reads d assignment_level a i j} {C = ExprsRest (inner b)} (λ k m. expr_on w k) (λ y k l m v e. goes m v e) f
  where
    goes : {y k l : List Token} → Meets (t ∷ j) k → Reads d assignment_level a y k → AnExpr b expression_level y l → Begins (ExprsRest (inner b)) k
    goes at_token v e = let g = (comma_goes b h v e.reads e.stops e.fits).1 in record { rest = g.rest; reads = second (then (one h) g.reads) }

-- the first of them is as high as nodes may be
pub comma_too_high : {p n d : ℕ} {a : Expr} {t : Token} {i j : List Token} → Is COMMA t → Reads d assignment_level a i (t ∷ j) → n ≤ height a → Fails (AnExpr (within p n) expression_level) i (t ∷ j)
comma_too_high h w g = too_high_before w (λ x f y k z v u s. (comma_goes any h v u s fits_any).0) g

-- lists of expressions

list_reads : (b : Bound) {d : ℕ} {es : Exprs} {i j : List Token} → ReadsList d es i j → Stops expression_level j → Fits b d (height_of_exprs es) → Then (AnExpr b assignment_level) (ExprsRest b) i j
list_reads b (last_expr r) s f = then (an_expr r (omega (arith, s)) (fits_under b f (omega arith))) (first (no_comma_stands s))
list_reads b (next_expr r c w) s f =
    then (an_expr r (omega (arith, ranked c)) (fits_under b f (omega arith))) (second (then (one c) (record { depth = _; trees = _; reads = w; stops = s; fits = fits_under b f (omega arith) })))

pub list_form : {b : Bound} {i j : List Token} → SomeExprs b i j → Then (AnExpr b assignment_level) (ExprsRest b) i j
list_form {b} a = list_reads b a.reads a.stops a.fits

-- the first of them fails
pub exprs_first : {b : Bound} {i r : List Token} → Fails (AnExpr b assignment_level) i r → Fails (SomeExprs b) i r
exprs_first f = fails_as (λ k j m a. list_form a) (fails_first f)

-- the first of them stands
pub exprs_fail : {b c : Bound} {i j r : List Token} → AnExpr c assignment_level i j → Fails (ExprsRest b) j r → Fails (SomeExprs b) i r
exprs_fail {b} {c} a f = fails_as (λ k j m a. list_form a) (fails_later (expr_fixes c b assignment_level) a f)

rest_goes : {b : Bound} {t : Token} {i j : List Token} → Is COMMA t → ExprsRest b (t ∷ i) j → SomeExprs b i j
rest_goes h (first (no_comma_stands s)) = absurd (omega (arith, ranked h, s))
rest_goes h (second (then (one c) w)) = w

-- after a comma the next one fails
pub next_fails : {b : Bound} {t : Token} {i r : List Token} → Is COMMA t → Fails (AnExpr b assignment_level) i r → Fails (ExprsRest b) (t ∷ i) r
next_fails h f = fails_under (λ k j a. rest_goes h a) (exprs_first f)

-- after a comma the next one stands
pub next_leads : {b c : Bound} {t : Token} {i j r : List Token} → Is COMMA t → AnExpr c assignment_level i j → Fails (ExprsRest b) j r → Fails (ExprsRest b) (t ∷ i) r
next_leads h a f = fails_under (λ k j a. rest_goes h a) (exprs_fail a f)
