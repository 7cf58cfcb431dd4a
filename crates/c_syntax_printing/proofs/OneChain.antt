-- One reading of binary, conditional and assignment expressions and of lists of them, each from those of its parts: at_F goes
-- through the other readings where one has the form F.
use Rattle.std.proofs.Common.{◌≡◌, ◌≤◌, ◌⊎◌, inl, inr, ℕ, zero, suc, List, ◌∷◌, refl, sym, ap, ap₂, ◌∙◌, arith}
use Rattle.c_lexer.specs.declared.token.Token.{Token}
use Rattle.c_lexer.specs.declared.punctuator.TheConstants.{QUESTION, COMMA}
use Rattle.c_syntax.proofs.BackTokens.{begins, begins_at, ap_three, ap_four}
use Rattle.c_syntax_printing.specs.Ranks.{rank, Stops}
use Rattle.c_syntax_printing.proofs.Precedence.{assignment_rank}
use Rattle.c_syntax.specs.Tree.{Infix, Expr, comma, binary, assign, conditional, Exprs, no_exprs, more_exprs}
use Rattle.c_syntax.specs.Tokens.{Is, place, IsInfix, code_of_infix, IsAssignment}
use Rattle.c_syntax.specs.Grammar.{unary_level, cast_level, binary_level, conditional_level, assignment_level, expression_level}
use Rattle.c_syntax.specs.Grammar.{Reads, no_cast, a_cast, no_chain, a_chain, no_choice, a_choice, no_assignment, an_assignment, no_comma, a_comma, ReadsList, last_expr, next_expr, Chain, no_operator, an_operator}
use Rattle.c_syntax_printing.proofs.Ranks.{ranked, ranks, apart, heads, ranked_infix, one_infix}
use Rattle.c_syntax_printing.proofs.Begins.{prefixed_inside, type_begins}
use Rattle.c_syntax_printing.proofs.Only.{Only, OnlyList, PassesChain}

-- what stands after an operand goes on with it
pub chain_stops : {d n at : ℕ} {a e : Expr} {j k : List Token} → Chain d n at a e j k → Stops (binary_level (suc n)) k → Stops (binary_level n) j
chain_stops no_operator s = omega arith
chain_stops {n = n} (an_operator {o = o} l h r c) s = omega (arith, ranked_infix n o l h)

pub stops_before : {d n at : ℕ} {a e : Expr} {j k : List Token} → Chain d n at a e j k → Stops (binary_level n) k → Stops (binary_level n) j
stops_before no_operator s = s
stops_before {n = n} (an_operator {o = o} l h r c) s = omega (arith, ranked_infix n o l h)

-- the same, read from an equal list
pub moved_chain : {d n at it : ℕ} {a b e : Expr} {i j k : List Token} → at ≡ it → a ≡ b → i ≡ j → Chain d n it b e j k → Chain d n at a e i k
moved_chain o p q r = rw (o, p, q) r

-- chains
at_no_operator : {x n at : ℕ} {a f : Expr} {j k : List Token} → Stops (binary_level (suc n)) j → Chain x n at a f j k → (a ≡ f) × (j ≡ k)
at_no_operator s no_operator = (refl, refl)
at_no_operator {n = n} s (an_operator {o = o} l h r c) = absurd (omega (arith, ranked_infix n o l h))

pub at_operator : {x n at : ℕ} {o : Infix} {a b e f : Expr} {t : Token} {i j k m : List Token} → IsInfix o (suc n) → Is (code_of_infix o) t → Only (binary_level n) b i j → PassesChain n at (binary at o a b) e j k → Chain x n at a f (t ∷ i) m → Stops (binary_level (suc n)) m → Chain x n at e f k m
at_operator {n = n} {o = o} l h g c no_operator z = absurd (omega (arith, ranked_infix n o l h))
at_operator {n = n} {at = at} {o = o} {a = a} l h g c (an_operator {o = q} p k r w) z =
    let v = g.is _ _ _ r (chain_stops w z) in c.is _ _ _ (moved_chain refl (ap₂ (λ (i : Infix) (y : Expr). binary at i a y) (one_infix n o q l p h k) v.0) v.1 w) z

-- binary expressions
pub at_no_chain : {x : ℕ} {e f : Expr} {i j k : List Token} → Only cast_level e i j → Reads x (binary_level zero) f i k → Stops (binary_level zero) k → (e ≡ f) × (j ≡ k)
at_no_chain h (no_chain r) z = h.is _ _ _ r z

pub at_chain : {x n at : ℕ} {a e f : Expr} {i j k m : List Token} → at ≡ place i → Only (binary_level n) a i j → PassesChain n at a e j k → Stops (binary_level (suc n)) k → Reads x (binary_level (suc n)) f i m → Stops (binary_level (suc n)) m → (e ≡ f) × (k ≡ m)
at_chain p h c s (a_chain q r w) z = let u = h.is _ _ _ r (chain_stops w z) in at_no_operator s (c.is _ _ _ (moved_chain (p ∙ sym q) u.0 u.1 w) z)

-- conditional expressions
pub at_no_choice : {x : ℕ} {e f : Expr} {i j k : List Token} → Stops conditional_level j → Only (binary_level 10) e i j → Reads x conditional_level f i k → Stops conditional_level k → (e ≡ f) × (j ≡ k)
at_no_choice s h (no_choice r) z = h.is _ _ _ r (omega arith)
at_no_choice s h (a_choice p r q b c g) z = absurd (let v = h.is _ _ _ r (omega (arith, ranked q)) in omega (arith, ranked q, ranks v.1))

pub at_choice : {x at : ℕ} {a b c f : Expr} {t u : Token} {i j k m n : List Token} → at ≡ place i → Is QUESTION t → Only (binary_level 10) a i (t ∷ j) → Only expression_level b j (u ∷ k) → Only conditional_level c k m → Reads x conditional_level f i n → Stops conditional_level n → (conditional at a b c ≡ f) × (m ≡ n)
at_choice p o h g e (no_choice r) z = absurd (let v = h.is _ _ _ r (omega arith) in omega (arith, ranked o, ranks v.1))
at_choice p o h g e (a_choice q r y b l c) z =
    let v = h.is _ _ _ r (omega (arith, ranked y)) in
    let w = g.is _ _ _ (begins (heads v.1).1 b) (omega (arith, ranked l)) in
    let s = e.is _ _ _ (begins (heads w.1).1 c) z in (ap_four conditional (p ∙ sym q) v.0 w.0 s.0, s.1)

-- an expression of prefix operators is one of each level up to a choice
lifted : {d : ℕ} {e : Expr} {i j : List Token} → Reads d unary_level e i j → Reads d conditional_level e i j
lifted r = no_choice (up (up (up (up (up (up (up (up (up (up (no_chain (no_cast r))))))))))))
  where
    up : {d n : ℕ} {e : Expr} {i j : List Token} → Reads d (binary_level n) e i j → Reads d (binary_level (suc n)) e i j
    up r = a_chain refl r no_operator

-- the operand at the front of a chain or a choice, and what stands after it
record Leads (d high : ℕ) (i j : List Token) : Type 0 where
  pub operand : Expr
  pub after : List Token
  pub reads : Reads d cast_level operand i after
  pub rest : (after ≡ j) ⊎ ((2 ≤ rank after) × (rank after ≤ high))

lead_on : {d n at : ℕ} {a e : Expr} {i j k : List Token} → Chain d n at a e j k → Leads d (suc n) i j → Leads d (suc (suc n)) i k
lead_on no_operator l = record { operand = l.operand; after = l.after; reads = l.reads; rest = elim l.rest [ inl e ↦ inl e | inr h ↦ inr (h.0, omega (arith, h.1)) ] }
lead_on {n = n} (an_operator {o = o} {t = t} {i = j} p h r c) l = record { operand = l.operand; after = l.after; reads = l.reads; rest = inr (elim l.rest [ inl e ↦ (omega (arith, ranks e, ranked_infix n o p h), omega (arith, ranks e, ranked_infix n o p h)) | inr h ↦ (h.0, omega (arith, h.1)) ]) }

leads : {d n : ℕ} {e : Expr} {i j : List Token} → Reads d (binary_level n) e i j → Leads d (suc n) i j
leads (no_chain r) = record { operand = _; after = _; reads = r; rest = inl refl }
leads (a_chain p r c) = lead_on c (leads r)

front : {d : ℕ} {e : Expr} {i j : List Token} → Reads d conditional_level e i j → Leads d 12 i j
front (no_choice r) = let l = leads r in record { operand = l.operand; after = l.after; reads = l.reads; rest = elim l.rest [ inl e ↦ inl e | inr h ↦ inr (h.0, omega (arith, h.1)) ] }
front (a_choice p r q b c g) = let l = leads r in record { operand = l.operand; after = l.after; reads = l.reads; rest = inr (elim l.rest [ inl e ↦ (omega (arith, ranks e, ranked q), omega (arith, ranks e, ranked q)) | inr h ↦ (h.0, omega (arith, h.1)) ]) }

-- the operand stops, and no assignment operator stands after it
lead_stops : {high : ℕ} {m j : List Token} → high ≤ 12 → (m ≡ j) ⊎ ((2 ≤ rank m) × (rank m ≤ high)) → 14 ≤ rank j → (2 ≤ rank m) × (rank m ≡ 13 → ⊥)
lead_stops l (inl e) z = (omega (arith, ranks e), λ q. omega (arith, ranks e))
lead_stops l (inr h) z = (h.0, λ q. omega (arith, h.1))

-- assignment expressions
pub at_no_assignment : {x : ℕ} {e f : Expr} {i j k : List Token} → Stops assignment_level j → Only conditional_level e i j → Reads x assignment_level f i k → Stops assignment_level k → (e ≡ f) × (j ≡ k)
at_no_assignment s h (no_assignment r) z = h.is _ _ _ r (omega arith)
at_no_assignment s h (an_assignment p r o u b) z =
    absurd (let v = h.is _ _ _ (lifted r) (omega (arith, ranked o, assignment_rank u)) in omega (arith, ranked o, assignment_rank u, ranks v.1))

-- a prefix expression before an assignment operator begins no conditional expression
at_operand : {d x : ℕ} {a f : Expr} {i j m : List Token} → Reads d unary_level a i j → Only unary_level a i j → Reads x cast_level f i m → 2 ≤ rank m → j ≡ m
at_operand b h (no_cast r) z = (h.is _ _ _ r z).1
at_operand b h (a_cast o n c r) z = absurd (omega (arith, prefixed_inside b o, (type_begins n).0))

pub at_assignment : {d x at op : ℕ} {a b f : Expr} {t : Token} {i j k m : List Token} → at ≡ place i → Reads d unary_level a i (t ∷ j) → Is op t → IsAssignment op → Only unary_level a i (t ∷ j) → Only assignment_level b j k → Reads x assignment_level f i m → Stops assignment_level m → (assign at op a b ≡ f) × (k ≡ m)
at_assignment p y o u h g (no_assignment r) z =
    absurd (let l = front r in let s = lead_stops (omega arith) l.rest z in s.1 (sym (ranks (at_operand y h l.reads s.0)) ∙ ranked o ∙ assignment_rank u))
at_assignment p y o u h g (an_assignment q r l w b) z =
    let v = h.is _ _ _ r (omega (arith, ranked l, assignment_rank w)) in
    let s = g.is _ _ _ (begins (heads v.1).1 b) z in (ap_four assign (p ∙ sym q) (one_code o l (heads v.1).0) v.0 s.0, s.1)
  where
    one_code : {c d : ℕ} {t u : Token} → Is c t → Is d u → t ≡ u → c ≡ d
    one_code h k e = apart h (rw e k)

-- expressions with commas
pub at_no_comma : {x : ℕ} {e f : Expr} {i j k : List Token} → Stops expression_level j → Only assignment_level e i j → Reads x expression_level f i k → Stops expression_level k → (e ≡ f) × (j ≡ k)
at_no_comma s h (no_comma r) z = h.is _ _ _ r (omega arith)
at_no_comma s h (a_comma p r o b) z = absurd (let v = h.is _ _ _ r (omega (arith, ranked o)) in omega (arith, ranked o, ranks v.1))

pub at_comma : {x at : ℕ} {a f : Expr} {rest : Exprs} {t : Token} {i j k m : List Token} → at ≡ place i → Is COMMA t → Only assignment_level a i (t ∷ j) → OnlyList rest j k → Reads x expression_level f i m → Stops expression_level m → (comma at (more_exprs a rest) ≡ f) × (k ≡ m)
at_comma p o h g (no_comma r) z = absurd (let v = h.is _ _ _ r (omega arith) in omega (arith, ranked o, ranks v.1))
at_comma p o h g (a_comma q r l b) z =
    let v = h.is _ _ _ r (omega (arith, ranked l)) in
    let w = g.is _ _ _ (begins_at (ReadsList _ _) (heads v.1).1 b) z in (ap_three (λ (i : ℕ) (y : Expr) (ys : Exprs). comma i (more_exprs y ys)) (p ∙ sym q) v.0 w.0, w.1)

-- lists of expressions
pub at_last : {x : ℕ} {a : Expr} {fs : Exprs} {i j k : List Token} → Stops expression_level j → Only assignment_level a i j → ReadsList x fs i k → Stops expression_level k → (more_exprs a no_exprs ≡ fs) × (j ≡ k)
at_last s h (last_expr r) z = let v = h.is _ _ _ r (omega arith) in (ap (λ e. more_exprs e no_exprs) v.0, v.1)
at_last s h (next_expr r o b) z = absurd (let v = h.is _ _ _ r (omega (arith, ranked o)) in omega (arith, ranked o, ranks v.1))

pub at_next : {x : ℕ} {a : Expr} {rest fs : Exprs} {t : Token} {i j k m : List Token} → Is COMMA t → Only assignment_level a i (t ∷ j) → OnlyList rest j k → ReadsList x fs i m → Stops expression_level m → (more_exprs a rest ≡ fs) × (k ≡ m)
at_next o h g (last_expr r) z = absurd (let v = h.is _ _ _ r (omega arith) in omega (arith, ranked o, ranks v.1))
at_next o h g (next_expr r l b) z =
    let v = h.is _ _ _ r (omega (arith, ranked l)) in
    let w = g.is _ _ _ (begins_at (ReadsList _ _) (heads v.1).1 b) z in (ap₂ more_exprs v.0 w.0, w.1)
