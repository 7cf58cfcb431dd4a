-- What a reader of an expression or a declarator answers at each of its ends, from what the readers that it calls answered.
use Rattle.std.proofs.Common.{◌≡◌, ◌<◌, ◌≤◌, ◌+◌, ◌-◌, ℕ, max, zero, suc, List, [], ◌∷◌, ◌++◌, drop, length, sym, ap, ◌∙◌, subst, arith}
use Rattle.std.specs.Prelude.{Some, None, Result, Ok, Err, OnOk}
use Rattle.c_lexer.specs.declared.token.Token.{Token}
use Rattle.c_lexer.specs.declared.keyword.TheConstants.{SIZEOF}
use Rattle.c_lexer.specs.declared.punctuator.TheConstants.{LEFT_PARENTHESIS, RIGHT_PARENTHESIS, QUESTION, COLON, COMMA}
use Rattle.c_syntax.specs.declared.tree.Expr.{Expr as ExprTree}
use Rattle.c_syntax.specs.Tree.{Spec, Expr, Exprs, comma, sizeof_type, cast, prefix, sizeof, unary, binary, assign, conditional, TypeName, type_name, Declarator}
use Rattle.c_syntax.specs.Tokens.{Is, IsKeyword, place}
use Rattle.c_syntax.specs.Specifiers.{ReadsSpec}
use Rattle.c_syntax.specs.Grammar.{Level, primary_level, postfix_level, unary_level, cast_level, binary_level, conditional_level, assignment_level, expression_level, HasNoName, Reads, no_prefix, no_cast, no_chain, no_choice, no_assignment, no_comma, ReadsList, last_expr, ReadsType, a_type, Declares}
use Rattle.c_syntax.specs.View.{expr_of}
use Rattle.c_syntax.specs.Writes.{exprs_of}
use Rattle.c_syntax_printing.specs.Ranks.{rank, Stops}
use Rattle.c_syntax.specs.Limits.{height, height_of_exprs}
use Rattle.c_parser_phrases.specs.declared.depth.MeasuredExpr.{MeasuredExpr}
use Rattle.c_parser_phrases.specs.declared.room.Room.{Room}
use Rattle.c_parser_phrases.specs.declared.error.PhraseError.{PhraseError}
use Rattle.c_syntax_printing.specs.Phrases.{Bound}
use Rattle.c_parser_phrases.specs.Reading.{ParsesTree, Refused, LacksExpr, OpensExpr}
use Rattle.c_parser_phrases.proofs.Raising.{raised, no_memory}
use Rattle.c_parser_phrases.specs.declared.looking.Operator.{Operator}
use Rattle.c_parser_phrases.specs.Making.{tree_of, Makes}
use Rattle.c_parser_phrases.specs.Phrases.{HasRead}
use Rattle.c_parser_phrases.proofs.Lists.{exprs_height}
use Rattle.c_parser_phrases.specs.declared.looking.Step.{Step}
use Rattle.c_parser_phrases.specs.Looking.{infix_of, step_of, IsAtCast, StandsOperator, StandsAssignment, StandsUnary, StandsStep}
use Rattle.c_parser_phrases.specs.Standing.{IsAt, IsAtKeyword}
use Rattle.c_parser_phrases.proofs.Growing.{lifted, list_more}
use Rattle.c_parser_phrases.proofs.Known.{question_left, comma_left}
use Rattle.c_parser_phrases.proofs.Exits.{taken, taken_at, taken_word, cast_taken, paired_list, comma_read, assign_read, choice_read, binary_read, cast_read, sizeof_type_read, sizeof_read, prefix_read, unary_read, parentheses_read}

-- an expression of the level stands between, and what follows doesn't go on with it
abbrev pub Stands : ℕ → Level → Expr → List Token → List Token → Type 0
Stands d l e i j = Reads d l e i j × Stops l j

pub no_commas : {d : ℕ} {e : Expr} {i j : List Token} → Stands d assignment_level e i j → (IsAt COMMA j → ⊥) → Stands d expression_level e i j
no_commas {j = j} s f = (no_comma s.0, comma_left j s.1 f)

pub comma_made :
    {d x at : ℕ} {a w : Expr} {es : Exprs} {i h j : List Token}
    → x ≡ d → at ≡ place i → Stands d assignment_level a i h → IsAt COMMA h
    → (Reads x assignment_level a i h → Stops assignment_level h → ReadsList x es i j × Stops expression_level j)
    → w ≡ comma at es → Stands d expression_level w i j
comma_made {d} {x} {at} {a} {w} {es} {i} {h} {j} q p s f g v =
    let P : Expr → Type 0 = λ z. Reads d expression_level z i j in
    let Q : ℕ → Type 0 = λ z. Reads z assignment_level a i h in
    let l : ReadsList x es i j × Stops expression_level j = g (subst Q (sym q) s.0) s.1 in
    (subst P (sym v) (comma_read p s.0 s.1 f (paired_list q l.0) l.1), l.1)

pub no_assigned : {d : ℕ} {e : Expr} {i j : List Token} → Stands d conditional_level e i j → (rank j ≡ 13 → ⊥) → Stands d assignment_level e i j
no_assigned s f = (no_assignment s.0, omega (arith, s.1, f))

pub assign_made :
    {d x at op : ℕ} {a b w : Expr} {i j k m : List Token}
    → x ≡ d → at ≡ place i → Stands d cast_level a i j → (IsAtCast i → ⊥) → StandsAssignment (Some op) j → k ≡ drop 1 j
    → Stands x assignment_level b k m → w ≡ assign at op a b → Stands d assignment_level w i m
assign_made {d} {i = i} {m = m} q p s f o r b v =
    let P : Expr → Type 0 = λ z. Reads d assignment_level z i m in
    (subst P (sym v) (assign_read q p s.0 f (taken o.2 r) o.3 o.4 b.0), b.1)

pub no_chosen : {d : ℕ} {e : Expr} {i j : List Token} → Stands d (binary_level 10) e i j → (IsAt QUESTION j → ⊥) → Stands d conditional_level e i j
no_chosen {j = j} s f = (no_choice s.0, question_left j s.1 f)

pub choice_made :
    {d x y at : ℕ} {a b c w : Expr} {i j k m n z : List Token}
    → x ≡ d → y ≡ d → at ≡ place i → Stands d (binary_level 10) a i j → IsAt QUESTION j → k ≡ drop 1 j → Stands x expression_level b k m
    → ((u : Token) × Is COLON u × (m ≡ u ∷ n)) → Stands y conditional_level c n z → w ≡ conditional at a b c → Stands d conditional_level w i z
choice_made {d} {i = i} {j = j} {k = k} {z = z} q o p s h r b u c v =
    let P : Expr → Type 0 = λ y. Reads d conditional_level y i z in
    let t = taken_at _ j k h r in
    (subst P (sym v) (choice_read q o p s.0 t.1 t.2 b.0 u.1 u.2 c.0), c.1)

-- operators of the levels up to the number and their operands were read, and what follows is of no such level
abbrev pub Chained : ℕ → ℕ → Expr → List Token → List Token → Type 0
Chained d most e i j = (n : ℕ) × (n ≤ most) × Reads d (binary_level n) e i j × (n + 1 ≤ rank j) × (2 ≤ rank j)

pub binary_first : {d most : ℕ} {e : Expr} {i j : List Token} → Reads d cast_level e i j → Stops cast_level j → Chained d most e i j
binary_first r s = (zero, omega arith, no_chain r, omega (arith, s), s)

pub binary_made :
    {d x y most at : ℕ} {a b w : Expr} {i j k m : List Token} (o : Operator)
    → y ≡ d → at ≡ place i → Chained d most a i j → StandsOperator most (Some o) j → k ≡ drop 1 j → x ≡ o.level - 1 → 0 < o.level
    → Stands y (binary_level x) b k m → w ≡ binary at (infix_of o.between) a b → Chained d most w i m
binary_made {d} {x} {y} {most} {at} {a} {b} {w} {i} {j} {k} {m} o q p c h r e l s v =
    let P : Expr → Type 0 = λ z. Reads d (binary_level o.level) z i m in
    let u : suc x ≡ o.level = omega (arith, e, l) in
    (o.level, h.5, subst P (sym v) (binary_read q p c.2 c.3 (taken h.2 r) h.4 h.3 u s.0), omega (arith, s.1, u), omega (arith, s.1))

pub binary_end : {d most at : ℕ} {e : Expr} {i j : List Token} → at ≡ place i → Chained d most e i j → StandsOperator most None j → Stands d (binary_level most) e i j
binary_end {most = most} p c f = (lifted most p c.1 c.2, f c.4)

pub uncast_made : {d : ℕ} {e : Expr} {i j : List Token} → Stands d unary_level e i j → Stands d cast_level e i j
uncast_made s = (no_cast s.0, s.1)

pub cast_made :
    {d x y at : ℕ} {n : TypeName} {e w : Expr} {i j k m z : List Token}
    → x ≡ d → y ≡ d → at ≡ place i → IsAtCast i → j ≡ drop 1 i → ReadsType x n j k → ((u : Token) × Is RIGHT_PARENTHESIS u × (k ≡ u ∷ m))
    → Stands y cast_level e m z → w ≡ cast at n e → Stands d cast_level w i z
cast_made {d} {i = i} {j = j} {z = z} q o p h r n u s v =
    let P : Expr → Type 0 = λ y. Reads d cast_level y i z in
    let t = cast_taken i j h r in
    (subst P (sym v) (cast_read q o p t.1 t.2 n u.1 u.2 s.0), s.1)

pub no_prefixed : {d : ℕ} {e : Expr} {i j : List Token} → Stands d postfix_level e i j → Stands d unary_level e i j
no_prefixed s = (no_prefix s.0, s.1)

pub sizeof_ends :
    (room : Room) {at : ℕ} (i : List Token) {k : List Token} (m : List Token) (r : Result MeasuredExpr PhraseError)
    → at ≡ place i → IsAtKeyword SIZEOF i → k ≡ drop 1 i → ((t : Token) → IsKeyword SIZEOF t → at ≡ t.from → ParsesTree room unary_level r (t ∷ k) m)
    → ParsesTree room unary_level r i m
sizeof_ends room i {k = k} m r p h q f =
    let t = taken_word _ i k h q in
    let P : List Token → Type 0 = λ z. ParsesTree room unary_level r z m in
    subst P (sym t.2) (f t.0 t.1 (p ∙ ap place t.2))

pub step_made :
    {d x at : ℕ} {e w : Expr} {i k m : List Token} (step : Step)
    → x ≡ d → at ≡ place i → StandsStep (Some step) i → k ≡ drop 1 i → Stands x unary_level e k m → w ≡ prefix at (step_of step) e
    → Stands d unary_level w i m
step_made {d} {i = i} {m = m} step q p h r s v =
    let P : Expr → Type 0 = λ z. Reads d unary_level z i m in
    (subst P (sym v) (prefix_read q p (taken h.2 r) h.3 s.0), s.1)

pub unary_made :
    {d x at op : ℕ} {e w : Expr} {i k m : List Token}
    → x ≡ d → at ≡ place i → StandsUnary (Some op) i → k ≡ drop 1 i → Stands x cast_level e k m → w ≡ unary at op e
    → Stands d unary_level w i m
unary_made {d} {i = i} {m = m} q p h r s v =
    let P : Expr → Type 0 = λ z. Reads d unary_level z i m in
    (subst P (sym v) (unary_read q p (taken h.2 r) h.3 h.4 s.0), s.1)

pub sizeof_expression_made :
    {d x at : ℕ} {e w : Expr} {t : Token} {i m : List Token}
    → x ≡ d → IsKeyword SIZEOF t → at ≡ t.from → Stands x unary_level e i m → w ≡ prefix at sizeof e → Stands d unary_level w (t ∷ i) m
sizeof_expression_made {d} {t = t} {i = i} {m = m} q h p s v =
    let P : Expr → Type 0 = λ z. Reads d unary_level z (t ∷ i) m in
    (subst P (sym v) (sizeof_read q h p s.0), s.1)

pub sizeof_type_made :
    {d x at : ℕ} {n : TypeName} {w : Expr} {t : Token} {i j k m : List Token}
    → x ≡ d → IsKeyword SIZEOF t → at ≡ t.from → IsAtCast i → j ≡ drop 1 i → ReadsType x n j k → ((u : Token) × Is RIGHT_PARENTHESIS u × (k ≡ u ∷ m))
    → (rank m ≤ 1 → ⊥) → w ≡ sizeof_type at n → Stands d unary_level w (t ∷ i) m
sizeof_type_made {d} {t = t} {i = i} {j = j} {m = m} q h p f r n u z v =
    let P : Expr → Type 0 = λ y. Reads d unary_level y (t ∷ i) m in
    let o = cast_taken i j f r in
    (subst P (sym v) (sizeof_type_read q h p o.1 o.2 n u.1 u.2), omega (arith, z))

pub parentheses_made :
    {d x : ℕ} {e : Expr} {i j k m : List Token}
    → x ≡ d - 1 → (d ≡ 0 → ⊥) → IsAt LEFT_PARENTHESIS i → j ≡ drop 1 i → Stands x expression_level e j k
    → ((u : Token) × Is RIGHT_PARENTHESIS u × (k ≡ u ∷ m)) → (rank m ≡ 0 → ⊥) → Stands d primary_level e i m
parentheses_made {i = i} {j = j} q l h r s u z =
    let t = taken_at _ i j h r in
    (parentheses_read q (omega (arith, l)) t.1 t.2 s.0 u.1 u.2, omega (arith, z))

pub type_made :
    {d at : ℕ} {s : Spec} {e : Declarator} {n : TypeName} {i j k : List Token}
    → at ≡ place i → ReadsSpec s i j → Declares d e j k → HasNoName e → n ≡ type_name at s e → ReadsType d n i k
type_made {d} {i = i} {k = k} p r c h v =
    let P : TypeName → Type 0 = λ z. ReadsType d z i k in
    subst P (sym v) (a_type p r c h)

-- one expression more, after a comma
pub list_grown :
    {d : ℕ} {t : Token} {i z j k : List Token} {xs : List ExprTree} (es : List ExprTree) (e : ExprTree)
    → ReadsList d (exprs_of es) i z → z ≡ t ∷ j → Is COMMA t → Reads d assignment_level (expr_of e) j k → xs ≡ es ++ e ∷ [] → ReadsList d (exprs_of xs) i k
list_grown {d} {i = i} {k = k} es e r q h w v =
    let P : List Token → Type 0 = λ y. ReadsList d (exprs_of es) i y in
    let Q : List ExprTree → Type 0 = λ y. ReadsList d (exprs_of y) i k in
    subst Q (sym v) (list_more es e (subst P q r) h w)

-- the expressions end where no comma follows
pub list_ends : {d : ℕ} {es : Exprs} {i j k : List Token} → ReadsList d es i j → Stops assignment_level j → (IsAt COMMA j → ⊥) × (k ≡ j) → ReadsList d es i k × Stops expression_level k
list_ends {d} {es} {i} {j} {k} r s n =
    let P : List Token → Type 0 = λ y. ReadsList d es i y × Stops expression_level y in
    subst P (sym n.1) (r, comma_left j s n.0)

items_first : {T : Type 0} {xs ns : List T} {v e : T} → xs ≡ ns ++ v ∷ [] → ns ≡ [] → v ≡ e → xs ≡ e ∷ []
items_first {v = v} q n h = q ∙ ap (λ y. y ++ v ∷ []) n ∙ ap (λ y. y ∷ []) h

-- the first expression alone
pub list_first : {d : ℕ} {i j : List Token} {xs ns : List ExprTree} {v e : ExprTree} → xs ≡ ns ++ v ∷ [] → ns ≡ [] → v ≡ e → Reads d assignment_level (expr_of e) i j → ReadsList d (exprs_of xs) i j
list_first {d} {i} {j} q n h r =
    let Q : List ExprTree → Type 0 = λ y. ReadsList d (exprs_of y) i j in
    subst Q (sym (items_first q n h)) (last_expr r)

pub first_height : {h : ℕ} {xs ns : List ExprTree} {v e : ExprTree} → xs ≡ ns ++ v ∷ [] → ns ≡ [] → v ≡ e → h ≡ height (expr_of e) → h ≡ height_of_exprs (exprs_of xs)
first_height {h} q n p r =
    let Q : List ExprTree → Type 0 = λ y. h ≡ height_of_exprs (exprs_of y) in
    subst Q (sym (items_first q n p)) (omega (arith, r))

pub grown_height : {h m g : ℕ} {xs : List ExprTree} (es : List ExprTree) (v e : ExprTree) → xs ≡ es ++ v ∷ [] → v ≡ e → h ≡ max m g → m ≡ height_of_exprs (exprs_of es) → g ≡ height (expr_of e) → h ≡ height_of_exprs (exprs_of xs)
grown_height {h} es v e q p k a b =
    let Q : List ExprTree → Type 0 = λ y. h ≡ height_of_exprs (exprs_of y) in
    subst Q (sym (q ∙ ap (λ y. es ++ y ∷ []) p)) (omega (arith, k, a, b, exprs_height es e))

-- what a reader of expressions hands out
pub expression_has :
    {room : Room} {l : Level} {i j : List Token} (m : MeasuredExpr) (e : ExprTree)
    → Stands room.pairs l (tree_of m) i j → length j < length i → m.depth.height ≤ room.nodes → e ≡ m.tree.value → HasRead room l (expr_of e) i j
expression_has {room} {l} {i} {j} m e s f h q =
    let P : ExprTree → Type 0 = λ y. HasRead room l (expr_of y) i j in
    subst P (sym q) (record { reads = s.0; nested = omega (arith, h, m.exact); stops = s.1; shorter = f })

-- what a reader answers that returns what another one answers

pub tree_raised :
    {room : Room} {l k : Level} {i j : List Token} (r : Result MeasuredExpr PhraseError) → ParsesTree room l r i j
    → ((e : Expr) → Stands room.pairs l e i j → Stands room.pairs k e i j)
    → ((b : Bound) (q : List Token) → LacksExpr l b i q → LacksExpr k b i q)
    → ((at : ℕ) (q : List Token) → OpensExpr l at room.pairs room.nodes i q → OpensExpr k at room.pairs room.nodes i q)
    → ParsesTree room k r i j
tree_raised (Ok m) h f g o = f (tree_of m) h
tree_raised {l = l} {k} (Err e) h f g o = raised {Q = LacksExpr l} {P = LacksExpr k} {O = OpensExpr l} {U = OpensExpr k} h g o

-- what a reader answers that returns a node as it is made

pub when_read : {T E P : Type 0} (r : Result T E) → P → OnOk r P
when_read (Ok x) p = p
when_read (Err e) p = tt

pub tree_made : (room : Room) {l : Level} {tree : Expr} {i j : List Token} (r : Result MeasuredExpr PhraseError) → Makes r tree → ((w : Expr) → w ≡ tree → Stands room.pairs l w i j) → ParsesTree room l r i j
tree_made room (Ok m) h f = f (tree_of m) h
tree_made room {l = l} {i = i} {j = j} (Err e) h f = subst (λ z. Refused (LacksExpr l) (OpensExpr l) room z i j) (sym h) no_memory

pub shorter_before : {T E : Type 0} (a : ℕ) {b c : ℕ} (r : Result T E) → OnOk r (a ≤ b) → b < c → OnOk r (a < c)
shorter_before a (Ok x) h l = omega (arith, h, l)
shorter_before a (Err e) h l = tt

pub shorter_after : {T E : Type 0} (a : ℕ) {b c : ℕ} (r : Result T E) → OnOk r (a < b) → b ≤ c → OnOk r (a < c)
shorter_after a (Ok x) h l = omega (arith, h, l)
shorter_after a (Err e) h l = tt

pub short_before : {T E : Type 0} (a : ℕ) {b c : ℕ} (r : Result T E) → OnOk r (a ≤ b) → b ≤ c → OnOk r (a ≤ c)
short_before a (Ok x) h l = omega (arith, h, l)
short_before a (Err e) h l = tt
