-- Where statements stop: what fails at a part, and what was read before it, make the failure of the whole.
use Rattle.std.proofs.Common.{◌≡◌, ℕ, List, ◌∷◌, Box, Global, Result, Ok, Err, IsErr, IsErrAnd, refl, sym, subst, arith}
use Rattle.std.proofs.lemmas.Result.{err_from_is_err_and}
use Rattle.c_lexer.specs.declared.token.Token.{Token}
use Rattle.c_lexer.specs.declared.punctuator.TheConstants.{LEFT_PARENTHESIS, RIGHT_PARENTHESIS, LEFT_BRACE, SEMICOLON}
use Rattle.c_lexer.specs.declared.keyword.TheConstants.{ELSE, WHILE}
use Rattle.c_syntax.specs.Tree.{Expr, Maybe, First, Stmt}
use Rattle.c_syntax.specs.Tokens.{Is, IsKeyword}
use Rattle.c_syntax.specs.Grammar.{Level, expression_level}
use Rattle.c_syntax.specs.Statements.{ReadsMaybe, no_expression_stands, an_expression_stands}
use Rattle.c_syntax_printing.proofs.Ranks.{ranked}
use Rattle.c_syntax_printing.proofs.Heads.{headed}
use Rattle.c_parser_phrases.specs.declared.room.Room.{Room}
use Rattle.c_parser_phrases.specs.declared.error.PhraseError.{PhraseError}
use Rattle.c_parser_phrases.specs.declared.error.PhraseError.TheVariants.{OutOfMemory, Syntax, Nesting}
use Rattle.c_parser_phrases.specs.Phrases.{HasRead}
use Rattle.c_parser_phrases.specs.Standing.{IsAt, IsAtKeyword}
use Rattle.c_syntax_printing.specs.Fails.{Fails, then, first, second}
use Rattle.c_syntax_printing.specs.Phrases.{Bound, any, within, inner, fits_any, AnExpr, AFirst, AStmt, MaybeExpr, no_expr, InCondition, InSwitch, IfTail, DoTail, ForTail, SwitchTail}
use Rattle.c_syntax_printing.proofs.Combine.{Begins, fails_at, fails_first, fails_after, fails_later, fails_missing, missing, fails_begun, fails_then_more}
use Rattle.c_syntax_printing.proofs.Fixed.{expr_fixes, stmt_fixes}
use Rattle.c_syntax_printing.proofs.PartFails.{maybe_fixes, maybe_fails, first_fixes, else_fails}
use Rattle.c_parser_phrases.specs.Refusing.{bound_of, Refuses, RefusedFlat, Stops}
use Rattle.c_parser.specs.Refusing.{KeepsOrNests, ACondition, ABefore, AHead}
use Rattle.c_parser.specs.Making.{Makes, Adds}
use Rattle.c_syntax.specs.declared.tree.Stmt.{Stmt as StmtTree}
use Rattle.c_parser.specs.Parsed.{HasCondition, HasMaybe, HasFirst, HasHead, HasStmt}
use Rattle.c_parser.specs.declared.nodes.ForHead.{ForHead}
use Rattle.c_parser.proofs.RoomLemmas.{IsInside}
use Rattle.c_parser.proofs.Firsts.{not_at, not_at_word, else_at}
pub use Rattle.c_parser_phrases.proofs.Raising.{ends_at}

-- from the error of a part to that of the whole, within the same limits
pub refuses_as : (A B : Bound → List Token → List Token → Type 0) (b : Bound) {i j : List Token} (k : List Token) (e : PhraseError) → ((x : Bound) (r : List Token) → Fails (B x) j r → Fails (A x) i r) → Refuses B b e j k → Refuses A b e i k
refuses_as A B b k OutOfMemory f s = tt
refuses_as A B b k Syntax f s = f any k s
refuses_as A B b k (Nesting at) f s = (s.0, f b s.0 s.1)

-- the same, where both are told within other limits
refuses_on : (A B : Bound → List Token → List Token → Type 0) (a b : Bound) {i j : List Token} (k : List Token) (e : PhraseError) → ((r : List Token) → Fails (B any) j r → Fails (A any) i r) → ((r : List Token) → Fails (B b) j r → Fails (A a) i r) → Refuses B b e j k → Refuses A a e i k
refuses_on A B a b k OutOfMemory f g s = tt
refuses_on A B a b k Syntax f g s = f k s
refuses_on A B a b k (Nesting at) f g s = (s.0, g s.0 s.1)

-- what a `?` hands on
handed : {T : Type 0} (A : Bound → List Token → List Token → Type 0) (b : Bound) (i k : List Token) (result : Result T PhraseError) (e : PhraseError) → IsErr result × IsErrAnd result (λ y. y ≡ e) → Refuses A b e i k → Stops A b result i k
handed A b i k result e h p = let w = err_from_is_err_and result h.1 in rw (w.1, w.2) p

-- the limits inside one more node
pub inside_is : {room inside : Room} → IsInside room inside → bound_of inside ≡ inner (bound_of room)
inside_is h = λ n. within (h.pairs n) (h.nodes n)

pub raised : {T : Type 0} (A B : Bound → List Token → List Token → Type 0) (b : Bound) {i j : List Token} (k : List Token) (result : Result T PhraseError) (e : PhraseError) → IsErr result × IsErrAnd result (λ y. y ≡ e) → ((x : Bound) (r : List Token) → Fails (B x) j r → Fails (A x) i r) → Refuses B b e j k → Stops A b result i k
raised A B b {i} k result e h f p = handed A b i k result e h (refuses_as A B b k e f p)

-- the same, where the part stands inside one more node
pub raised_in : {T : Type 0} (A B : Bound → List Token → List Token → Type 0) (room : Room) {inside : Room} {i j : List Token} (k : List Token) (result : Result T PhraseError) (e : PhraseError) → IsErr result × IsErrAnd result (λ y. y ≡ e) → IsInside room inside → ((x : Bound) (r : List Token) → Fails (B (inner x)) j r → Fails (A x) i r) → Refuses B (bound_of inside) e j k → Stops A (bound_of room) result i k
raised_in A B room {inside} {i} {j} k result e h n f p =
    handed A (bound_of room) i k result e h
    (refuses_on A B (bound_of room) (bound_of inside) k e (f any) (λ r g. f (bound_of room) r (subst (λ z. Fails (B z) j r) (inside_is n) g)) p)

-- the same, for a part that is told within the limits of one more node
pub raised_inner : {T : Type 0} (A B : Bound → List Token → List Token → Type 0) (b : Bound) {i j : List Token} (k : List Token) (result : Result T PhraseError) (e : PhraseError) → IsErr result × IsErrAnd result (λ y. y ≡ e) → ((x : Bound) (r : List Token) → Fails (B (inner x)) j r → Fails (A x) i r) → Refuses B (inner b) e j k → Stops A b result i k
raised_inner A B b {i} k result e h f p = handed A b i k result e h (refuses_on A B b (inner b) k e (f any) (f b) p)

-- the same, where both stand inside one more node
pub raised_within : {T : Type 0} (A B : Bound → List Token → List Token → Type 0) (room : Room) {inside : Room} {i j : List Token} (k : List Token) (result : Result T PhraseError) (e : PhraseError) → IsErr result × IsErrAnd result (λ y. y ≡ e) → IsInside room inside → ((x : Bound) (r : List Token) → Fails (B x) j r → Fails (A x) i r) → Refuses B (bound_of inside) e j k → Stops A (inner (bound_of room)) result i k
raised_within A B room {inside} {i} {j} k result e h n f p =
    handed A (inner (bound_of room)) i k result e h
    (refuses_on A B (inner (bound_of room)) (bound_of inside) k e (f any) (λ r g. f (inner (bound_of room)) r (subst (λ z. Fails (B z) j r) (inside_is n) g)) p)

refuses_flat : (A : Bound → List Token → List Token → Type 0) (b : Bound) {B : List Token → List Token → Type 0} {i j k : List Token} (e : PhraseError) → ((x : Bound) (r : List Token) → Fails B j r → Fails (A x) i r) → RefusedFlat B e j k → Refuses A b e i k
refuses_flat A b OutOfMemory f s = tt
refuses_flat A b {k = k} Syntax f s = f any k (s.wrong refl)
refuses_flat A b (Nesting at) f s = absurd (s.deep at refl)

-- the same, for a part in which nothing is nested
pub raised_flat : {T : Type 0} (A : Bound → List Token → List Token → Type 0) (b : Bound) {B : List Token → List Token → Type 0} {i j k : List Token} (result : Result T PhraseError) (e : PhraseError) → IsErr result × IsErrAnd result (λ y. y ≡ e) → ((x : Bound) (r : List Token) → Fails B j r → Fails (A x) i r) → RefusedFlat B e j k → Stops A b result i k
raised_flat A b {i = i} {k = k} result e h f p = handed A b i k result e h (refuses_flat A b e f p)

-- where nothing but memory was wanting

adds_none : {X : Type 0} (A : Bound → List Token → List Token → Type 0) (b : Bound) (i k : List Token) (old new : List X) (item : X) (e : PhraseError) → Adds (Err e) old new item → Refuses A b e i k
adds_none A b i k old new item OutOfMemory p = tt
adds_none A b i k old new item Syntax p = absurd p
adds_none A b i k old new item (Nesting at) p = absurd p

pub only_memory : {X T : Type 0} (A : Bound → List Token → List Token → Type 0) (b : Bound) (i k : List Token) (old new : List X) (item : X) (result : Result T PhraseError) (e : PhraseError) → IsErr result × IsErrAnd result (λ y. y ≡ e) → Adds (Err e) old new item → Stops A b result i k
only_memory A b i k old new item result e h p = handed A b i k result e h (adds_none A b i k old new item e p)

-- what a last call answers, where it is returned as it is and the part stands inside one more node

pub stops_in : {T : Type 0} (A B : Bound → List Token → List Token → Type 0) (room : Room) {inside : Room} {i j : List Token} (k : List Token) (result : Result T PhraseError) → IsInside room inside → ((x : Bound) (r : List Token) → Fails (B (inner x)) j r → Fails (A x) i r) → Stops B (bound_of inside) result j k → Stops A (bound_of room) result i k
stops_in A B room k (Ok x) n f s = tt
stops_in A B room {inside} {i} {j} k (Err e) n f s = refuses_on A B (bound_of room) (bound_of inside) k e (f any) (λ r g. f (bound_of room) r (subst (λ z. Fails (B z) j r) (inside_is n) g)) s

-- the same, for a part that is told within the limits of one more node
pub stops_inner : {T : Type 0} (A B : Bound → List Token → List Token → Type 0) (b : Bound) {i j : List Token} (k : List Token) (result : Result T PhraseError) → ((x : Bound) (r : List Token) → Fails (B (inner x)) j r → Fails (A x) i r) → Stops B (inner b) result j k → Stops A b result i k
stops_inner A B b k (Ok x) f s = tt
stops_inner A B b k (Err e) f s = refuses_on A B b (inner b) k e (f any) (f b) s

-- the same, for a node and for an item that is added: nothing but memory was wanting
pub made_stops : (A : Bound → List Token → List Token → Type 0) (b : Bound) (i k : List Token) (result : Result (Box StmtTree Global) PhraseError) (s : Stmt) → Makes result s → Stops A b result i k
made_stops A b i k (Ok x) s p = tt
made_stops A b i k (Err OutOfMemory) s p = tt
made_stops A b i k (Err Syntax) s p = absurd p
made_stops A b i k (Err (Nesting at)) s p = absurd p

pub added_stops : {X : Type 0} (A : Bound → List Token → List Token → Type 0) (b : Bound) (i k : List Token) (old new : List X) (item : X) (result : Result (Unit {0}) PhraseError) → Adds result old new item → Stops A b result i k
added_stops A b i k old new item (Ok x) p = tt
added_stops A b i k old new item (Err e) p = adds_none A b i k old new item e p

-- where there is no room for a node
pub no_room_left : (room : Room) (i : List Token) (e : PhraseError) → room.nodes ≡ 0 → Refuses AStmt (within room.pairs 0) e i i → Refuses AStmt (bound_of room) e i i
no_room_left room i OutOfMemory q s = tt
no_room_left room i Syntax q s = s
no_room_left room i (Nesting at) q s = (s.0, subst (λ n. Fails (AStmt (within room.pairs n)) i s.0) (sym q) s.1)

-- the same, where an error may have become one of nesting
pub stops_deep : (A : Bound → List Token → List Token → Type 0) (b : Bound) {i q : List Token} (j : List Token) (e r : PhraseError) → KeepsOrNests e r → Fails (A b) i q → Refuses A b e i j → Refuses A b r i j
stops_deep A b j e OutOfMemory k f s = tt
stops_deep A b {i} j e Syntax k f s = subst (λ z. Refuses A b z i j) k s
stops_deep A b {q = q} j e (Nesting at) k f s = (q, f)

-- what was read, whatever its depth

pub an_expr : {room : Room} {l : Level} {e : Expr} {i j : List Token} → HasRead room l e i j → AnExpr any l i j
an_expr r = record { depth = _; tree = _; reads = r.reads; stops = r.stops; fits = fits_any }

pub a_stmt : {room : Room} {s : Stmt} {i j : List Token} → HasStmt room s i j → AStmt any i j
a_stmt s = record { depth = _; tree = _; reads = s.reads; closed = λ h. s.closed (else_at _ h); fits = fits_any }

-- an expression in parentheses

pub no_parenthesis : (x : Bound) (i : List Token) → (IsAt LEFT_PARENTHESIS i → ⊥) → Fails (ACondition x) i i
no_parenthesis x i f = fails_missing i (not_at f)

pub condition_fails : (x : Bound) {t : Token} {i j r : List Token} → i ≡ t ∷ j → Fails (AnExpr x expression_level) j r → Fails (ACondition x) i r
condition_fails x q f = fails_at q (fails_after (fails_first f))

pub condition_unclosed : (x : Bound) {room : Room} {e : Expr} {t : Token} {i j k : List Token} → i ≡ t ∷ j → HasRead room expression_level e j k → (IsAt RIGHT_PARENTHESIS k → ⊥) → Fails (ACondition x) i k
condition_unclosed x q h f = fails_at q (fails_after (fails_later (expr_fixes any x expression_level) (an_expr h) (missing _ (not_at f))))

condition_begins : {x : Bound} {R : List Token → List Token → Type 0} {i j : List Token} → InCondition x R i j → Begins (ACondition x) i
condition_begins (then l (then e (then r w))) = record { rest = _; reads = then l (then e r) }

-- a condition fails in front of anything
pub in_condition : (x : Bound) {R : List Token → List Token → Type 0} {i r : List Token} → Fails (ACondition x) i r → Fails (InCondition x R) i r
in_condition x f = fails_begun (λ k j m a. condition_begins a) f

-- a condition stands, and what follows it fails
pub after_condition : (x : Bound) {room : Room} {R : List Token → List Token → Type 0} {e : Expr} {i j r : List Token} → HasCondition room e i j → Fails R j r → Fails (InCondition x R) i r
after_condition x c f =
    fails_at c.stood
    (fails_after (fails_later (expr_fixes any x expression_level) (record { depth = _; tree = _; reads = c.reads; stops = omega (arith, ranked c.closes); fits = fits_any }) (fails_after f)))

-- an expression that may be left out, and the punctuator after it

pub before_fails : (x : Bound) (end : ℕ) {i r : List Token} → (IsAt end i → ⊥) → Fails (AnExpr x expression_level) i r → Fails (ABefore end x) i r
before_fails x end f g = maybe_fails end (not_at f) g

pub before_unclosed : (x : Bound) (end : ℕ) {room : Room} {e : Expr} {i j : List Token} → HasRead room expression_level e i j → (IsAt end j → ⊥) → Fails (ABefore end x) i j
before_unclosed x end h f = fails_later (maybe_fixes any x) (second (an_expr h)) (missing _ (not_at f))

maybe_semicolon : {d : ℕ} {e : Maybe} {t : Token} {i j : List Token} → ReadsMaybe d e i (t ∷ j) → Is SEMICOLON t → MaybeExpr any i (t ∷ j)
maybe_semicolon no_expression_stands c = first (no_expr (λ h. omega (arith, headed c, h)))
maybe_semicolon (an_expression_stands r) c = second (record { depth = _; tree = _; reads = r; stops = omega (arith, ranked c); fits = fits_any })

maybe_parenthesis : {d : ℕ} {e : Maybe} {t : Token} {i j : List Token} → ReadsMaybe d e i (t ∷ j) → Is RIGHT_PARENTHESIS t → MaybeExpr any i (t ∷ j)
maybe_parenthesis no_expression_stands c = first (no_expr (λ h. omega (arith, headed c, h)))
maybe_parenthesis (an_expression_stands r) c = second (record { depth = _; tree = _; reads = r; stops = omega (arith, ranked c); fits = fits_any })

-- the head of a for

a_first : {room : Room} {x : First} {i j : List Token} → HasFirst room x i j → AFirst any i j
a_first h = record { depth = _; tree = _; reads = h.reads; fits = fits_any }

pub no_head : (x : Bound) (i : List Token) → (IsAt LEFT_PARENTHESIS i → ⊥) → Fails (AHead x) i i
no_head x i f = fails_missing i (not_at f)

pub first_fails : (x : Bound) {t : Token} {i j r : List Token} → i ≡ t ∷ j → Fails (AFirst x) j r → Fails (AHead x) i r
first_fails x q f = fails_at q (fails_after (fails_first f))

pub test_fails : (x : Bound) {room : Room} {v : First} {t : Token} {i j k r : List Token} → i ≡ t ∷ j → HasFirst room v j k → Fails (ABefore SEMICOLON x) k r → Fails (AHead x) i r
test_fails x q h f = fails_at q (fails_after (fails_later (first_fixes any x) (a_first h) (fails_then_more f)))

pub step_fails : (x : Bound) {room : Room} {v : First} {e : Maybe} {t : Token} {i j k m r : List Token} → i ≡ t ∷ j → HasFirst room v j k → HasMaybe room SEMICOLON e k m → Fails (ABefore RIGHT_PARENTHESIS x) m r → Fails (AHead x) i r
step_fails x q h e f = fails_at q (fails_after (fails_later (first_fixes any x) (a_first h) (fails_later (maybe_fixes any x) (maybe_semicolon e.reads e.closes) (fails_after f))))

head_begins : {x : Bound} {i j : List Token} → ForTail x i j → Begins (AHead x) i
head_begins (then l (then f (then e (then c (then g (then r s)))))) = record { rest = _; reads = then l (then f (then e (then c (then g r)))) }

-- what stands after the first token of a statement

pub if_yes : (x : Bound) {room : Room} {e : Expr} {i j r : List Token} → HasCondition room e i j → Fails (AStmt x) j r → Fails (IfTail x) i r
if_yes x c f = after_condition x c (fails_first f)

pub if_no : (x : Bound) {room : Room} {e : Expr} {s : Stmt} {t : Token} {i j k m r : List Token} → HasCondition room e i j → HasStmt room s j k → k ≡ t ∷ m → IsKeyword ELSE t → Fails (AStmt x) m r → Fails (IfTail x) i r
if_no x c s q w f = after_condition x c (fails_later (stmt_fixes any x) (a_stmt s) (fails_at q (else_fails w f)))

pub do_word : (x : Bound) {room : Room} {s : Stmt} {i j : List Token} → HasStmt room s i j → (IsAtKeyword WHILE j → ⊥) → Fails (DoTail x) i j
do_word x s f = fails_later (stmt_fixes any x) (a_stmt s) (fails_missing _ (not_at_word f))

pub do_head : (x : Bound) {room : Room} {s : Stmt} {t : Token} {i j k r : List Token} → HasStmt room s i j → j ≡ t ∷ k → Fails (ACondition x) k r → Fails (DoTail x) i r
do_head x s q f = fails_later (stmt_fixes any x) (a_stmt s) (fails_at q (fails_after (in_condition x f)))

pub do_end : (x : Bound) {room : Room} {s : Stmt} {e : Expr} {t : Token} {i j k m : List Token} → HasStmt room s i j → j ≡ t ∷ k → HasCondition room e k m → (IsAt SEMICOLON m → ⊥) → Fails (DoTail x) i m
do_end x s q c f = fails_later (stmt_fixes any x) (a_stmt s) (fails_at q (fails_after (after_condition x c (missing _ (not_at f)))))

pub for_head : (x : Bound) {i r : List Token} → Fails (AHead x) i r → Fails (ForTail x) i r
for_head x f = fails_begun (λ k j m a. head_begins a) f

pub for_body : (x : Bound) {room : Room} (h : ForHead) {i j r : List Token} → HasHead room h i j → Fails (AStmt x) j r → Fails (ForTail x) i r
for_body x h v f =
    fails_at v.stood
    (fails_after
    (fails_later (first_fixes any x) (a_first v.first)
    (fails_later (maybe_fixes any x) (maybe_semicolon v.test.reads v.test.closes) (fails_after (fails_later (maybe_fixes any x) (maybe_parenthesis v.step.reads v.step.closes) (fails_after f))))))

pub switch_brace : (x : Bound) {room : Room} {e : Expr} {i j : List Token} → HasCondition room e i j → (IsAt LEFT_BRACE j → ⊥) → Fails (SwitchTail x) i j
switch_brace x c f = after_condition x c (fails_missing _ (not_at f))

pub switch_groups : (x : Bound) {room : Room} {e : Expr} {t : Token} {i j k r : List Token} → HasCondition room e i j → j ≡ t ∷ k → Fails (InSwitch x) k r → Fails (SwitchTail x) i r
switch_groups x c q f = after_condition x c (fails_at q (fails_after f))
