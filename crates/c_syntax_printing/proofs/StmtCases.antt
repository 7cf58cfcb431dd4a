-- What a statement begins with, and its cases: a reading of the same tokens has the same form.
use Rattle.std.proofs.Common.{◌≡◌, ℕ, ◌≤◌, List, ◌∷◌, refl, ap, sym, ◌∙◌, arith}
use Rattle.c_lexer.specs.declared.token.Token.{Token}
use Rattle.c_lexer.specs.declared.punctuator.TheConstants.{RIGHT_PARENTHESIS, LEFT_BRACE, RIGHT_BRACE, SEMICOLON}
use Rattle.c_lexer.specs.declared.keyword.TheConstants.{BREAK, CONTINUE, DO, ELSE, FOR, IF, RETURN, SWITCH, WHILE}
use Rattle.c_syntax.specs.Tree.{Expr, Maybe, First, Stmt, BlockItems, Stmts, Groups}
use Rattle.c_syntax.specs.Tree.{block, empty, evaluate, only_if, if_else, while_loop, do_loop, for_loop, switch_on, break_off, continue_on, return_from}
use Rattle.c_syntax.specs.Tokens.{Is, IsKeyword, place}
use Rattle.c_syntax.specs.Grammar.{expression_level, Reads}
use Rattle.c_syntax.specs.Statements.{ReadsMaybe, ReadsFirst, IsClosed}
use Rattle.c_syntax.specs.Statements.{ReadsStmt, a_block, an_empty, an_evaluation, an_if, an_if_else, a_while, a_do, a_for, a_switch, a_break, a_continue, a_return}
use Rattle.c_syntax.specs.Statements.{ReadsBlockItems, no_block_item, a_block_decl, a_block_stmt, ReadsStmts, last_stmt, next_stmt, ReadsGroups, no_group, a_group}
use Rattle.c_syntax.proofs.BackTokens.{begins, begins_at}
use Rattle.c_syntax_printing.proofs.Ranks.{ranked, heads}
use Rattle.c_syntax_printing.specs.Heads.{head}
use Rattle.c_syntax_printing.proofs.Heads.{headed, worded, expression_head}
use Rattle.c_syntax_printing.proofs.One.{same}
use Rattle.c_syntax_printing.proofs.OneDecl.{plain_head, labels_head, Closes, same_maybe, same_first}

-- the number of the first token, by the form
abbrev pub form : {d : ℕ} {s : Stmt} {i j : List Token} → ReadsStmt d s i j → ℕ
form (a_block h r c) = 21
form (an_empty h) = 22
form (an_evaluation p r h) = 20
form (a_while w o r c f) = 24
form (a_do w f x o r c e) = 25
form (a_for w o f t e s c b) = 26
form (a_switch w o r c l g e) = 27
form (a_break w h) = 28
form (a_continue w h) = 29
form (a_return w m h) = 30
form a = 23

pub decided : {d : ℕ} {s : Stmt} {i j : List Token} (r : ReadsStmt d s i j) → head i ≡ form r
decided (a_block h r c) = headed h
decided (an_empty h) = headed h
decided (an_evaluation p r h) = expression_head r
decided (an_if w o r c f) = worded w
decided (an_if_else w o r c f q e g) = worded w
decided (a_while w o r c f) = worded w
decided (a_do w f x o r c e) = worded w
decided (a_for w o f t e s c b) = worded w
decided (a_switch w o r c l g e) = worded w
decided (a_break w h) = worded w
decided (a_continue w h) = worded w
decided (a_return w m h) = worded w

form_high : {d : ℕ} {s : Stmt} {i j : List Token} (r : ReadsStmt d s i j) → 20 ≤ form r
form_high (a_block h r c) = omega arith
form_high r = omega arith

pub stmt_head : {d : ℕ} {s : Stmt} {i j : List Token} → ReadsStmt d s i j → 20 ≤ head i
stmt_head r = omega (arith, decided r, form_high r)

-- no else stands after the items of a block
pub block_items_head : {d : ℕ} {a : BlockItems} {i j : List Token} → ReadsBlockItems d a i j → head j ≡ 5 → head i ≡ 13 → ⊥
block_items_head no_block_item h k = omega arith
block_items_head (a_block_decl r p f) h k = omega (arith, plain_head r p)
block_items_head (a_block_stmt r f) h k = omega (arith, stmt_head r)

pub stmts_head : {d : ℕ} {a : Stmts} {i j : List Token} → ReadsStmts d a i j → 20 ≤ head i
stmts_head (last_stmt r) = stmt_head r
stmts_head (next_stmt r f) = stmt_head r

-- groups begin with a label, or end at once
pub groups_head : {d : ℕ} {a : Groups} {i j : List Token} → ReadsGroups d a i j → head j ≡ 5 → head i ≤ 12
groups_head no_group h = omega arith
groups_head (a_group r f g) h = omega (arith, (labels_head r).1)

-- where an else follows, no if without one ends the statement
abbrev pub Fits : Stmt → List Token → Type 0
Fits s j = head j ≡ 13 → IsClosed s

-- the statement from i to j is the only one that fits
pub record IsOnly (s : Stmt) (i j : List Token) : Type 0 where
  pub same : (x : ℕ) (z : Stmt) (k : List Token) → ReadsStmt x z i k → Fits s j → Fits z k → (s ≡ z) × (j ≡ k)

-- the items from i up to a brace
pub record AreOnlyBlockItems (a : BlockItems) (i j : List Token) : Type 0 where
  pub same : (x : ℕ) (b : BlockItems) (k : List Token) → ReadsBlockItems x b i k → head j ≡ 5 → head k ≡ 5 → (a ≡ b) × (j ≡ k)

pub record AreOnlyGroups (a : Groups) (i j : List Token) : Type 0 where
  pub same : (x : ℕ) (b : Groups) (k : List Token) → ReadsGroups x b i k → head j ≡ 5 → head k ≡ 5 → (a ≡ b) × (j ≡ k)

pub block_case : {x : ℕ} {a : BlockItems} {z : Stmt} {t u : Token} {i j k : List Token} → Is LEFT_BRACE t → AreOnlyBlockItems a i (u ∷ j) → Is RIGHT_BRACE u → ReadsStmt x z (t ∷ i) k → (block t.from a ≡ z) × (j ≡ k)
block_case h f c (a_block o v b) = let y = f.same _ _ _ v (headed c) (headed b) in (cc, (heads y.1).1)
block_case h f c v = absurd (omega (arith, headed h, decided v))

pub empty_case : {x : ℕ} {z : Stmt} {t : Token} {i k : List Token} → Is SEMICOLON t → ReadsStmt x z (t ∷ i) k → (empty t.from ≡ z) × (i ≡ k)
empty_case h (an_empty o) = (refl, refl)
empty_case h v = absurd (omega (arith, headed h, decided v))

pub evaluation_case : {d x at : ℕ} {e : Expr} {z : Stmt} {t : Token} {i j k : List Token} → at ≡ place i → Reads d expression_level e i (t ∷ j) → Is SEMICOLON t → ReadsStmt x z i k → (evaluate at e ≡ z) × (j ≡ k)
evaluation_case p r h (an_evaluation q v o) = let y = same r v (omega (arith, ranked h)) (omega (arith, ranked o)) in (cc, (heads y.1).1)
evaluation_case p r h v = absurd (omega (arith, expression_head r, decided v))

-- the condition in parentheses is one
same_condition : {d x : ℕ} {e f : Expr} {c b : Token} {i j k : List Token} → Reads d expression_level e i (c ∷ j) → Reads x expression_level f i (b ∷ k) → Is RIGHT_PARENTHESIS c → Is RIGHT_PARENTHESIS b → (e ≡ f) × (j ≡ k)
same_condition r v c b = let y = same r v (omega (arith, ranked c)) (omega (arith, ranked b)) in (y.0, (heads y.1).1)

pub if_case : {d x : ℕ} {e : Expr} {s z : Stmt} {t o c : Token} {i j k m : List Token} → IsKeyword IF t → Reads d expression_level e i (c ∷ j) → Is RIGHT_PARENTHESIS c → IsOnly s j k → (head k ≡ 13 → ⊥) → ReadsStmt x z (t ∷ o ∷ i) m → Fits z m → (only_if t.from e s ≡ z) × (k ≡ m)
if_case w r c f g (an_if u p v b q) h =
    let y = same_condition r v c b in
    let a = f.same _ _ _ (begins_at (ReadsStmt _ _) y.1 q) (λ n. absurd (g n)) (λ n. absurd (h n)) in (cc, a.1)
if_case w r c f g (an_if_else u p v b q l e n) h =
    let y = same_condition r v c b in
    let a = f.same _ _ _ (begins_at (ReadsStmt _ _) y.1 q) (λ n. absurd (g n)) (λ n. l) in absurd (g (ap head a.1 ∙ worded e))
if_case w r c f g v h = absurd (omega (arith, worded w, decided v))

pub if_else_case : {d x : ℕ} {e : Expr} {s a z : Stmt} {t o c u : Token} {i j k n m : List Token} → IsKeyword IF t → Reads d expression_level e i (c ∷ j) → Is RIGHT_PARENTHESIS c → IsOnly s j (u ∷ k) → IsClosed s → IsKeyword ELSE u → IsOnly a k n → Fits a n → ReadsStmt x z (t ∷ o ∷ i) m → Fits z m → (if_else t.from e s a ≡ z) × (n ≡ m)
if_else_case w r c f l q g a (an_if x p v b h) z =
    let y = same_condition r v c b in
    let o = f.same _ _ _ (begins_at (ReadsStmt _ _) y.1 h) (λ n. l) (λ n. absurd (z n)) in absurd (z (ap head (sym o.1) ∙ worded q))
if_else_case w r c f l q g a (an_if_else x p v b h m k n) z =
    let y = same_condition r v c b in
    let o = f.same _ _ _ (begins_at (ReadsStmt _ _) y.1 h) (λ n. l) (λ n. m) in
    let u = g.same _ _ _ (begins_at (ReadsStmt _ _) (heads o.1).1 n) a z in (cc, u.1)
if_else_case w r c f l q g a v z = absurd (omega (arith, worded w, decided v))

pub while_case : {d x : ℕ} {e : Expr} {s z : Stmt} {t o c : Token} {i j k m : List Token} → IsKeyword WHILE t → Reads d expression_level e i (c ∷ j) → Is RIGHT_PARENTHESIS c → IsOnly s j k → Fits s k → ReadsStmt x z (t ∷ o ∷ i) m → Fits z m → (while_loop t.from e s ≡ z) × (k ≡ m)
while_case w r c f g (a_while u p v b q) h =
    let y = same_condition r v c b in
    let a = f.same _ _ _ (begins_at (ReadsStmt _ _) y.1 q) g h in (cc, a.1)
while_case w r c f g v h = absurd (omega (arith, worded w, decided v))

pub do_case : {d x : ℕ} {e : Expr} {s z : Stmt} {t w o c u : Token} {i j k m : List Token} → IsKeyword DO t → IsOnly s i (w ∷ o ∷ j) → IsKeyword WHILE w → Reads d expression_level e j (c ∷ u ∷ k) → Is RIGHT_PARENTHESIS c → ReadsStmt x z (t ∷ i) m → (do_loop t.from s e ≡ z) × (k ≡ m)
do_case w f g r c (a_do p h l q v b n) =
    let y = f.same _ _ _ h (λ e. absurd (omega (arith, worded g))) (λ e. absurd (omega (arith, worded l))) in
    let a = same_condition r (begins (heads (heads y.1).1).1 v) c b in (cc, (heads a.1).1)
do_case w f g r c v = absurd (omega (arith, worded w, decided v))

semicolon_closes : {t : Token} {j : List Token} → Is SEMICOLON t → Closes (t ∷ j)
semicolon_closes h = record { stops = omega (arith, ranked h); ends = λ k. absurd (omega (arith, headed h)) }

parenthesis_closes : {t : Token} {j : List Token} → Is RIGHT_PARENTHESIS t → Closes (t ∷ j)
parenthesis_closes h = record { stops = omega (arith, ranked h); ends = λ k. absurd (omega (arith, headed h)) }

pub for_case : {d x : ℕ} {a : First} {e b : Maybe} {s z : Stmt} {t o u c : Token} {i j k m n l : List Token} → IsKeyword FOR t → ReadsFirst d a i j → ReadsMaybe d e j (u ∷ k) → Is SEMICOLON u → ReadsMaybe d b k (c ∷ m) → Is RIGHT_PARENTHESIS c → IsOnly s m n → Fits s n → ReadsStmt x z (t ∷ o ∷ i) l → Fits z l → (for_loop t.from a e b s ≡ z) × (n ≡ l)
for_case w f r h q c g y (a_for p o a v b l e s) z =
    let i = same_first f a in
    let j = same_maybe r (begins_at (ReadsMaybe _ _) i.1 v) (semicolon_closes h) (semicolon_closes b) in
    let k = same_maybe q (begins_at (ReadsMaybe _ _) (heads j.1).1 l) (parenthesis_closes c) (parenthesis_closes e) in
    let m = g.same _ _ _ (begins_at (ReadsStmt _ _) (heads k.1).1 s) y z in (cc, m.1)
for_case w f r h q c g y v z = absurd (omega (arith, worded w, decided v))

pub switch_case : {d x : ℕ} {e : Expr} {a : Groups} {z : Stmt} {t o c l u : Token} {i j k m : List Token} → IsKeyword SWITCH t → Reads d expression_level e i (c ∷ l ∷ j) → Is RIGHT_PARENTHESIS c → AreOnlyGroups a j (u ∷ k) → Is RIGHT_BRACE u → ReadsStmt x z (t ∷ o ∷ i) m → (switch_on t.from e a ≡ z) × (k ≡ m)
switch_case w r c f h (a_switch p o v b l q n) =
    let y = same_condition r v c b in
    let a = f.same _ _ _ (begins_at (ReadsGroups _ _) (heads y.1).1 q) (headed h) (headed n) in (cc, (heads a.1).1)
switch_case w r c f h v = absurd (omega (arith, worded w, decided v))

pub break_case : {x : ℕ} {z : Stmt} {t u : Token} {i k : List Token} → IsKeyword BREAK t → ReadsStmt x z (t ∷ u ∷ i) k → (break_off t.from ≡ z) × (i ≡ k)
break_case w (a_break p o) = (refl, refl)
break_case w v = absurd (omega (arith, worded w, decided v))

pub continue_case : {x : ℕ} {z : Stmt} {t u : Token} {i k : List Token} → IsKeyword CONTINUE t → ReadsStmt x z (t ∷ u ∷ i) k → (continue_on t.from ≡ z) × (i ≡ k)
continue_case w (a_continue p o) = (refl, refl)
continue_case w v = absurd (omega (arith, worded w, decided v))

pub return_case : {d x : ℕ} {e : Maybe} {z : Stmt} {t u : Token} {i j k : List Token} → IsKeyword RETURN t → ReadsMaybe d e i (u ∷ j) → Is SEMICOLON u → ReadsStmt x z (t ∷ i) k → (return_from t.from e ≡ z) × (j ≡ k)
return_case w r h (a_return p v o) = let y = same_maybe r v (semicolon_closes h) (semicolon_closes o) in (cc, (heads y.1).1)
return_case w r h v = absurd (omega (arith, worded w, decided v))
