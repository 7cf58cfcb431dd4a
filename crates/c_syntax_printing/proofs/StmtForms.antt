-- What follows the first token of a statement, form by form.
use Rattle.std.proofs.Common.{◌≡◌, ◌≤◌, ℕ, suc, List, ◌∷◌, arith}
use Rattle.c_lexer.specs.declared.token.Token.{Token}
use Rattle.c_lexer.specs.declared.punctuator.TheConstants.{LEFT_BRACE, SEMICOLON}
use Rattle.c_lexer.specs.declared.keyword.TheConstants.{BREAK, CONTINUE, DO, FOR, IF, RETURN, SWITCH, WHILE}
use Rattle.c_syntax.specs.Tree.{Expr, Maybe, Stmt}
use Rattle.c_syntax.specs.Tokens.{Is, IsKeyword}
use Rattle.c_syntax.specs.Grammar.{Level, expression_level, Reads}
use Rattle.c_syntax.specs.Statements.{ReadsMaybe, no_expression_stands, an_expression_stands, IsClosed}
use Rattle.c_syntax.specs.Statements.{ReadsStmt, a_block, an_evaluation, an_if, an_if_else, a_while, a_do, a_for, a_switch, a_break, a_continue, a_return}
use Rattle.c_syntax.specs.Limits.{height, height_of_maybe, height_of_stmt}
use Rattle.c_syntax_printing.proofs.Ranks.{ranked}
use Rattle.c_syntax_printing.specs.Ranks.{Stops}
use Rattle.c_syntax_printing.specs.Heads.{head_of_word, head}
use Rattle.c_syntax_printing.proofs.Heads.{headed, worded}
use Rattle.c_syntax_printing.proofs.StmtCases.{decided}
use Rattle.c_syntax_printing.specs.Fails.{then, first, second, one}
use Rattle.c_syntax_printing.specs.Phrases.{Bound, any, within, Fits, fits_any, fits_within, inner, AnExpr, AStmt, no_else, no_expr, MaybeExpr, Punctuator, InBlock, in_block, in_switch, IfTail, WhileTail, DoTail, ForTail, SwitchTail, ReturnTail, EvaluationTail}

-- a part of a node fits inside it
pub fits_part : (b : Bound) {d h n : ℕ} → Fits b d n → suc h ≤ n → Fits (inner b) d h
fits_part any fits_any l = fits_any
fits_part (within p n) (fits_within f g) l = fits_within f (omega arith)

pub an_expr : {b : Bound} {d : ℕ} {l : Level} {e : Expr} {i j : List Token} → Reads d l e i j → Stops l j → Fits b d (height e) → AnExpr b l i j
an_expr r s f = record { depth = _; tree = _; reads = r; stops = s; fits = f }

-- an expression that may be left out, before a semicolon or a parenthesis
maybe_reads : {b : Bound} {d : ℕ} {e : Maybe} {i j : List Token} → ReadsMaybe d e i j → Stops expression_level j → (head j ≡ 20 → ⊥) → Fits b d (height_of_maybe e) → MaybeExpr b i j
maybe_reads no_expression_stands s n f = first (no_expr n)
maybe_reads (an_expression_stands r) s n f = second (an_expr r s f)

a_stmt : {b : Bound} {d : ℕ} {s : Stmt} {i j : List Token} → ReadsStmt d s i j → (head j ≡ 13 → IsClosed s) → Fits b d (height_of_stmt s) → AStmt b i j
a_stmt r c f = record { depth = _; tree = _; reads = r; closed = c; fits = f }

if_reads : (b : Bound) {d : ℕ} {s : Stmt} {t : Token} {i j : List Token} → IsKeyword IF t → ReadsStmt d s (t ∷ i) j → (head j ≡ 13 → IsClosed s) → Fits b d (height_of_stmt s) → IfTail (inner b) i j
if_reads b w (an_if v o r c s) f g =
    then (one o) (then (an_expr r (omega (arith, ranked c)) (fits_part b g (omega arith))) (then (one c) (then (a_stmt s (λ h. absurd (f h)) (fits_part b g (omega arith))) (first (no_else f)))))
if_reads b w (an_if_else v o r c s l e q) f g =
    then (one o) (then (an_expr r (omega (arith, ranked c)) (fits_part b g (omega arith))) (then (one c) (then (a_stmt s (λ h. l) (fits_part b g (omega arith))) (second (then (one e) (a_stmt q f (fits_part b g (omega arith))))))))
if_reads b w v f g = absurd (omega (arith, worded w, decided v))

pub if_form : (b : Bound) {t : Token} {i j : List Token} → IsKeyword IF t → AStmt b (t ∷ i) j → IfTail (inner b) i j
if_form b w a = if_reads b w a.reads a.closed a.fits

while_reads : (b : Bound) {d : ℕ} {s : Stmt} {t : Token} {i j : List Token} → IsKeyword WHILE t → ReadsStmt d s (t ∷ i) j → (head j ≡ 13 → IsClosed s) → Fits b d (height_of_stmt s) → WhileTail (inner b) i j
while_reads b w (a_while v o r c s) f g = then (one o) (then (an_expr r (omega (arith, ranked c)) (fits_part b g (omega arith))) (then (one c) (a_stmt s f (fits_part b g (omega arith)))))
while_reads b w v f g = absurd (omega (arith, worded w, decided v))

pub while_form : (b : Bound) {t : Token} {i j : List Token} → IsKeyword WHILE t → AStmt b (t ∷ i) j → WhileTail (inner b) i j
while_form b w a = while_reads b w a.reads a.closed a.fits

do_reads : (b : Bound) {d : ℕ} {s : Stmt} {t : Token} {i j : List Token} → IsKeyword DO t → ReadsStmt d s (t ∷ i) j → Fits b d (height_of_stmt s) → DoTail (inner b) i j
do_reads b w (a_do v s h o r c e) g =
    then (a_stmt s (λ q. absurd (omega (arith, worded h))) (fits_part b g (omega arith))) (then (one h) (then (one o) (then (an_expr r (omega (arith, ranked c)) (fits_part b g (omega arith))) (then (one c) (one e)))))
do_reads b w v g = absurd (omega (arith, worded w, decided v))

pub do_form : (b : Bound) {t : Token} {i j : List Token} → IsKeyword DO t → AStmt b (t ∷ i) j → DoTail (inner b) i j
do_form b w a = do_reads b w a.reads a.fits

for_reads : (b : Bound) {d : ℕ} {s : Stmt} {t : Token} {i j : List Token} → IsKeyword FOR t → ReadsStmt d s (t ∷ i) j → (head j ≡ 13 → IsClosed s) → Fits b d (height_of_stmt s) → ForTail (inner b) i j
for_reads b w (a_for v o h x e y c s) f g =
    then (one o)
    (then (record { depth = _; tree = _; reads = h; fits = fits_part b g (omega arith) })
    (then (maybe_reads x (omega (arith, ranked e)) (λ q. omega (arith, headed e)) (fits_part b g (omega arith)))
    (then (one e) (then (maybe_reads y (omega (arith, ranked c)) (λ q. omega (arith, headed c)) (fits_part b g (omega arith))) (then (one c) (a_stmt s f (fits_part b g (omega arith))))))))
for_reads b w v f g = absurd (omega (arith, worded w, decided v))

pub for_form : (b : Bound) {t : Token} {i j : List Token} → IsKeyword FOR t → AStmt b (t ∷ i) j → ForTail (inner b) i j
for_form b w a = for_reads b w a.reads a.closed a.fits

switch_reads : (b : Bound) {d : ℕ} {s : Stmt} {t : Token} {i j : List Token} → IsKeyword SWITCH t → ReadsStmt d s (t ∷ i) j → Fits b d (height_of_stmt s) → SwitchTail (inner b) i j
switch_reads b w (a_switch v o r c l q e) g = then (one o) (then (an_expr r (omega (arith, ranked c)) (fits_part b g (omega arith))) (then (one c) (then (one l) (in_switch q e (fits_part b g (omega arith))))))
switch_reads b w v g = absurd (omega (arith, worded w, decided v))

pub switch_form : (b : Bound) {t : Token} {i j : List Token} → IsKeyword SWITCH t → AStmt b (t ∷ i) j → SwitchTail (inner b) i j
switch_form b w a = switch_reads b w a.reads a.fits

return_reads : (b : Bound) {d : ℕ} {s : Stmt} {t : Token} {i j : List Token} → IsKeyword RETURN t → ReadsStmt d s (t ∷ i) j → Fits b d (height_of_stmt s) → ReturnTail (inner b) i j
return_reads b w (a_return v r e) g = then (maybe_reads r (omega (arith, ranked e)) (λ q. omega (arith, headed e)) (fits_part b g (omega arith))) (one e)
return_reads b w v g = absurd (omega (arith, worded w, decided v))

pub return_form : (b : Bound) {t : Token} {i j : List Token} → IsKeyword RETURN t → AStmt b (t ∷ i) j → ReturnTail (inner b) i j
return_form b w a = return_reads b w a.reads a.fits

block_reads : (b : Bound) {d : ℕ} {s : Stmt} {t : Token} {i j : List Token} → Is LEFT_BRACE t → ReadsStmt d s (t ∷ i) j → Fits b d (height_of_stmt s) → InBlock (inner b) i j
block_reads b w (a_block v r e) g = in_block r e (fits_part b g (omega arith))
block_reads b w v g = absurd (omega (arith, headed w, decided v))

pub block_form : (b : Bound) {t : Token} {i j : List Token} → Is LEFT_BRACE t → AStmt b (t ∷ i) j → InBlock (inner b) i j
block_form b w a = block_reads b w a.reads a.fits

-- a word that is a statement with a semicolon
jump_reads : {code d : ℕ} {s : Stmt} {t : Token} {i j : List Token} → 28 ≤ head_of_word code → head_of_word code ≤ 29 → IsKeyword code t → ReadsStmt d s (t ∷ i) j → Punctuator SEMICOLON i j
jump_reads l g w (a_break v e) = one e
jump_reads l g w (a_continue v e) = one e
jump_reads l g w v = absurd (omega (arith, worded w, decided v))

pub break_form : (b : Bound) {t : Token} {i j : List Token} → IsKeyword BREAK t → AStmt b (t ∷ i) j → Punctuator SEMICOLON i j
break_form b w a = jump_reads (omega arith) (omega arith) w a.reads

pub continue_form : (b : Bound) {t : Token} {i j : List Token} → IsKeyword CONTINUE t → AStmt b (t ∷ i) j → Punctuator SEMICOLON i j
continue_form b w a = jump_reads (omega arith) (omega arith) w a.reads

-- a statement that begins with none of these is an expression and a semicolon
evaluation_reads : (b : Bound) {d : ℕ} {s : Stmt} {i j : List Token} → (20 ≤ head i → head i ≡ 20) → ReadsStmt d s i j → Fits b d (height_of_stmt s) → EvaluationTail (inner b) i j
evaluation_reads b f (an_evaluation p r e) g = then (an_expr r (omega (arith, ranked e)) (fits_part b g (omega arith))) (one e)
evaluation_reads b f v g = absurd (omega (arith, decided v, f (omega (arith, decided v))))

pub evaluation_form : (b : Bound) {i j : List Token} → (20 ≤ head i → head i ≡ 20) → AStmt b i j → EvaluationTail (inner b) i j
evaluation_form b f a = evaluation_reads b f a.reads a.fits
