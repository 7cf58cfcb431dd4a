-- Where labels, the heads of statements and the parts of declarations fail (C99 6.7, 6.8).
use Rattle.std.proofs.Common.{◌≡◌, ◌≤◌, List, ◌∷◌, refl, sym, ◌∙◌, arith, ℕ}
use Rattle.c_lexer.specs.declared.token.Token.{Token}
use Rattle.c_lexer.specs.declared.punctuator.TheConstants.{SEMICOLON, COLON, COMMA}
use Rattle.c_lexer.specs.declared.keyword.TheConstants.{CASE, DEFAULT, DO, ELSE, FOR, IF, SWITCH, WHILE}
use Rattle.c_syntax.specs.Tree.{Labels, First, Stmt, block, Declarator, nothing}
use Rattle.c_syntax.specs.Tokens.{Is, IsKeyword}
use Rattle.c_syntax.specs.Grammar.{conditional_level, expression_level, HasName}
use Rattle.c_syntax.specs.Statements.{ReadsLabels, last_case, last_default, next_case, next_default, ReadsFirst, first_nothing, first_expression, first_declaration}
use Rattle.c_syntax.specs.Limits.{height_of_labels, height_of_first, height_of_declarator, height_of_stmt}
use Rattle.c_syntax_printing.proofs.Ranks.{ranked, words_apart}
use Rattle.c_syntax_printing.specs.Heads.{head}
use Rattle.c_syntax_printing.proofs.Heads.{headed, worded, expression_head}
use Rattle.c_syntax_printing.specs.Twins.{here, On}
use Rattle.c_syntax_printing.proofs.FrameStatements.{first_on}
use Rattle.c_syntax_printing.proofs.OneDecl.{same_first, labels_head, plain_head}
use Rattle.c_syntax_printing.proofs.StmtCases.{stmt_head}
use Rattle.c_syntax_printing.specs.Fails.{Meets, Fails, Then, then, Or, first, second, one, NotAt}
use Rattle.c_syntax_printing.specs.Phrases.{Bound, within, InCondition, Fits, AnExpr, APlainDecl, AStmt, NoElse, no_else, NoExpr, no_expr, MaybeExpr, Punctuator, Word, SomeLabels, AFirst, EvaluationTail, ABlockItem, DoTail, ForTail}
use Rattle.c_syntax_printing.specs.Declarations.{SomeParts, PartsEnd}
use Rattle.c_syntax_printing.specs.Labels.{NoLabel, no_label, LabelsRest}
use Rattle.c_syntax_printing.proofs.Combine.{Fixes, on_as, at_first, other_mark, fails_both, fails_not_or, fails_or_not, fails_after, fails_missing, missing, fails_here, fails_as, fails_second, fails_under, not_at_alike, alike_at}
use Rattle.c_syntax_printing.proofs.Fixed.{head_alike, expr_fixes}
use Rattle.c_syntax_printing.proofs.StmtForms.{if_form, while_form, do_form, for_form, switch_form}
use Rattle.c_syntax_printing.proofs.BlockForms.{fits_under, or_fixes}
use Rattle.c_syntax_printing.proofs.DeclForms.{decl_form}
use Rattle.c_syntax_printing.proofs.PrefixFails.{fits_low, tall}

-- labels (6.8.1)

labels_goes : (b : Bound) {d : ℕ} {ls : Labels} {i j : List Token} → ReadsLabels d ls i j → 20 ≤ head j → Fits b d (height_of_labels ls) → LabelsRest b i j
labels_goes b r e f = second (record { depth = _; tree = _; reads = r; ends = e; fits = f })

default_reads : (b : Bound) {d : ℕ} {ls : Labels} {t : Token} {i j : List Token} → IsKeyword DEFAULT t → ReadsLabels d ls (t ∷ i) j → 20 ≤ head j → Fits b d (height_of_labels ls) → Then (Punctuator COLON) (LabelsRest b) i j
default_reads b h (last_case w r c) e f = absurd (omega (arith, words_apart h w))
default_reads b h (last_default w c) e f = then (one c) (first (no_label e))
default_reads b h (next_case w r c l) e f = absurd (omega (arith, words_apart h w))
default_reads b h (next_default w c l) e f = then (one c) (labels_goes b l e (fits_under b f (omega arith)))

-- what follows `default`
pub default_fails : {b : Bound} {t : Token} {i r : List Token} → IsKeyword DEFAULT t → Fails (Then (Punctuator COLON) (LabelsRest b)) i r → Fails (SomeLabels b) (t ∷ i) r
default_fails {b} h f = fails_under (λ k j a. default_reads b h a.reads a.ends a.fits) f

case_reads : (b : Bound) {d : ℕ} {ls : Labels} {t : Token} {i j : List Token} → IsKeyword CASE t → ReadsLabels d ls (t ∷ i) j → 20 ≤ head j → Fits b d (height_of_labels ls) → Then (AnExpr b conditional_level) (Then (Punctuator COLON) (LabelsRest b)) i j
case_reads b h (last_case w r c) e f = then (record { depth = _; tree = _; reads = r; stops = omega (arith, ranked c); fits = fits_under b f (omega arith) }) (then (one c) (first (no_label e)))
case_reads b h (last_default w c) e f = absurd (omega (arith, words_apart h w))
case_reads b h (next_case w r c l) e f =
    then (record { depth = _; tree = _; reads = r; stops = omega (arith, ranked c); fits = fits_under b f (omega arith) }) (then (one c) (labels_goes b l e (fits_under b f (omega arith))))
case_reads b h (next_default w c l) e f = absurd (omega (arith, words_apart h w))

-- what follows `case`
pub case_fails : {b : Bound} {t : Token} {i r : List Token} → IsKeyword CASE t → Fails (Then (AnExpr b conditional_level) (Then (Punctuator COLON) (LabelsRest b))) i r → Fails (SomeLabels b) (t ∷ i) r
case_fails {b} h f = fails_under (λ k j a. case_reads b h a.reads a.ends a.fits) f

-- no label stands where one must
pub no_labels_begin : {b : Bound} (i : List Token) → (11 ≤ head i → head i ≤ 12 → ⊥) → Fails (SomeLabels b) i i
no_labels_begin i f = fails_here (λ s m j a. let v = labels_head a.reads in f (omega (arith, head_alike m, v.0)) (omega (arith, head_alike m, v.1)))

-- after a label another one fails
pub more_labels_fail : {b : Bound} {i r : List Token} → head i ≤ 12 → Fails (SomeLabels b) i r → Fails (LabelsRest b) i r
more_labels_fail l f = fails_second (λ k j m a. none m l a) f
  where
    none : {i k j : List Token} → Meets i k → head i ≤ 12 → NoLabel k j → ⊥
    none m l (no_label e) = omega (arith, head_alike m)

-- after the labels stands nothing that a statement begins with
pub labels_end_fails : {b : Bound} (i : List Token) → (11 ≤ head i → head i ≤ 12 → ⊥) → (20 ≤ head i → ⊥) → Fails (LabelsRest b) i i
labels_end_fails {b} i f g = fails_here (λ s m j a. none m a)
  where
    none : {s j : List Token} → Meets i s → LabelsRest b s j → ⊥
    none m (first (no_label e)) = g (omega (arith, head_alike m))
    none m (second a) = let v = labels_head a.reads in f (omega (arith, head_alike m, v.0)) (omega (arith, head_alike m, v.1))

-- expressions that may be left out

no_expr_fixes : Fixes NoExpr NoExpr
no_expr_fixes = record { moves = λ i j a k m. moved m a; once = λ i j k a e. one_end a e }
  where
    moved : {i j k : List Token} → Meets j k → NoExpr i j → On NoExpr i j k
    moved {k = k} m (no_expr f) = record { tokens = k; twin = here; reads = no_expr (λ q. f (head_alike m ∙ q)) }

    one_end : {i j k : List Token} → NoExpr i j → NoExpr i k → j ≡ k
    one_end (no_expr f) (no_expr g) = refl

no_expr_apart : {b : Bound} {i j k : List Token} → NoExpr i j → AnExpr b expression_level i k → ⊥
no_expr_apart (no_expr f) a = f (expression_head a.reads)

pub maybe_fixes : (b c : Bound) → Fixes (MaybeExpr b) (MaybeExpr c)
maybe_fixes b c = or_fixes no_expr_fixes (expr_fixes b c expression_level) (λ i j k a e. no_expr_apart a e) (λ i j k a e. no_expr_apart e a)

-- the expression fails, where the token that is to follow it doesn't stand
pub maybe_fails : {b : Bound} {i r : List Token} (end : ℕ) → NotAt (Is end) i → Fails (AnExpr b expression_level) i r → Fails (Then (MaybeExpr b) (Punctuator end)) i r
maybe_fails {b} end n f = record { front = f.front; is = f.is; none = λ s m j a. none (f.none s m) (not_at_alike (alike_at f.front f.is m) n) a }
  where
    none : {k l : List Token} → ((j : List Token) → AnExpr b expression_level k j → ⊥) → NotAt (Is end) k → Then (MaybeExpr b) (Punctuator end) k l → ⊥
    none f n (then (first (no_expr g)) (one h)) = n _ _ refl h
    none f n (then (second a) c) = f _ a

-- the first part of the head of a for (6.8.5)

pub first_fixes : (b c : Bound) → Fixes (AFirst b) (AFirst c)
first_fixes b c = record {
  moves = λ i j a k m. on_as (first_on a.reads k) (λ h r. record { depth = a.depth; tree = a.tree; reads = r; fits = a.fits });
  once = λ i j k a e. (same_first a.reads e.reads).1;
}

first_decl_reads : (b : Bound) {d : ℕ} {x : First} {i j : List Token} → head i ≡ 2 → ReadsFirst d x i j → Fits b d (height_of_first x) → APlainDecl b i j
first_decl_reads b q (first_nothing h) f = absurd (omega (arith, headed h))
first_decl_reads b q (first_expression r c) f = absurd (omega (arith, expression_head r))
first_decl_reads b q (first_declaration r p) f = record { depth = _; tree = _; reads = r; plain = p; fits = f }

-- a declaration
pub first_decl_fails : {b : Bound} {i r : List Token} → head i ≡ 2 → Fails (APlainDecl b) i r → Fails (AFirst b) i r
first_decl_fails {b} q f = fails_as (λ k j m a. first_decl_reads b (sym (head_alike m) ∙ q) a.reads a.fits) f

first_expr_reads : (b : Bound) {d : ℕ} {x : First} {i j : List Token} → NotAt (Is SEMICOLON) i → (head i ≡ 2 → ⊥) → ReadsFirst d x i j → Fits b d (height_of_first x) → EvaluationTail b i j
first_expr_reads b n q (first_nothing h) f = absurd (n _ _ refl h)
first_expr_reads b n q (first_expression r c) f = then (record { depth = _; tree = _; reads = r; stops = omega (arith, ranked c); fits = f }) (one c)
first_expr_reads b n q (first_declaration r p) f = absurd (q (plain_head r p))

-- an expression
pub first_expr_fails : {b : Bound} {i r : List Token} → NotAt (Is SEMICOLON) i → (head i ≡ 2 → ⊥) → Fails (EvaluationTail b) i r → Fails (AFirst b) i r
first_expr_fails {b} n q f = fails_as (λ k j m a. first_expr_reads b (not_at_alike m n) (λ h. q (head_alike m ∙ h)) a.reads a.fits) f

-- statements and items of blocks (6.8, 6.8.2)

tall_stmt : (s : Stmt) → 1 ≤ height_of_stmt s
tall_stmt (block at items) = omega arith
tall_stmt s = omega arith

-- no statement stands without a node
pub no_stmt_left : {p : ℕ} (i : List Token) → Fails (AStmt (within p 0)) i i
no_stmt_left i = fails_here (λ s m j a. omega (arith, tall_stmt a.tree, (fits_low a.fits).1))

-- nothing that begins a statement stands first
pub no_stmt_begins : {b : Bound} (i : List Token) → (20 ≤ head i → ⊥) → Fails (AStmt b) i i
no_stmt_begins i f = fails_here (λ s m j a. f (omega (arith, head_alike m, stmt_head a.reads)))

no_expr_low : {p : ℕ} {i j : List Token} → AnExpr (within p 0) expression_level i j → ⊥
no_expr_low a = omega (arith, tall a.tree, (fits_low a.fits).1)

no_stmt_low : {p : ℕ} {i j : List Token} → AStmt (within p 0) i j → ⊥
no_stmt_low a = omega (arith, tall_stmt a.tree, (fits_low a.fits).1)

-- a statement that holds others or a condition needs two nodes in each other

no_condition : {p : ℕ} {A : List Token → List Token → Type 0} {i j : List Token} → InCondition (within p 0) A i j → ⊥
no_condition (then o (then e w)) = no_expr_low e

pub if_needs_two : {p : ℕ} {t : Token} {i : List Token} → IsKeyword IF t → Fails (AStmt (within p 1)) (t ∷ i) (t ∷ i)
if_needs_two {p} h = at_first {P = IsKeyword IF} h (λ u k j h a. no_condition (if_form (within p 1) h a))

pub while_needs_two : {p : ℕ} {t : Token} {i : List Token} → IsKeyword WHILE t → Fails (AStmt (within p 1)) (t ∷ i) (t ∷ i)
while_needs_two {p} h = at_first {P = IsKeyword WHILE} h (λ u k j h a. no_condition (while_form (within p 1) h a))

pub do_needs_two : {p : ℕ} {t : Token} {i : List Token} → IsKeyword DO t → Fails (AStmt (within p 1)) (t ∷ i) (t ∷ i)
do_needs_two {p} h = at_first {P = IsKeyword DO} h (λ u k j h a. none (do_form (within p 1) h a))
  where
    none : {i j : List Token} → DoTail (within p 0) i j → ⊥
    none (then s w) = no_stmt_low s

pub for_needs_two : {p : ℕ} {t : Token} {i : List Token} → IsKeyword FOR t → Fails (AStmt (within p 1)) (t ∷ i) (t ∷ i)
for_needs_two {p} h = at_first {P = IsKeyword FOR} h (λ u k j h a. none (for_form (within p 1) h a))
  where
    none : {i j : List Token} → ForTail (within p 0) i j → ⊥
    none (then o (then f (then e (then c (then g (then q s)))))) = no_stmt_low s

pub switch_needs_two : {p : ℕ} {t : Token} {i : List Token} → IsKeyword SWITCH t → Fails (AStmt (within p 1)) (t ∷ i) (t ∷ i)
switch_needs_two {p} h = at_first {P = IsKeyword SWITCH} h (λ u k j h a. no_condition (switch_form (within p 1) h a))

-- a declaration
pub item_decl_fails : {b : Bound} {i r : List Token} → head i ≡ 2 → Fails (APlainDecl b) i r → Fails (ABlockItem b) i r
item_decl_fails q f = fails_or_not f (no_stmt_begins _ (λ l. omega (arith, q, l)))

-- a statement
pub item_stmt_fails : {b : Bound} {i r : List Token} → (head i ≡ 2 → ⊥) → Fails (AStmt b) i r → Fails (ABlockItem b) i r
item_stmt_fails {b} n f = fails_second (λ k j m a. n (head_alike m ∙ plain_head a.reads a.plain)) f

-- what follows `else`
pub else_fails : {b : Bound} {t : Token} {i r : List Token} → IsKeyword ELSE t → Fails (AStmt b) i r → Fails (Or NoElse (Then (Word ELSE) (AStmt b))) (t ∷ i) r
else_fails {b} h f = fails_under (λ k j a. only h a) f
  where
    only : {t : Token} {k j : List Token} → IsKeyword ELSE t → Or NoElse (Then (Word ELSE) (AStmt b)) (t ∷ k) j → AStmt b k j
    only h (first (no_else g)) = absurd (g (worded h))
    only h (second (then (one o) a)) = a

-- declarations (6.7)

-- no declaration stands without a node
pub no_decl_left : {p : ℕ} (i : List Token) → Fails (APlainDecl (within p 0)) i i
no_decl_left {p} i = fails_here (λ s m j a. none (decl_form (within p 0) a))
  where
    named_tall : (e : Declarator) → HasName e → 1 ≤ height_of_declarator e
    named_tall nothing h = absurd h
    named_tall e h = omega arith

    none : {A : List Token → List Token → Type 0} {i j : List Token} → Then A (SomeParts (within p 0)) i j → ⊥
    none (then s (then e t)) = omega (arith, named_tall e.tree e.named, (fits_low e.fits).1)

-- neither a comma nor a semicolon follows
pub parts_unclosed : {b : Bound} (i : List Token) → NotAt (Is SEMICOLON) i → NotAt (Is COMMA) i → Fails (PartsEnd b) i i
parts_unclosed i f g = fails_both (missing i f) (fails_missing i g)

-- after a comma the next one fails
pub next_part_fails : {b : Bound} {t : Token} {i r : List Token} → Is COMMA t → Fails (SomeParts b) i r → Fails (PartsEnd b) (t ∷ i) r
next_part_fails h f = fails_not_or (missing _ (other_mark h (λ q. omega arith))) (fails_after f)
