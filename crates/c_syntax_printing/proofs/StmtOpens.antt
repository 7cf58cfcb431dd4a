-- Where statements open past the limits (C99 6.8).
use Rattle.std.proofs.Common.{inl, inr, ◌≤◌, suc, List, ◌∷◌, refl, arith, ℕ}
use Rattle.c_lexer.specs.declared.token.Token.{Token}
use Rattle.c_lexer.specs.declared.punctuator.TheConstants.{LEFT_PARENTHESIS, LEFT_BRACE, SEMICOLON}
use Rattle.c_lexer.specs.declared.keyword.TheConstants.{FOR, IF, RETURN, SWITCH, WHILE}
use Rattle.c_syntax.specs.Tree.{Decl, absent, there, first_absent, Stmt, block, empty, evaluate, only_if, while_loop, for_loop, switch_on, return_from, no_block_items, block_decl, block_stmt, no_groups}
use Rattle.c_syntax.specs.Tokens.{Is, IsKeyword}
use Rattle.c_syntax.specs.Grammar.{expression_level, no_comma}
use Rattle.c_syntax.specs.Statements.{ReadsDecl, IsPlainDecl, no_expression_stands, an_expression_stands, first_nothing}
use Rattle.c_syntax.specs.Statements.{ReadsStmt, a_block, an_empty, an_evaluation, an_if, a_while, a_for, a_switch, a_return, no_block_item, a_block_decl, a_block_stmt, no_group}
use Rattle.c_syntax_printing.proofs.FrameStatements.{stmt_on, decl_on}
use Rattle.c_syntax_printing.proofs.MorePairsOfUnits.{wide_stmt, wide_decl}
use Rattle.c_syntax_printing.specs.Nodes.{stmt_here, in_block, in_evaluation, in_if_test, in_while_test, in_switch_test, in_return, in_there, in_block_decl, after_block_decl, in_block_stmt, after_block_stmt, expr_here}
use Rattle.c_syntax_printing.specs.Opens.{Opens, DeepExpr, DeepDecl, DeepStmt, DeepBlock}
use Rattle.c_syntax_printing.proofs.Opening.{opens_as, opens_here, opens_past, opens_before, opens_token}
use Rattle.c_syntax_printing.proofs.Fills.{name_token, punctuator, name_reads}
use Rattle.c_syntax_printing.proofs.ExprOpens.{either, close_paren}
use Rattle.c_syntax_printing.proofs.BodyOpens.{open_paren, close_brace, semicolon}
use Rattle.c_syntax_printing.proofs.Fixed.{placeless}

-- a statement for which no node is left

pub semicolon_too_deep : {p : ℕ} {t : Token} {i : List Token} → Is SEMICOLON t → Opens (DeepStmt t.from p 0) (t ∷ i) (t ∷ i)
semicolon_too_deep h = opens_here (λ m. record { tokens = m; reads = record { tree = empty _; reads = an_empty h; deep = inl (stmt_here refl) } })

pub block_too_deep : {p : ℕ} {t : Token} {i : List Token} → Is LEFT_BRACE t → Opens (DeepStmt t.from p 0) (t ∷ i) (t ∷ i)
block_too_deep h = opens_here (λ m. record { tokens = close_brace ∷ m; reads = record { tree = block _ no_block_items; reads = a_block h no_block_item (record { kind = refl }); deep = inl (stmt_here refl) } })

-- behind the word stand a name in parentheses and a semicolon
conditioned : {A : List Token → List Token → Type 0} {t : Token} {i : List Token} (at : ℕ) → ((m : List Token) → A (t ∷ open_paren ∷ name_token at ∷ close_paren ∷ semicolon ∷ m) m) → Opens A (t ∷ i) (t ∷ i)
conditioned at f = opens_here (λ m. record { tokens = open_paren ∷ name_token at ∷ close_paren ∷ semicolon ∷ m; reads = f m })

pub if_too_deep : {p : ℕ} {t : Token} {i : List Token} → IsKeyword IF t → Opens (DeepStmt t.from p 0) (t ∷ i) (t ∷ i)
if_too_deep h = conditioned 0 (λ m. record { tree = only_if _ _ _; reads = an_if h (record { kind = refl }) (no_comma (name_reads 0)) (record { kind = refl }) (an_empty (record { kind = refl })); deep = inl (stmt_here refl) })

pub while_too_deep : {p : ℕ} {t : Token} {i : List Token} → IsKeyword WHILE t → Opens (DeepStmt t.from p 0) (t ∷ i) (t ∷ i)
while_too_deep h = conditioned 0 (λ m. record { tree = while_loop _ _ _; reads = a_while h (record { kind = refl }) (no_comma (name_reads 0)) (record { kind = refl }) (an_empty (record { kind = refl })); deep = inl (stmt_here refl) })

pub for_too_deep : {p : ℕ} {t : Token} {i : List Token} → IsKeyword FOR t → Opens (DeepStmt t.from p 0) (t ∷ i) (t ∷ i)
for_too_deep h = opens_here (λ m. record {
  tokens = open_paren ∷ semicolon ∷ semicolon ∷ close_paren ∷ semicolon ∷ m;
  reads = record { tree = for_loop _ first_absent absent absent _; reads = a_for h (record { kind = refl }) (first_nothing (record { kind = refl })) no_expression_stands (record { kind = refl }) no_expression_stands (record { kind = refl }) (an_empty (record { kind = refl })); deep = inl (stmt_here refl) };
})

pub switch_too_deep : {p : ℕ} {t : Token} {i : List Token} → IsKeyword SWITCH t → Opens (DeepStmt t.from p 0) (t ∷ i) (t ∷ i)
switch_too_deep h = opens_here (λ m. record {
  tokens = open_paren ∷ name_token 0 ∷ close_paren ∷ punctuator LEFT_BRACE (omega arith) ∷ close_brace ∷ m;
  reads = record { tree = switch_on _ _ no_groups; reads = a_switch h (record { kind = refl }) (no_comma (name_reads 0)) (record { kind = refl }) (record { kind = refl }) no_group (record { kind = refl }); deep = inl (stmt_here refl) };
})

-- a word after which two nodes are sure to stand in each other: the second one at any place

pub if_is_deep : {at p : ℕ} {t : Token} {i : List Token} → IsKeyword IF t → Opens (DeepStmt at p 1) (t ∷ i) (t ∷ i)
if_is_deep {at} h = conditioned at (λ m. record { tree = only_if _ _ _; reads = an_if h (record { kind = refl }) (no_comma (name_reads at)) (record { kind = refl }) (an_empty (record { kind = refl })); deep = inl (in_if_test (expr_here refl)) })

pub while_is_deep : {at p : ℕ} {t : Token} {i : List Token} → IsKeyword WHILE t → Opens (DeepStmt at p 1) (t ∷ i) (t ∷ i)
while_is_deep {at} h = conditioned at (λ m. record { tree = while_loop _ _ _; reads = a_while h (record { kind = refl }) (no_comma (name_reads at)) (record { kind = refl }) (an_empty (record { kind = refl })); deep = inl (in_while_test (expr_here refl)) })

pub switch_is_deep : {at p : ℕ} {t : Token} {i : List Token} → IsKeyword SWITCH t → Opens (DeepStmt at p 1) (t ∷ i) (t ∷ i)
switch_is_deep {at} h = opens_here (λ m. record {
  tokens = open_paren ∷ name_token at ∷ close_paren ∷ punctuator LEFT_BRACE (omega arith) ∷ close_brace ∷ m;
  reads = record { tree = switch_on _ _ no_groups; reads = a_switch h (record { kind = refl }) (no_comma (name_reads at)) (record { kind = refl }) (record { kind = refl }) no_group (record { kind = refl }); deep = inl (in_switch_test (expr_here refl)) };
})

-- the parts of a statement

pub if_test_opens : {at p n : ℕ} {t o : Token} {i r : List Token} → IsKeyword IF t → Is LEFT_PARENTHESIS o → Opens (DeepExpr at p n expression_level) i r → Opens (DeepStmt at p (suc n)) (t ∷ o ∷ i) r
if_test_opens w h x =
    opens_token (opens_token (opens_before x (λ m. record {
      tokens = close_paren ∷ semicolon ∷ m;
      reads = λ k e. record { tree = only_if _ e.tree _; reads = an_if w h e.reads (record { kind = refl }) (an_empty (record { kind = refl })); deep = either in_if_test (λ y. inl y) e.deep };
    })))

pub while_test_opens : {at p n : ℕ} {t o : Token} {i r : List Token} → IsKeyword WHILE t → Is LEFT_PARENTHESIS o → Opens (DeepExpr at p n expression_level) i r → Opens (DeepStmt at p (suc n)) (t ∷ o ∷ i) r
while_test_opens w h x =
    opens_token (opens_token (opens_before x (λ m. record {
      tokens = close_paren ∷ semicolon ∷ m;
      reads = λ k e. record { tree = while_loop _ e.tree _; reads = a_while w h e.reads (record { kind = refl }) (an_empty (record { kind = refl })); deep = either in_while_test (λ y. inl y) e.deep };
    })))

pub evaluation_opens : {at p n : ℕ} {i r : List Token} → Opens (DeepExpr at p n expression_level) i r → Opens (DeepStmt at p (suc n)) i r
evaluation_opens o =
    opens_before o (λ m. record { tokens = semicolon ∷ m; reads = λ k e. record { tree = evaluate _ e.tree; reads = an_evaluation refl e.reads (record { kind = refl }); deep = either in_evaluation (λ y. y) e.deep } })

pub return_opens : {at p n : ℕ} {t : Token} {i r : List Token} → IsKeyword RETURN t → Opens (DeepExpr at p n expression_level) i r → Opens (DeepStmt at p (suc n)) (t ∷ i) r
return_opens w o =
    opens_token (opens_before o (λ m. record {
      tokens = semicolon ∷ m;
      reads = λ k e. record { tree = return_from _ (there e.tree); reads = a_return w (an_expression_stands e.reads) (record { kind = refl }); deep = either (λ x. in_return (in_there x)) (λ y. y) e.deep };
    }))

-- blocks

pub block_opens : {at p n : ℕ} {t : Token} {i r : List Token} → Is LEFT_BRACE t → Opens (DeepBlock at p n) i r → Opens (DeepStmt at p (suc n)) (t ∷ i) r
block_opens h o =
    opens_token (opens_before o (λ m. record { tokens = close_brace ∷ m; reads = λ k a. record { tree = block _ a.trees; reads = a_block h a.reads (record { kind = refl }); deep = either in_block (λ y. y) a.deep } }))

pub item_stmt_opens : {at p n : ℕ} {i r : List Token} → Opens (DeepStmt at p n) i r → Opens (DeepBlock at p n) i r
item_stmt_opens o = opens_as (λ k m a. record { trees = block_stmt a.tree no_block_items; reads = a_block_stmt a.reads no_block_item; deep = either in_block_stmt (λ y. inl y) a.deep }) o

pub item_decl_opens : {at p n : ℕ} {i r : List Token} → Opens (DeepDecl at p n) i r → Opens (DeepBlock at p n) i r
item_decl_opens o = opens_as (λ k m a. record { trees = block_decl a.tree no_block_items; reads = a_block_decl a.reads a.plain no_block_item; deep = either in_block_decl (λ y. inl y) a.deep }) o

pub after_stmt_opens : {at p n d : ℕ} {s : Stmt} {i j r : List Token} → d ≤ suc p → ReadsStmt d s i j → Opens (DeepBlock at p n) j r → Opens (DeepBlock at p n) i r
after_stmt_opens {s = s} g w o =
    opens_past (stmt_on (wide_stmt w g)) (opens_as (λ k m c l b. record { trees = block_stmt s c.trees; reads = a_block_stmt b c.reads; deep = either after_block_stmt (λ y. inr y) c.deep }) o)

pub after_decl_opens : {at p n d : ℕ} {x : Decl} {i j r : List Token} → d ≤ suc p → IsPlainDecl x → ReadsDecl d x i j → Opens (DeepBlock at p n) j r → Opens (DeepBlock at p n) i r
after_decl_opens {x = x} g q w o =
    opens_past (placeless (decl_on (wide_decl w g))) (opens_as (λ k m c l b. record { trees = block_decl x c.trees; reads = a_block_decl b q c.reads; deep = either after_block_decl (λ y. inr y) c.deep }) o)
