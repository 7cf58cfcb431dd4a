-- Where the bodies of statements open past the limits, and labels and groups (C99 6.8).
use Rattle.std.proofs.Common.{inl, inr, ◌≤◌, ℕ, suc, List, ◌∷◌, refl, arith}
use Rattle.c_lexer.specs.declared.token.Token.{Token}
use Rattle.c_lexer.specs.declared.punctuator.TheConstants.{LEFT_PARENTHESIS, RIGHT_PARENTHESIS, LEFT_BRACE, RIGHT_BRACE, SEMICOLON, COLON}
use Rattle.c_lexer.specs.declared.keyword.TheConstants.{CASE, DEFAULT, DO, ELSE, FOR, IF, SWITCH, WHILE, BREAK, CONTINUE, RETURN}
use Rattle.c_syntax.specs.Tree.{Expr, Maybe, absent, there, First, first_absent, first_expr, first_decl, Labels, no_labels, case_label, default_label, Stmt, only_if, if_else, while_loop, do_loop, for_loop, switch_on, Stmts, no_stmts, more_stmts, no_groups, more_groups, evaluate, break_off, continue_on, return_from}
use Rattle.c_syntax.specs.Tokens.{Is, IsKeyword}
use Rattle.c_syntax.specs.Grammar.{conditional_level, expression_level, Reads, no_comma}
use Rattle.c_syntax.specs.Statements.{ReadsMaybe, no_expression_stands, an_expression_stands, ReadsFirst, first_nothing, first_expression, first_declaration, ReadsLabels, last_case, next_case, next_default, IsClosed, an_evaluation, a_break, a_continue, a_return}
use Rattle.c_syntax.specs.Statements.{ReadsStmt, an_empty, an_if, an_if_else, a_while, a_do, a_for, a_switch, ReadsStmts, last_stmt, next_stmt, no_group, a_group}
use Rattle.c_syntax_printing.proofs.FrameStatements.{stmt_on, first_on, maybe_on, labels_on, stmts_on}
use Rattle.c_syntax_printing.proofs.MorePairs.{wide}
use Rattle.c_syntax_printing.proofs.MorePairsOfUnits.{wide_stmt, wide_maybe, wide_first, wide_labels, wide_stmts}
use Rattle.c_syntax_printing.specs.Nodes.{in_if, in_else, in_while, in_do, in_do_test, in_for_first, in_for_test, in_for_step, in_for, in_switch_test, in_switch, in_there, in_first_expression, in_first_declaration, in_case, after_case, after_default, in_first_stmt, in_later_stmt, in_group_labels, in_group_stmts, in_later_group, stmt_here, expr_here}
use Rattle.c_syntax_printing.specs.Opens.{Opens, DeepExpr, DeepDecl, DeepStmt}
use Rattle.c_syntax_printing.specs.Deep.{DeepLabels, DeepStmts, DeepGroups}
use Rattle.c_syntax_printing.proofs.Opening.{opens_as, opens_under, opens_here, opens_past, opens_before, opens_token}
use Rattle.c_syntax_printing.proofs.Fills.{name_token, punctuator, word, name_reads}
use Rattle.c_syntax_printing.proofs.Fixed.{expr_on}
use Rattle.c_syntax_printing.proofs.ExprOpens.{either, colon}
use Rattle.c_syntax_printing.specs.Starts.{start_of_kind}
use Rattle.c_syntax_printing.proofs.Begun.{expression_begins}
pub use Rattle.c_syntax_printing.proofs.ExprOpens.{close_paren}

abbrev pub open_paren : Token
open_paren = punctuator LEFT_PARENTHESIS (omega arith)

abbrev pub open_brace : Token
open_brace = punctuator LEFT_BRACE (omega arith)

abbrev pub close_brace : Token
close_brace = punctuator RIGHT_BRACE (omega arith)

abbrev pub semicolon : Token
semicolon = punctuator SEMICOLON (omega arith)

pub if_body_opens : {at p n d : ℕ} {e : Expr} {t o c : Token} {i j r : List Token} → d ≤ suc p → IsKeyword IF t → Is LEFT_PARENTHESIS o → Reads d expression_level e i (c ∷ j) → Is RIGHT_PARENTHESIS c → Opens (DeepStmt at p n) j r → Opens (DeepStmt at p (suc n)) (t ∷ o ∷ i) r
if_body_opens {e = e} g w h x q v =
    opens_token (opens_token (opens_past (expr_on (wide x g)) (opens_under (λ k m s l b. record { tree = only_if _ e s.tree; reads = an_if w h b q s.reads; deep = either in_if (λ y. inr y) s.deep }) v)))

pub while_body_opens : {at p n d : ℕ} {e : Expr} {t o c : Token} {i j r : List Token} → d ≤ suc p → IsKeyword WHILE t → Is LEFT_PARENTHESIS o → Reads d expression_level e i (c ∷ j) → Is RIGHT_PARENTHESIS c → Opens (DeepStmt at p n) j r → Opens (DeepStmt at p (suc n)) (t ∷ o ∷ i) r
while_body_opens {e = e} g w h x q v =
    opens_token (opens_token (opens_past (expr_on (wide x g)) (opens_under (λ k m s l b. record { tree = while_loop _ e s.tree; reads = a_while w h b q s.reads; deep = either in_while (λ y. inr y) s.deep }) v)))

pub else_opens : {at p n d : ℕ} {e : Expr} {s : Stmt} {t o c u : Token} {i j k r : List Token} → d ≤ suc p → IsKeyword IF t → Is LEFT_PARENTHESIS o → Reads d expression_level e i (c ∷ j) → Is RIGHT_PARENTHESIS c → ReadsStmt d s j (u ∷ k) → IsClosed s → IsKeyword ELSE u → Opens (DeepStmt at p n) k r → Opens (DeepStmt at p (suc n)) (t ∷ o ∷ i) r
else_opens {e = e} g w h x q y f z v =
    opens_token (opens_token (opens_past (expr_on (wide x g)) (opens_token (opens_past (stmt_on (wide_stmt y g))
    (opens_under (λ k m s l a i b. record { tree = if_else _ e _ s.tree; reads = an_if_else w h b q a f z s.reads; deep = either in_else (λ y. inr (inr y)) s.deep }) v)))))

pub do_body_opens : {at p n : ℕ} {t : Token} {i r : List Token} → IsKeyword DO t → Opens (DeepStmt at p n) i r → Opens (DeepStmt at p (suc n)) (t ∷ i) r
do_body_opens w v =
    opens_token (opens_before v (λ m. record {
      tokens = word WHILE (omega arith) ∷ open_paren ∷ name_token 0 ∷ close_paren ∷ semicolon ∷ m;
      reads = λ k s. record { tree = do_loop _ s.tree _; reads = a_do w s.reads (record { kind = refl }) (record { kind = refl }) (no_comma (name_reads 0)) (record { kind = refl }) (record { kind = refl }); deep = either in_do (λ y. inl y) s.deep };
    }))

pub do_test_opens : {at p n d : ℕ} {s : Stmt} {t u o : Token} {i j r : List Token} → d ≤ suc p → IsKeyword DO t → ReadsStmt d s i (u ∷ o ∷ j) → IsKeyword WHILE u → Is LEFT_PARENTHESIS o → Opens (DeepExpr at p n expression_level) j r → Opens (DeepStmt at p (suc n)) (t ∷ i) r
do_test_opens {s = s} g w y z h v =
    opens_token (opens_past (stmt_on (wide_stmt y g)) (opens_token (opens_token (opens_before v (λ m. record {
      tokens = close_paren ∷ semicolon ∷ m;
      reads = λ k e l b. record { tree = do_loop _ s e.tree; reads = a_do w b z h e.reads (record { kind = refl }) (record { kind = refl }); deep = either in_do_test (λ y. inr y) e.deep };
    })))))

-- the head of a for, of which the first parts are read

pub for_first_opens : {at p n : ℕ} {t o : Token} {i r : List Token} → IsKeyword FOR t → Is LEFT_PARENTHESIS o → Opens (DeepExpr at p n expression_level) i r → Opens (DeepStmt at p (suc n)) (t ∷ o ∷ i) r
for_first_opens w h v =
    opens_token (opens_token (opens_before v (λ m. record {
      tokens = semicolon ∷ semicolon ∷ close_paren ∷ semicolon ∷ m;
      reads = λ k e. record {
        tree = for_loop _ (first_expr e.tree) absent absent _;
        reads = a_for w h (first_expression e.reads (record { kind = refl })) no_expression_stands (record { kind = refl }) no_expression_stands (record { kind = refl }) (an_empty (record { kind = refl }));
        deep = either (λ x. in_for_first (in_first_expression x)) (λ y. inl y) e.deep;
      };
    })))

pub for_decl_opens : {at p n : ℕ} {t o : Token} {i r : List Token} → IsKeyword FOR t → Is LEFT_PARENTHESIS o → Opens (DeepDecl at p n) i r → Opens (DeepStmt at p (suc n)) (t ∷ o ∷ i) r
for_decl_opens w h v =
    opens_token (opens_token (opens_before v (λ m. record {
      tokens = semicolon ∷ close_paren ∷ semicolon ∷ m;
      reads = λ k x. record {
        tree = for_loop _ (first_decl x.tree) absent absent _;
        reads = a_for w h (first_declaration x.reads x.plain) no_expression_stands (record { kind = refl }) no_expression_stands (record { kind = refl }) (an_empty (record { kind = refl }));
        deep = either (λ y. in_for_first (in_first_declaration y)) (λ y. inl y) x.deep;
      };
    })))

pub for_test_opens : {at p n d : ℕ} {f : First} {t o : Token} {i j r : List Token} → d ≤ suc p → IsKeyword FOR t → Is LEFT_PARENTHESIS o → ReadsFirst d f i j → Opens (DeepExpr at p n expression_level) j r → Opens (DeepStmt at p (suc n)) (t ∷ o ∷ i) r
for_test_opens {f = f} g w h x v =
    opens_token (opens_token (opens_past (first_on (wide_first x g)) (opens_before v (λ m. record {
      tokens = semicolon ∷ close_paren ∷ semicolon ∷ m;
      reads = λ k e l b. record {
        tree = for_loop _ f (there e.tree) absent _;
        reads = a_for w h b (an_expression_stands e.reads) (record { kind = refl }) no_expression_stands (record { kind = refl }) (an_empty (record { kind = refl }));
        deep = either (λ y. in_for_test (in_there y)) (λ y. inr (inl y)) e.deep;
      };
    }))))

pub for_step_opens : {at p n d : ℕ} {f : First} {e : Maybe} {t o u : Token} {i j k r : List Token} → d ≤ suc p → IsKeyword FOR t → Is LEFT_PARENTHESIS o → ReadsFirst d f i j → ReadsMaybe d e j (u ∷ k) → Is SEMICOLON u → Opens (DeepExpr at p n expression_level) k r → Opens (DeepStmt at p (suc n)) (t ∷ o ∷ i) r
for_step_opens {f = f} {e = e} g w h x y z v =
    opens_token (opens_token (opens_past (first_on (wide_first x g)) (opens_past (maybe_on (wide_maybe y g)) (opens_token (opens_before v (λ m. record {
      tokens = close_paren ∷ semicolon ∷ m;
      reads = λ k q l a i b. record {
        tree = for_loop _ f e (there q.tree) _;
        reads = a_for w h b a z (an_expression_stands q.reads) (record { kind = refl }) (an_empty (record { kind = refl }));
        deep = either (λ y. in_for_step (in_there y)) (λ y. inr (inr (inl y))) q.deep;
      };
    }))))))

pub for_body_opens : {at p n d : ℕ} {f : First} {e y : Maybe} {t o u c : Token} {i j k l r : List Token} → d ≤ suc p → IsKeyword FOR t → Is LEFT_PARENTHESIS o → ReadsFirst d f i j → ReadsMaybe d e j (u ∷ k) → Is SEMICOLON u → ReadsMaybe d y k (c ∷ l) → Is RIGHT_PARENTHESIS c → Opens (DeepStmt at p n) l r → Opens (DeepStmt at p (suc n)) (t ∷ o ∷ i) r
for_body_opens {f = f} {e = e} {y = y} g w h x b z q s v =
    opens_token (opens_token (opens_past (first_on (wide_first x g)) (opens_past (maybe_on (wide_maybe b g)) (opens_token (opens_past (maybe_on (wide_maybe q g))
    (opens_under (λ k m a l u i c j d. record { tree = for_loop _ f e y a.tree; reads = a_for w h d c z u s a.reads; deep = either in_for (λ y. inr (inr (inr y))) a.deep }) v))))))

-- switches, labels and groups

pub switch_test_opens : {at p n : ℕ} {t o : Token} {i r : List Token} → IsKeyword SWITCH t → Is LEFT_PARENTHESIS o → Opens (DeepExpr at p n expression_level) i r → Opens (DeepStmt at p (suc n)) (t ∷ o ∷ i) r
switch_test_opens w h v =
    opens_token (opens_token (opens_before v (λ m. record {
      tokens = close_paren ∷ open_brace ∷ close_brace ∷ m;
      reads = λ k e. record { tree = switch_on _ e.tree no_groups; reads = a_switch w h e.reads (record { kind = refl }) (record { kind = refl }) no_group (record { kind = refl }); deep = either in_switch_test (λ y. inl y) e.deep };
    })))

pub switch_groups_open : {at p n d : ℕ} {e : Expr} {t o c l : Token} {i j r : List Token} → d ≤ suc p → IsKeyword SWITCH t → Is LEFT_PARENTHESIS o → Reads d expression_level e i (c ∷ l ∷ j) → Is RIGHT_PARENTHESIS c → Is LEFT_BRACE l → Opens (DeepGroups at p n) j r → Opens (DeepStmt at p (suc n)) (t ∷ o ∷ i) r
switch_groups_open {e = e} g w h x q z v =
    opens_token (opens_token (opens_past (expr_on (wide x g)) (opens_token (opens_token (opens_before v (λ m. record {
      tokens = close_brace ∷ m;
      reads = λ k y l b. record { tree = switch_on _ e y.trees; reads = a_switch w h b q z y.reads (record { kind = refl }); deep = either in_switch (λ z. inr z) y.deep };
    }))))))

pub case_opens : {at p n : ℕ} {t : Token} {i r : List Token} → IsKeyword CASE t → Opens (DeepExpr at p n conditional_level) i r → Opens (DeepLabels at p n) (t ∷ i) r
case_opens w v =
    opens_token (opens_before v (λ m. record { tokens = colon ∷ m; reads = λ k e. record { trees = case_label _ e.tree no_labels; reads = last_case w e.reads (record { kind = refl }); deep = either in_case (λ y. y) e.deep } }))

pub after_case_opens : {at p n d : ℕ} {e : Expr} {t c : Token} {i j r : List Token} → d ≤ suc p → IsKeyword CASE t → Reads d conditional_level e i (c ∷ j) → Is COLON c → Opens (DeepLabels at p n) j r → Opens (DeepLabels at p n) (t ∷ i) r
after_case_opens {e = e} g w x q v =
    opens_token (opens_past (expr_on (wide x g)) (opens_under (λ k m y l b. record { trees = case_label _ e y.trees; reads = next_case w b q y.reads; deep = either after_case (λ z. inr z) y.deep }) v))

pub after_default_opens : {at p n : ℕ} {t c : Token} {j r : List Token} → IsKeyword DEFAULT t → Is COLON c → Opens (DeepLabels at p n) j r → Opens (DeepLabels at p n) (t ∷ c ∷ j) r
after_default_opens w q v =
    opens_token (opens_under (λ k m y. record { trees = default_label _ y.trees; reads = next_default w q y.reads; deep = either after_default (λ z. z) y.deep }) v)

pub first_stmt_opens : {at p n : ℕ} {i r : List Token} → Opens (DeepStmt at p n) i r → Opens (DeepStmts at p n) i r
first_stmt_opens o = opens_as (λ k m a. record { trees = more_stmts a.tree no_stmts; reads = last_stmt a.reads; deep = either in_first_stmt (λ y. y) a.deep }) o

pub later_stmt_opens : {at p n d : ℕ} {s : Stmt} {i j r : List Token} → d ≤ suc p → ReadsStmt d s i j → Opens (DeepStmts at p n) j r → Opens (DeepStmts at p n) i r
later_stmt_opens {s = s} g x v =
    opens_past (stmt_on (wide_stmt x g)) (opens_as (λ k m y l b. record { trees = more_stmts s y.trees; reads = next_stmt b y.reads; deep = either in_later_stmt (λ z. inr z) y.deep }) v)

pub group_labels_open : {at p n : ℕ} {i r : List Token} → Opens (DeepLabels at p n) i r → Opens (DeepGroups at p n) i r
group_labels_open v =
    opens_before v (λ m. record {
      tokens = semicolon ∷ m;
      reads = λ k y. record { trees = more_groups y.trees _ no_groups; reads = a_group y.reads (last_stmt (an_empty (record { kind = refl }))) no_group; deep = either in_group_labels (λ z. inl z) y.deep };
    })

pub group_stmts_open : {at p n d : ℕ} {ls : Labels} {i j r : List Token} → d ≤ suc p → ReadsLabels d ls i j → Opens (DeepStmts at p n) j r → Opens (DeepGroups at p n) i r
group_stmts_open {ls = ls} g x v =
    opens_past (labels_on (wide_labels x g)) (opens_as (λ k m y l b. record { trees = more_groups ls y.trees no_groups; reads = a_group b y.reads no_group; deep = either in_group_stmts (λ z. inr (inl z)) y.deep }) v)

pub later_group_opens : {at p n d : ℕ} {ls : Labels} {ss : Stmts} {i j k r : List Token} → d ≤ suc p → ReadsLabels d ls i j → ReadsStmts d ss j k → Opens (DeepGroups at p n) k r → Opens (DeepGroups at p n) i r
later_group_opens {ls = ls} {ss = ss} g x w v =
    opens_past (labels_on (wide_labels x g)) (opens_past (stmts_on (wide_stmts w g))
    (opens_as (λ k m y l s i b. record { trees = more_groups ls ss y.trees; reads = a_group b s y.reads; deep = either in_later_group (λ z. inr (inr z)) y.deep }) v))

-- further statements for which no node is left

pub do_too_deep : {p : ℕ} {t : Token} {i : List Token} → IsKeyword DO t → Opens (DeepStmt t.from p 0) (t ∷ i) (t ∷ i)
do_too_deep h = opens_here (λ m. record {
  tokens = semicolon ∷ word WHILE (omega arith) ∷ open_paren ∷ name_token 0 ∷ close_paren ∷ semicolon ∷ m;
  reads = record { tree = do_loop _ _ _; reads = a_do h (an_empty (record { kind = refl })) (record { kind = refl }) (record { kind = refl }) (no_comma (name_reads 0)) (record { kind = refl }) (record { kind = refl }); deep = inl (stmt_here refl) };
})

pub break_too_deep : {p : ℕ} {t : Token} {i : List Token} → IsKeyword BREAK t → Opens (DeepStmt t.from p 0) (t ∷ i) (t ∷ i)
break_too_deep h = opens_here (λ m. record { tokens = semicolon ∷ m; reads = record { tree = break_off _; reads = a_break h (record { kind = refl }); deep = inl (stmt_here refl) } })

pub continue_too_deep : {p : ℕ} {t : Token} {i : List Token} → IsKeyword CONTINUE t → Opens (DeepStmt t.from p 0) (t ∷ i) (t ∷ i)
continue_too_deep h = opens_here (λ m. record { tokens = semicolon ∷ m; reads = record { tree = continue_on _; reads = a_continue h (record { kind = refl }); deep = inl (stmt_here refl) } })

pub return_too_deep : {p : ℕ} {t : Token} {i : List Token} → IsKeyword RETURN t → Opens (DeepStmt t.from p 0) (t ∷ i) (t ∷ i)
return_too_deep h = opens_here (λ m. record { tokens = semicolon ∷ m; reads = record { tree = return_from _ absent; reads = a_return h no_expression_stands (record { kind = refl }); deep = inl (stmt_here refl) } })

-- an expression begins with the token
pub evaluation_too_deep : {p : ℕ} {u : Token} {i : List Token} → 1 ≤ start_of_kind u.kind → start_of_kind u.kind ≤ 5 → Opens (DeepStmt u.from p 0) (u ∷ i) (u ∷ i)
evaluation_too_deep {u = u} l g = opens_here (λ m. let x = expression_begins u l g (semicolon ∷ m) in record { tokens = x.tokens; reads = record { tree = evaluate _ x.reads.0; reads = an_evaluation refl x.reads.1 (record { kind = refl }); deep = inl (stmt_here refl) } })

-- after `do` and `for` the statement inside may begin at any place

pub do_is_deep : {at p : ℕ} {t : Token} {i : List Token} → IsKeyword DO t → Opens (DeepStmt at p 1) (t ∷ i) (t ∷ i)
do_is_deep {at} h = opens_here (λ m. record {
  tokens = semicolon ∷ word WHILE (omega arith) ∷ open_paren ∷ name_token at ∷ close_paren ∷ semicolon ∷ m;
  reads = record { tree = do_loop _ _ _; reads = a_do h (an_empty (record { kind = refl })) (record { kind = refl }) (record { kind = refl }) (no_comma (name_reads at)) (record { kind = refl }) (record { kind = refl }); deep = inl (in_do_test (expr_here refl)) };
})

pub for_is_deep : {at p : ℕ} {t : Token} {i : List Token} → IsKeyword FOR t → Opens (DeepStmt at p 1) (t ∷ i) (t ∷ i)
for_is_deep {at} h = opens_here (λ m. record {
  tokens = open_paren ∷ semicolon ∷ name_token at ∷ semicolon ∷ close_paren ∷ semicolon ∷ m;
  reads = record {
    tree = for_loop _ first_absent _ absent _;
    reads = a_for h (record { kind = refl }) (first_nothing (record { kind = refl })) (an_expression_stands (no_comma (name_reads at))) (record { kind = refl }) no_expression_stands (record { kind = refl }) (an_empty (record { kind = refl }));
    deep = inl (in_for_test (in_there (expr_here refl)));
  };
})
