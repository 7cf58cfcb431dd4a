-- The tokens that statements are printed with are read back as the same, apart from places.
use Rattle.std.proofs.Common.{◌≡◌, ℕ, ◌≤◌, List, ◌∷◌, refl, ap, ap₂, subst}
use Rattle.std.specs.Prelude.{max}
use Rattle.std.proofs.Math.Nat.{le_of_suc-le}
use Rattle.c_lexer.specs.declared.token.Token.{Token}
use Rattle.c_lexer.specs.declared.token.TokenKind.{TokenKind}
use Rattle.c_lexer.specs.declared.token.TokenKind.TheVariants.{Keyword, Punct}
use Rattle.c_lexer.specs.declared.punctuator.TheConstants as p
use Rattle.c_lexer.specs.declared.keyword.TheConstants as w
use Rattle.c_syntax.specs.Tree.{Expr, Labels, no_labels, case_label, default_label}
use Rattle.c_syntax.specs.Tree.{Stmt, block, empty, evaluate, only_if, if_else, while_loop, do_loop, for_loop, switch_on, break_off, continue_on, return_from, BlockItems, no_block_items, block_decl, block_stmt, Stmts, no_stmts, more_stmts, Groups, no_groups, more_groups}
use Rattle.c_syntax.specs.Tokens.{Is, IsKeyword, place}
use Rattle.c_syntax.specs.Grammar.{conditional_level, Reads}
use Rattle.c_syntax.specs.Statements.{IsClosed, ReadsMaybe, ReadsLabels, last_case, last_default, next_case, next_default}
use Rattle.c_syntax.specs.Statements.{ReadsStmt, a_block, an_empty, an_evaluation, an_if, an_if_else, a_while, a_do, a_for, a_switch, a_break, a_continue, a_return}
use Rattle.c_syntax.specs.Statements.{ReadsBlockItems, no_block_item, a_block_decl, a_block_stmt, ReadsStmts, last_stmt, next_stmt, ReadsGroups, no_group, a_group}
use Rattle.c_syntax.specs.Limits.{height, height_of_decl, height_of_maybe, height_of_first, height_of_labels, height_of_stmt, height_of_block_items, height_of_stmts, height_of_groups}
use Rattle.c_syntax.specs.Same.{unplaced_labels, unplaced_stmt, unplaced_block_items, unplaced_stmts, unplaced_groups}
use Rattle.c_syntax.specs.Print.{operand_kinds, maybe_kinds, first_kinds, labels_kinds, head_kinds, stmt_kinds, block_items_kinds, stmts_kinds, groups_kinds}
use Rattle.c_syntax_printing.specs.FineUnits.{AreFineLabels, AreSomeLabels, IsFineStmt, AreFineBlockItems, AreFineStmts, AreSomeStmts, AreFineGroups}
use Rattle.c_syntax_printing.proofs.Depths.{both}
use Rattle.c_syntax_printing.proofs.FineUnitLemmas.{are_fine, some_are_fine}
use Rattle.c_syntax.proofs.BackTokens.{kinds, headed, mark, word, ends, BackOf, ends_at, begins_at, two, kept, ap_three, ap_four, as_choosing, as_casting}
use Rattle.c_syntax_printing.proofs.BackDeclarations.{expr_back, operand_of, maybe_back, head_back, back_decl, is_plain, first_back}

-- labels, or none
abbrev pub LabelsOrNone : ℕ → Labels → List Token → List Token → Type 0
LabelsOrNone d no_labels i j = i ≡ j
LabelsOrNone d ls i j = ReadsLabels d ls i j

-- a label before labels, or before none
case_before : {d : ℕ} {e : Expr} {t u : Token} {i j k : List Token} (rest : Labels) → IsKeyword w.CASE t → Reads d conditional_level e i (u ∷ j) → Is p.COLON u → LabelsOrNone d rest j k → ReadsLabels d (case_label t.from e rest) (t ∷ i) k
case_before {d} {e} {t} {u} {i} {j} {k} no_labels h r c q = subst (λ (x : List Token). ReadsLabels d (case_label t.from e no_labels) (t ∷ i) x) q (last_case h r c)
case_before rest h r c f = next_case h r c f

default_before : {d : ℕ} {t u : Token} {i k : List Token} (rest : Labels) → IsKeyword w.DEFAULT t → Is p.COLON u → LabelsOrNone d rest i k → ReadsLabels d (default_label t.from rest) (t ∷ u ∷ i) k
default_before {d} {t} {u} {i} {k} no_labels h c q = subst (λ (x : List Token). ReadsLabels d (default_label t.from no_labels) (t ∷ u ∷ i) x) q (last_default h c)
default_before rest h c f = next_default h c f

back_labels : (ls : Labels) → AreFineLabels ls → (d : ℕ) → height_of_labels ls ≤ d → (ts : List Token) (k : List TokenKind) → kinds ts ≡ labels_kinds ls k → BackOf (LabelsOrNone d) unplaced_labels ls ts k
back_labels no_labels f d v ts k q = record { tree = no_labels; after = ts; reads = refl; same = refl; left = q }
back_labels (case_label at e ls) f d v ts k q =
    let low = both (height e) (height_of_labels ls) v in
    let h = headed (Keyword w.CASE) ts (operand_kinds e (Punct p.COLON ∷ labels_kinds ls k)) q in
    let x = operand_of e f.0 d low.0 h.rest (Punct p.COLON ∷ labels_kinds ls k) h.left in
    let c = headed (Punct p.COLON) x.after (labels_kinds ls k) x.left in
    let z = back_labels ls f.1 d low.1 c.rest k c.left in
    record {
      tree = case_label h.token.from x.tree z.tree;
      after = z.after;
      reads = begins_at (ReadsLabels d (case_label h.token.from x.tree z.tree)) h.is (case_before z.tree (word h) (ends c.is (as_choosing (as_casting x.reads))) (mark c) z.reads);
      same = ap₂ (case_label 0) x.same z.same;
      left = z.left;
    }
back_labels (default_label at ls) f d v ts k q =
    let h = headed (Keyword w.DEFAULT) ts (Punct p.COLON ∷ labels_kinds ls k) q in
    let c = headed (Punct p.COLON) h.rest (labels_kinds ls k) h.left in
    let z = back_labels ls f d v c.rest k c.left in
    record {
      tree = default_label h.token.from z.tree;
      after = z.after;
      reads = begins_at (ReadsLabels d (default_label h.token.from z.tree)) (two h.is c.is) (default_before z.tree (word h) (mark c) z.reads);
      same = ap (default_label 0) z.same;
      left = z.left;
    }

labels_stand : {d : ℕ} {i j : List Token} (ls ms : Labels) → unplaced_labels ms ≡ unplaced_labels ls → AreSomeLabels ls → LabelsOrNone d ms i j → ReadsLabels d ms i j
labels_stand no_labels ms q f r = absurd f
labels_stand (case_label at e ls) no_labels q f r = absurd (cc)
labels_stand (default_label at ls) no_labels q f r = absurd (cc)
labels_stand ls ms q f r = r

-- statements, or none
abbrev pub StmtsOrNone : ℕ → Stmts → List Token → List Token → Type 0
StmtsOrNone d no_stmts i j = i ≡ j
StmtsOrNone d (more_stmts s rest) i j = ReadsStmts d (more_stmts s rest) i j

stmt_before : {d : ℕ} {s : Stmt} {i j k : List Token} (rest : Stmts) → ReadsStmt d s i j → StmtsOrNone d rest j k → ReadsStmts d (more_stmts s rest) i k
stmt_before {d} {s} {i} {j} {k} no_stmts r q = subst (λ (x : List Token). ReadsStmts d (more_stmts s no_stmts) i x) q (last_stmt r)
stmt_before (more_stmts s' rest) r f = next_stmt r f

stmts_stand : {d : ℕ} {i j : List Token} (ss zs : Stmts) → unplaced_stmts zs ≡ unplaced_stmts ss → AreSomeStmts ss → StmtsOrNone d zs i j → ReadsStmts d zs i j
stmts_stand no_stmts zs q f r = absurd f
stmts_stand (more_stmts s ss) no_stmts q f r = absurd (cc)
stmts_stand ss zs q f r = r

-- whether a statement is closed is seen without places
closed_alike : (s : Stmt) → IsClosed (unplaced_stmt s) ≡ IsClosed s
closed_alike (if_else at e s r) = closed_alike r
closed_alike (while_loop at e s) = closed_alike s
closed_alike (for_loop at first test step s) = closed_alike s
closed_alike s = refl

is_closed : (s x : Stmt) → unplaced_stmt x ≡ unplaced_stmt s → IsClosed s → IsClosed x
is_closed = kept IsClosed unplaced_stmt closed_alike

mutual
  pub back_stmt : (s : Stmt) → IsFineStmt s → (d : ℕ) → height_of_stmt s ≤ d → (ts : List Token) (k : List TokenKind) → kinds ts ≡ stmt_kinds s k → BackOf (ReadsStmt d) unplaced_stmt s ts k
  back_stmt (block at is) f d v ts k q =
      let h = headed (Punct p.LEFT_BRACE) ts (block_items_kinds is (Punct p.RIGHT_BRACE ∷ k)) q in
      let x = back_block_items is f d (le_of_suc-le v) h.rest (Punct p.RIGHT_BRACE ∷ k) h.left in
      let c = headed (Punct p.RIGHT_BRACE) x.after k x.left in
      record {
        tree = block h.token.from x.tree;
        after = c.rest;
        reads = begins_at (ReadsStmt d (block h.token.from x.tree)) h.is (a_block (mark h) (ends_at (ReadsBlockItems d x.tree) c.is x.reads) (mark c));
        same = ap (block 0) x.same;
        left = c.left;
      }
  back_stmt (empty at) f d v ts k q =
      let h = headed (Punct p.SEMICOLON) ts k q in record { tree = empty h.token.from; after = h.rest; reads = begins_at (ReadsStmt d (empty h.token.from)) h.is (an_empty (mark h)); same = refl; left = h.left }
  back_stmt (evaluate at e) f d v ts k q =
      let x = expr_back e f d (le_of_suc-le v) ts (Punct p.SEMICOLON ∷ k) q in
      let c = headed (Punct p.SEMICOLON) x.after k x.left in
      record { tree = evaluate (place ts) x.tree; after = c.rest; reads = an_evaluation refl (ends c.is x.reads) (mark c); same = ap (evaluate 0) x.same; left = c.left }
  back_stmt (only_if at e s) f d v ts k q =
      let low = both (height e) (height_of_stmt s) (le_of_suc-le v) in
      let h = headed (Keyword w.IF) ts (head_kinds e (stmt_kinds s k)) q in
      let g = head_back e f.0 d low.0 h.rest (stmt_kinds s k) h.left in
      let y = back_stmt s f.1 d low.1 g.rest k g.left in
      let tree : Stmt = only_if h.token.from g.tree y.tree in
      record { tree = tree; after = y.after; reads = begins_at (ReadsStmt d tree) (two h.is g.is) (an_if (word h) g.opens g.reads g.closes y.reads); same = ap₂ (only_if 0) g.same y.same; left = y.left }
  back_stmt (if_else at e s r) f d v ts k q =
      let low = both (height e) (max (height_of_stmt s) (height_of_stmt r)) (le_of_suc-le v) in
      let lower = both (height_of_stmt s) (height_of_stmt r) low.1 in
      let h = headed (Keyword w.IF) ts (head_kinds e (stmt_kinds s (Keyword w.ELSE ∷ stmt_kinds r k))) q in
      let g = head_back e f.0 d low.0 h.rest (stmt_kinds s (Keyword w.ELSE ∷ stmt_kinds r k)) h.left in
      let y = back_stmt s f.1 d lower.0 g.rest (Keyword w.ELSE ∷ stmt_kinds r k) g.left in
      let c = headed (Keyword w.ELSE) y.after (stmt_kinds r k) y.left in
      let z = back_stmt r f.3 d lower.1 c.rest k c.left in
      let tree : Stmt = if_else h.token.from g.tree y.tree z.tree in
      record {
        tree = tree;
        after = z.after;
        reads = begins_at (ReadsStmt d tree) (two h.is g.is) (an_if_else (word h) g.opens g.reads g.closes (ends_at (ReadsStmt d y.tree) c.is y.reads) (is_closed s y.tree y.same f.2) (word c) z.reads);
        same = ap_three (if_else 0) g.same y.same z.same;
        left = z.left;
      }
  back_stmt (while_loop at e s) f d v ts k q =
      let low = both (height e) (height_of_stmt s) (le_of_suc-le v) in
      let h = headed (Keyword w.WHILE) ts (head_kinds e (stmt_kinds s k)) q in
      let g = head_back e f.0 d low.0 h.rest (stmt_kinds s k) h.left in
      let y = back_stmt s f.1 d low.1 g.rest k g.left in
      let tree : Stmt = while_loop h.token.from g.tree y.tree in
      record { tree = tree; after = y.after; reads = begins_at (ReadsStmt d tree) (two h.is g.is) (a_while (word h) g.opens g.reads g.closes y.reads); same = ap₂ (while_loop 0) g.same y.same; left = y.left }
  back_stmt (do_loop at s e) f d v ts k q =
      let low = both (height_of_stmt s) (height e) (le_of_suc-le v) in
      let h = headed (Keyword w.DO) ts (stmt_kinds s (Keyword w.WHILE ∷ head_kinds e (Punct p.SEMICOLON ∷ k))) q in
      let y = back_stmt s f.0 d low.0 h.rest (Keyword w.WHILE ∷ head_kinds e (Punct p.SEMICOLON ∷ k)) h.left in
      let c = headed (Keyword w.WHILE) y.after (head_kinds e (Punct p.SEMICOLON ∷ k)) y.left in
      let g = head_back e f.1 d low.1 c.rest (Punct p.SEMICOLON ∷ k) c.left in
      let u = headed (Punct p.SEMICOLON) g.rest k g.left in
      let tree : Stmt = do_loop h.token.from y.tree g.tree in
      record {
        tree = tree;
        after = u.rest;
        reads = begins_at (ReadsStmt d tree) h.is (a_do (word h) (ends_at (ReadsStmt d y.tree) (two c.is g.is) y.reads) (word c) g.opens (ends (ap (λ (x : List Token). g.final ∷ x) u.is) g.reads) g.closes (mark u));
        same = ap₂ (do_loop 0) y.same g.same;
        left = u.left;
      }
  back_stmt (for_loop at first test step s) f d v ts k q =
      let low = both (height_of_first first) (max (height_of_maybe test) (max (height_of_maybe step) (height_of_stmt s))) (le_of_suc-le v) in
      let lower = both (height_of_maybe test) (max (height_of_maybe step) (height_of_stmt s)) low.1 in
      let lowest = both (height_of_maybe step) (height_of_stmt s) lower.1 in
      let k3 : List TokenKind = Punct p.RIGHT_PARENTHESIS ∷ stmt_kinds s k in
      let k2 : List TokenKind = Punct p.SEMICOLON ∷ maybe_kinds step k3 in
      let h = headed (Keyword w.FOR) ts (Punct p.LEFT_PARENTHESIS ∷ first_kinds first (maybe_kinds test k2)) q in
      let o = headed (Punct p.LEFT_PARENTHESIS) h.rest (first_kinds first (maybe_kinds test k2)) h.left in
      let a = first_back first f.0 d low.0 o.rest (maybe_kinds test k2) o.left in
      let x = maybe_back test f.1 d lower.0 a.after k2 a.left in
      let u = headed (Punct p.SEMICOLON) x.after (maybe_kinds step k3) x.left in
      let y = maybe_back step f.2 d lowest.0 u.rest k3 u.left in
      let c = headed (Punct p.RIGHT_PARENTHESIS) y.after (stmt_kinds s k) y.left in
      let z = back_stmt s f.3 d lowest.1 c.rest k c.left in
      let tree : Stmt = for_loop h.token.from a.tree x.tree y.tree z.tree in
      record {
        tree = tree;
        after = z.after;
        reads = begins_at (ReadsStmt d tree) (two h.is o.is) (a_for (word h) (mark o) a.reads (ends_at (ReadsMaybe d x.tree) u.is x.reads) (mark u) (ends_at (ReadsMaybe d y.tree) c.is y.reads) (mark c) z.reads);
        same = ap_four (for_loop 0) a.same x.same y.same z.same;
        left = z.left;
      }
  back_stmt (switch_on at e gs) f d v ts k q =
      let low = both (height e) (height_of_groups gs) (le_of_suc-le v) in
      let k2 : List TokenKind = Punct p.LEFT_BRACE ∷ groups_kinds gs (Punct p.RIGHT_BRACE ∷ k) in
      let h = headed (Keyword w.SWITCH) ts (head_kinds e k2) q in
      let g = head_back e f.0 d low.0 h.rest k2 h.left in
      let l = headed (Punct p.LEFT_BRACE) g.rest (groups_kinds gs (Punct p.RIGHT_BRACE ∷ k)) g.left in
      let x = back_groups gs f.1 d low.1 l.rest (Punct p.RIGHT_BRACE ∷ k) l.left in
      let c = headed (Punct p.RIGHT_BRACE) x.after k x.left in
      let tree : Stmt = switch_on h.token.from g.tree x.tree in
      record {
        tree = tree;
        after = c.rest;
        reads = begins_at (ReadsStmt d tree) (two h.is g.is) (a_switch (word h) g.opens (ends (ap (λ (y : List Token). g.final ∷ y) l.is) g.reads) g.closes (mark l) (ends_at (ReadsGroups d x.tree) c.is x.reads) (mark c));
        same = ap₂ (switch_on 0) g.same x.same;
        left = c.left;
      }
  back_stmt (break_off at) f d v ts k q =
      let h = headed (Keyword w.BREAK) ts (Punct p.SEMICOLON ∷ k) q in
      let c = headed (Punct p.SEMICOLON) h.rest k h.left in
      record { tree = break_off h.token.from; after = c.rest; reads = begins_at (ReadsStmt d (break_off h.token.from)) (two h.is c.is) (a_break (word h) (mark c)); same = refl; left = c.left }
  back_stmt (continue_on at) f d v ts k q =
      let h = headed (Keyword w.CONTINUE) ts (Punct p.SEMICOLON ∷ k) q in
      let c = headed (Punct p.SEMICOLON) h.rest k h.left in
      record { tree = continue_on h.token.from; after = c.rest; reads = begins_at (ReadsStmt d (continue_on h.token.from)) (two h.is c.is) (a_continue (word h) (mark c)); same = refl; left = c.left }
  back_stmt (return_from at e) f d v ts k q =
      let h = headed (Keyword w.RETURN) ts (maybe_kinds e (Punct p.SEMICOLON ∷ k)) q in
      let x = maybe_back e f d (le_of_suc-le v) h.rest (Punct p.SEMICOLON ∷ k) h.left in
      let c = headed (Punct p.SEMICOLON) x.after k x.left in
      let tree : Stmt = return_from h.token.from x.tree in
      record { tree = tree; after = c.rest; reads = begins_at (ReadsStmt d tree) h.is (a_return (word h) (ends_at (ReadsMaybe d x.tree) c.is x.reads) (mark c)); same = ap (return_from 0) x.same; left = c.left }

  pub back_block_items : (is : BlockItems) → AreFineBlockItems is → (d : ℕ) → height_of_block_items is ≤ d → (ts : List Token) (k : List TokenKind) → kinds ts ≡ block_items_kinds is k → BackOf (ReadsBlockItems d) unplaced_block_items is ts k
  back_block_items no_block_items f d v ts k q = record { tree = no_block_items; after = ts; reads = no_block_item; same = refl; left = q }
  back_block_items (block_decl x is) f d v ts k q =
      let low = both (height_of_decl x) (height_of_block_items is) v in
      let y = back_decl x f.0 d low.0 ts (block_items_kinds is k) q in
      let z = back_block_items is f.2 d low.1 y.after k y.left in
      record { tree = block_decl y.tree z.tree; after = z.after; reads = a_block_decl y.reads (is_plain x y.tree y.same f.1) z.reads; same = ap₂ block_decl y.same z.same; left = z.left }
  back_block_items (block_stmt s is) f d v ts k q =
      let low = both (height_of_stmt s) (height_of_block_items is) v in
      let y = back_stmt s f.0 d low.0 ts (block_items_kinds is k) q in
      let z = back_block_items is f.1 d low.1 y.after k y.left in
      record { tree = block_stmt y.tree z.tree; after = z.after; reads = a_block_stmt y.reads z.reads; same = ap₂ block_stmt y.same z.same; left = z.left }

  back_stmts : (ss : Stmts) → AreFineStmts ss → (d : ℕ) → height_of_stmts ss ≤ d → (ts : List Token) (k : List TokenKind) → kinds ts ≡ stmts_kinds ss k → BackOf (StmtsOrNone d) unplaced_stmts ss ts k
  back_stmts no_stmts f d v ts k q = record { tree = no_stmts; after = ts; reads = refl; same = refl; left = q }
  back_stmts (more_stmts s ss) f d v ts k q =
      let low = both (height_of_stmt s) (height_of_stmts ss) v in
      let y = back_stmt s f.0 d low.0 ts (stmts_kinds ss k) q in
      let z = back_stmts ss f.1 d low.1 y.after k y.left in
      record { tree = more_stmts y.tree z.tree; after = z.after; reads = stmt_before z.tree y.reads z.reads; same = ap₂ more_stmts y.same z.same; left = z.left }

  back_groups : (gs : Groups) → AreFineGroups gs → (d : ℕ) → height_of_groups gs ≤ d → (ts : List Token) (k : List TokenKind) → kinds ts ≡ groups_kinds gs k → BackOf (ReadsGroups d) unplaced_groups gs ts k
  back_groups no_groups f d v ts k q = record { tree = no_groups; after = ts; reads = no_group; same = refl; left = q }
  back_groups (more_groups ls ss gs) f d v ts k q =
      let low = both (height_of_labels ls) (max (height_of_stmts ss) (height_of_groups gs)) v in
      let lower = both (height_of_stmts ss) (height_of_groups gs) low.1 in
      let x = back_labels ls (are_fine ls f.0) d low.0 ts (stmts_kinds ss (groups_kinds gs k)) q in
      let y = back_stmts ss (some_are_fine ss f.1) d lower.0 x.after (groups_kinds gs k) x.left in
      let z = back_groups gs f.2 d lower.1 y.after k y.left in
      record {
        tree = more_groups x.tree y.tree z.tree;
        after = z.after;
        reads = a_group (labels_stand ls x.tree x.same f.0 x.reads) (stmts_stand ss y.tree y.same f.1 y.reads) z.reads;
        same = ap_three more_groups x.same y.same z.same;
        left = z.left;
      }
