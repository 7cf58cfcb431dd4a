-- No tokens spell two statements, or two blocks: an else belongs to one if.
use Rattle.std.proofs.Common.{◌≡◌, ℕ, ◌≤◌, List, refl, ap, sym, arith}
use Rattle.c_lexer.specs.declared.token.Token.{Token}
use Rattle.c_syntax.specs.Tree.{Stmt, BlockItems, Stmts, Groups}
use Rattle.c_syntax.specs.Statements.{ReadsStmt, a_block, an_empty, an_evaluation, an_if, an_if_else, a_while, a_do, a_for, a_switch, a_break, a_continue, a_return}
use Rattle.c_syntax.specs.Statements.{ReadsBlockItems, no_block_item, a_block_decl, a_block_stmt, ReadsStmts, last_stmt, next_stmt, ReadsGroups, no_group, a_group}
use Rattle.c_syntax.proofs.BackTokens.{begins_at}
use Rattle.c_syntax_printing.specs.Heads.{head}
use Rattle.c_syntax_printing.proofs.OneDecl.{plain_head, labels_head, same_decl, same_labels}
use Rattle.c_syntax_printing.proofs.StmtCases.{stmt_head, block_items_head, stmts_head, groups_head, Fits}
use Rattle.c_syntax_printing.proofs.StmtCases.{block_case, empty_case, evaluation_case, if_case, if_else_case, while_case, do_case, for_case, switch_case, break_case, continue_case, return_case}

-- a statement that another one follows, or the end of a block
fits_block_items : {d : ℕ} (s : Stmt) {a : BlockItems} {i j : List Token} → ReadsBlockItems d a i j → head j ≡ 5 → Fits s i
fits_block_items s r h k = absurd (block_items_head r h k)

fits_stmts : {d : ℕ} (s : Stmt) {a : Stmts} {i j : List Token} → ReadsStmts d a i j → Fits s i
fits_stmts s r k = absurd (omega (arith, stmts_head r))

fits_end : (s : Stmt) (i : List Token) → head i ≤ 12 → Fits s i
fits_end s i h k = absurd (omega arith)

no_stmt_at : {d : ℕ} {a : Stmts} {i j k : List Token} → k ≡ i → head k ≤ 12 → ReadsStmts d a i j → ⊥
no_stmt_at q h r = omega (arith, ap head q, stmts_head r)

mutual
  pub same_stmt : {d x : ℕ} {s z : Stmt} {i j k : List Token} → ReadsStmt d s i j → ReadsStmt x z i k → Fits s j → Fits z k → (s ≡ z) × (j ≡ k)
  same_stmt (a_block h r c) v f g = block_case h (record { same = λ x b k w a e. same_block_items r w a e }) c v
  same_stmt (an_empty h) v f g = empty_case h v
  same_stmt (an_evaluation p r h) v f g = evaluation_case p r h v
  same_stmt (an_if w o r c s) v f g = if_case w r c (record { same = λ x b k n a e. same_stmt s n a e }) f v g
  same_stmt (an_if_else w o r c s l e y) v f g =
      if_else_case w r c (record { same = λ x b k n a e. same_stmt s n a e }) l e (record { same = λ x b k n a e. same_stmt y n a e }) f v g
  same_stmt (a_while w o r c s) v f g = while_case w r c (record { same = λ x b k n a e. same_stmt s n a e }) f v g
  same_stmt (a_do w s p o r c e) v f g = do_case w (record { same = λ x b k n a e. same_stmt s n a e }) p r c v
  same_stmt (a_for w o p t h e c s) v f g = for_case w p t h e c (record { same = λ x b k n a e. same_stmt s n a e }) f v g
  same_stmt (a_switch w o r c l y e) v f g = switch_case w r c (record { same = λ x b k n a e. same_groups y n a e }) e v
  same_stmt (a_break w h) v f g = break_case w v
  same_stmt (a_continue w h) v f g = continue_case w v
  same_stmt (a_return w m h) v f g = return_case w m h v

  pub same_block_items : {d x : ℕ} {a b : BlockItems} {i j k : List Token} → ReadsBlockItems d a i j → ReadsBlockItems x b i k → head j ≡ 5 → head k ≡ 5 → (a ≡ b) × (j ≡ k)
  same_block_items no_block_item no_block_item s z = (refl, refl)
  same_block_items no_block_item (a_block_decl v p b) s z = absurd (omega (arith, plain_head v p))
  same_block_items no_block_item (a_block_stmt v b) s z = absurd (omega (arith, stmt_head v))
  same_block_items (a_block_decl r p f) no_block_item s z = absurd (omega (arith, plain_head r p))
  same_block_items (a_block_stmt r f) no_block_item s z = absurd (omega (arith, stmt_head r))
  same_block_items (a_block_decl r p f) (a_block_stmt v b) s z = absurd (omega (arith, plain_head r p, stmt_head v))
  same_block_items (a_block_stmt r f) (a_block_decl v p b) s z = absurd (omega (arith, plain_head v p, stmt_head r))
  same_block_items (a_block_decl r p f) (a_block_decl v q b) s z =
      let y = same_decl r v in let w = same_block_items f (begins_at (ReadsBlockItems _ _) y.1 b) s z in (cc, w.1)
  same_block_items (a_block_stmt {s = p} r f) (a_block_stmt {s = q} v b) s z =
      let y = same_stmt r v (fits_block_items p f s) (fits_block_items q b z) in let w = same_block_items f (begins_at (ReadsBlockItems _ _) y.1 b) s z in (cc, w.1)

  same_stmts : {d x : ℕ} {a b : Stmts} {i j k : List Token} → ReadsStmts d a i j → ReadsStmts x b i k → head j ≤ 12 → head k ≤ 12 → (a ≡ b) × (j ≡ k)
  same_stmts (last_stmt {s = p} {j = j} r) (last_stmt {s = q} {j = k} v) s z = let y = same_stmt r v (fits_end p j s) (fits_end q k z) in (cc, y.1)
  same_stmts (last_stmt {s = p} {j = j} r) (next_stmt {s = q} v b) s z =
      let y = same_stmt r v (fits_end p j s) (fits_stmts q b) in absurd (no_stmt_at y.1 s b)
  same_stmts (next_stmt {s = p} r f) (last_stmt {s = q} {j = k} v) s z =
      let y = same_stmt r v (fits_stmts p f) (fits_end q k z) in absurd (no_stmt_at (sym y.1) z f)
  same_stmts (next_stmt {s = p} r f) (next_stmt {s = q} v b) s z =
      let y = same_stmt r v (fits_stmts p f) (fits_stmts q b) in let w = same_stmts f (begins_at (ReadsStmts _ _) y.1 b) s z in (cc, w.1)

  same_groups : {d x : ℕ} {a b : Groups} {i j k : List Token} → ReadsGroups d a i j → ReadsGroups x b i k → head j ≡ 5 → head k ≡ 5 → (a ≡ b) × (j ≡ k)
  same_groups no_group no_group s z = (refl, refl)
  same_groups no_group (a_group v b l) s z = absurd (omega (arith, (labels_head v).0))
  same_groups (a_group r f g) no_group s z = absurd (omega (arith, (labels_head r).0))
  same_groups (a_group r f g) (a_group v b l) s z =
      let y = same_labels r v (stmts_head f) (stmts_head b) in
      let w = same_stmts f (begins_at (ReadsStmts _ _) y.1 b) (groups_head g s) (groups_head l z) in
      let u = same_groups g (begins_at (ReadsGroups _ _) w.1 l) s z in (cc, u.1)
