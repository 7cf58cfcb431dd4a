-- What statements give without their places, and the strings that they hold.
use Rattle.std.proofs.Common.{◌≡◌, ℕ, List, [], ◌∷◌, ◌++◌, refl, sym, ap, ap₂, subst, ◌∙◌}
use Rattle.c_tree.specs.declared.value.IntType.{IntType}
use Rattle.c_tree.specs.declared.tree.TLabel.{TLabel}
use Rattle.c_tree.specs.declared.tree.TLabel.TheVariants.{Case, Default}
use Rattle.c_tree.specs.Tree.{CType}
use Rattle.c_tree.specs.Tree as typed
use Rattle.c_tree.specs.Operands.{promoted}
use Rattle.c_tree.specs.Operators.{value_of}
use Rattle.c_syntax.specs.Tree.{Maybe, absent, there, Labels, no_labels, case_label, default_label}
use Rattle.c_syntax.specs.Tree.{Stmt, block, empty, evaluate, only_if, if_else, while_loop, do_loop, for_loop, switch_on, break_off, continue_on, return_from}
use Rattle.c_syntax.specs.Tree.{BlockItems, no_block_items, block_decl, block_stmt, Stmts, no_stmts, more_stmts, Groups, no_groups, more_groups}
use Rattle.c_syntax.specs.Same.{unplaced, unplaced_maybe, unplaced_decl, unplaced_first, unplaced_labels, unplaced_stmt, unplaced_block_items, unplaced_stmts, unplaced_groups}
use Rattle.c_rules.specs.Checked.{Checked, fine, beside, Two}
use Rattle.c_rules.specs.Codes.{C3, C7, C8}
use Rattle.c_rules.specs.Constants.{number_of}
use Rattle.c_rules.specs.Types.{is_void}
use Rattle.c_rules.specs.Scopes.{Env, inside, Before}
use Rattle.c_rules.specs.Counts.{place_of, calls_of_maybe, strings_of_maybe, after, after_maybe}
use Rattle.c_rules.specs.TypedExpression.{TypedExpression, tree_of}
use Rattle.c_rules.specs.Conversions.{Kind, an_integer, kind_of, converted_to, as_if_assigned, condition}
use Rattle.c_rules.specs.Declarators.{constant_value}
use Rattle.c_rules.specs.Expressions.{value}
use Rattle.c_rules.specs.Variables.{Next, past_names, names_of_decl, names_of_first, names_of_stmt, names_of_stmts, calls_of_stmt, calls_of_stmts}
use Rattle.c_rules.specs.Blocks.{behind_decl, behind_first, held_by_stmt, held_by_block, held_by_stmts, held_by_groups, after_decl, after_first, after_stmt, after_stmts, StatementTree, bare, with_tree, joined, one_more, some_more, local_decl}
use Rattle.c_rules.specs.Statements.{Around, in_loop, in_switch, condition_at, test_of, step_of, first_of, for_of, switched_kind, switched, label_type, labels_of, Labelled, no_labelled, labelled, are_distinct, switch_of, returned, stmt, items_of_block, stmts, groups_of_switch}
use Rattle.c_rules_laws.proofs.Leads.{first_fine, on_fine}
use Rattle.c_rules_laws.proofs.Alike.{Alike, alike, fine_there, on_alike, gives_alike, both_alike, joined_alike, three_alike, demand_alike, fault_alike}
use Rattle.c_rules_laws.proofs.Operators.{assigned_alike, condition_alike}
use Rattle.c_rules_laws.proofs.Declared.{constant_alike}
use Rattle.c_rules_laws.proofs.Expressions.{value_alike, folded_alike, strings_same, past_same, after_same}
use Rattle.c_rules_laws.proofs.Counted.{maybe_calls_same, maybe_strings_same, decl_names_same, first_names_same, stmt_same, stmts_same, past_names_same}
use Rattle.c_rules_laws.proofs.Blocks.{decl_alike, behind_decl_same, held_by_decl_same, after_decl_same, first_alike, behind_first_same, held_by_first_same, after_first_same}
use Rattle.c_rules_laws.proofs.Holding.{three_fine}

-- ## Heads

condition_at_alike : (at to : ℕ) (r s : Checked TypedExpression) → Alike TypedExpression r s → Alike typed.Expr (condition_at at r) (condition_at to s)
condition_at_alike at to r s h = on_alike (condition at) (condition to) h (λ g _. condition_alike at to g)

test_alike : (env : Env) (b c : Before) → c ≡ b → (at to : ℕ) (m : Maybe) → Alike typed.Maybe (test_of env b at m) (test_of env c to (unplaced_maybe m))
test_alike env b c h at to absent = alike (fine typed.absent)
test_alike env b c h at to (there e) = gives_alike typed.there (condition_at_alike at to (value env b e) (value env c (unplaced e)) (value_alike env b c h e))

step_alike : (env : Env) (b c : Before) → c ≡ b → (m : Maybe) → Alike typed.Maybe (step_of env b m) (step_of env c (unplaced_maybe m))
step_alike env b c h absent = alike (fine typed.absent)
step_alike env b c h (there e) = gives_alike (λ g. typed.there (tree_of g)) (value_alike env b c h e)

after_maybe_same : (b c : Before) (m : Maybe) → c ≡ b → after_maybe c (unplaced_maybe m) ≡ after_maybe b m
after_maybe_same b c m h = past_same b c (calls_of_maybe (unplaced_maybe m)) (calls_of_maybe m) (strings_of_maybe (unplaced_maybe m)) (strings_of_maybe m) h (maybe_calls_same m) (maybe_strings_same m)

switched_kind_alike : (at to : ℕ) (g : TypedExpression) (k : Kind) → Alike TypedExpression (switched_kind at g k) (switched_kind to g k)
switched_kind_alike at to g (an_integer i) = alike (fine (converted_to (promoted i) g))
switched_kind_alike at to g k = fault_alike C3 at to

switched_alike : (at to : ℕ) (r s : Checked TypedExpression) → Alike TypedExpression r s → Alike TypedExpression (switched at r) (switched to s)
switched_alike at to r s h = on_alike (λ g. switched_kind at g (kind_of g.ctype)) (λ g. switched_kind to g (kind_of g.ctype)) h (λ g _. switched_kind_alike at to g (kind_of g.ctype))

-- where a switch takes its value, its labels have one type
label_type_same : (r s : Checked TypedExpression) (g : TypedExpression) → Alike TypedExpression r s → r ≡ fine g → label_type s ≡ label_type r
label_type_same r s g h e = ap label_type (fine_there g h e) ∙ sym (ap label_type e)

labels_alike : (env : Env) (i : IntType) (ls : Labels) → Alike (List TLabel) (labels_of env i ls) (labels_of env i (unplaced_labels ls))
labels_alike env i no_labels = alike (fine [])
labels_alike env i (case_label at e ls) =
    joined_alike (labels_of env i ls) (labels_of env i (unplaced_labels ls)) (λ v vs. Case (value_of i (number_of v)) ∷ vs)
    (on_alike (constant_value (place_of e)) (constant_value (place_of (unplaced e))) (folded_alike env e) (λ g _. constant_alike (place_of e) (place_of (unplaced e)) g))
    (λ _ _. labels_alike env i ls)
labels_alike env i (default_label at ls) = gives_alike (λ vs. Default ∷ vs) (labels_alike env i ls)

switch_alike : (at to : ℕ) (g : TypedExpression) (gs : Labelled) → Alike (StatementTree typed.Stmt) (switch_of at g gs) (switch_of to g gs)
switch_alike at to g gs = demand_alike (are_distinct gs.labels) C7 at to (with_tree gs.groups (typed.switch_on (tree_of g) gs.groups.tree))

returned_alike : (env : Env) (b c : Before) → c ≡ b → (at to : ℕ) (t : CType) (m : Maybe) → Alike typed.Stmt (returned env b at t m) (returned env c to t (unplaced_maybe m))
returned_alike env b c h at to t absent = demand_alike (is_void t) C3 at to typed.return_void
returned_alike env b c h at to t (there e) =
    gives_alike (λ g. typed.return_value (tree_of g)) (on_alike (as_if_assigned at t) (as_if_assigned to t) (value_alike env b c h e) (λ g _. assigned_alike at to t g))

-- ## Strings that parts hold which are fine

mutual
  held_by_stmt_same : (env : Env) (a : Around) (b : Before) (n k : Next) → k ≡ n → (s : Stmt) (p : StatementTree typed.Stmt) → stmt env a b n s ≡ fine p → held_by_stmt env k (unplaced_stmt s) ≡ held_by_stmt env n s
  held_by_stmt_same env a b n k g (block at is) p e =
      let f = on_fine (items_of_block (inside env) a b n is) (λ p. fine (with_tree p (typed.block p.tree))) p e in held_by_block_same (inside env) a b n k g is f.0 f.1
  held_by_stmt_same env a b n k g (evaluate at x) p e = strings_same x
  held_by_stmt_same env a b n k g (only_if at x s) p e =
      let f = first_fine (condition_at at (value env b x)) (stmt env a (after b x) n s) (λ c p. fine (with_tree p (typed.if_else c p.tree typed.empty))) p e in
      ap₂ (λ v w. v ++ w) (strings_same x) (held_by_stmt_same env a (after b x) n k g s f.1 f.3)
  held_by_stmt_same env a b n k g (if_else at x s t) p e =
      let f = three_fine (condition_at at (value env b x)) (stmt env a (after b x) n s) (stmt env a (after_stmt env (after b x) n s) (past_names n (names_of_stmt s)) t) (λ c p q. fine (joined p q (typed.if_else c p.tree q.tree))) p e in
      ap₂ (λ v w. v ++ w) (strings_same x)
      (ap₂ (λ v w. v ++ w) (held_by_stmt_same env a (after b x) n k g s f.1 f.4)
      (held_by_stmt_same env a (after_stmt env (after b x) n s) (past_names n (names_of_stmt s)) (past_names k (names_of_stmt (unplaced_stmt s))) (past_names_same n k (names_of_stmt s) (names_of_stmt (unplaced_stmt s)) g ((stmt_same s).1)) t f.2 f.5))
  held_by_stmt_same env a b n k g (while_loop at x s) p e =
      let f = first_fine (condition_at at (value env b x)) (stmt env (in_loop a) (after b x) n s) (λ c p. fine (with_tree p (typed.while_loop c p.tree))) p e in
      ap₂ (λ v w. v ++ w) (strings_same x) (held_by_stmt_same env (in_loop a) (after b x) n k g s f.1 f.3)
  held_by_stmt_same env a b n k g (do_loop at s x) p e =
      let f = first_fine (stmt env (in_loop a) b n s) (condition_at at (value env (after_stmt env b n s) x)) (λ p c. fine (with_tree p (typed.do_loop p.tree c))) p e in
      ap₂ (λ v w. v ++ w) (held_by_stmt_same env (in_loop a) b n k g s f.0 f.2) (strings_same x)
  held_by_stmt_same env a b n k g (for_loop at first test step s) p e =
      let outer : Env = inside env in
      let inner : Env = behind_first outer n first in
      let b1 : Before = after_first outer b n first in
      let b2 : Before = after_maybe b1 test in
      let b3 : Before = after_maybe b2 step in
      let f = three_fine (first_of outer b n first) (beside (test_of inner b1 at test) (step_of inner b2 step)) (stmt inner (in_loop a) b3 (past_names n (names_of_first first)) s) (λ p tests q. fine (for_of p tests q)) p e in
      ap₂ (λ v w. v ++ w) (held_by_first_same outer b n k g first f.0 f.3)
      (ap₂ (λ v w. v ++ w) (maybe_strings_same test)
      (ap₂ (λ v w. v ++ w) (maybe_strings_same step)
      (ap (λ y. held_by_stmt y (past_names k (names_of_first (unplaced_first first))) (unplaced_stmt s)) (sym (behind_first_same outer b n k g first f.0 f.3))
      ∙ held_by_stmt_same inner (in_loop a) b3 (past_names n (names_of_first first)) (past_names k (names_of_first (unplaced_first first))) (past_names_same n k (names_of_first first) (names_of_first (unplaced_first first)) g (first_names_same first)) s f.2 f.5)))
  held_by_stmt_same env a b n k g (switch_on at x gs) p e =
      let r : Checked TypedExpression = switched at (value env b x) in
      let f = first_fine r (groups_of_switch env (in_switch a) (after b x) n (label_type r) gs) (switch_of at) p e in
      ap₂ (λ v w. v ++ w) (strings_same x) (held_by_groups_same env (in_switch a) (after b x) n k g (label_type r) gs f.1 f.3)
  held_by_stmt_same env a b n k g (return_from at m) p e = maybe_strings_same m
  held_by_stmt_same env a b n k g s p e = refl

  pub held_by_block_same : (env : Env) (a : Around) (b : Before) (n k : Next) → k ≡ n → (is : BlockItems) (p : StatementTree typed.Stmts) → items_of_block env a b n is ≡ fine p → held_by_block env k (unplaced_block_items is) ≡ held_by_block env n is
  held_by_block_same env a b n k g no_block_items p e = refl
  held_by_block_same env a b n k g (block_decl d is) p e =
      let f = first_fine (local_decl env b n d) (items_of_block (behind_decl env n d) a (after_decl env b n d) (past_names n (names_of_decl d)) is) (λ p q. fine (some_more p q)) p e in
      ap₂ (λ v w. v ++ w) (held_by_decl_same env b n k g d f.0 f.2)
      (ap (λ y. held_by_block y (past_names k (names_of_decl (unplaced_decl d))) (unplaced_block_items is)) (sym (behind_decl_same env b n k g d f.0 f.2))
      ∙ held_by_block_same (behind_decl env n d) a (after_decl env b n d) (past_names n (names_of_decl d)) (past_names k (names_of_decl (unplaced_decl d))) (past_names_same n k (names_of_decl d) (names_of_decl (unplaced_decl d)) g (decl_names_same d)) is f.1 f.3)
  held_by_block_same env a b n k g (block_stmt s is) p e =
      let f = first_fine (stmt env a b n s) (items_of_block env a (after_stmt env b n s) (past_names n (names_of_stmt s)) is) (λ p q. fine (one_more p q)) p e in
      ap₂ (λ v w. v ++ w) (held_by_stmt_same env a b n k g s f.0 f.2)
      (held_by_block_same env a (after_stmt env b n s) (past_names n (names_of_stmt s)) (past_names k (names_of_stmt (unplaced_stmt s))) (past_names_same n k (names_of_stmt s) (names_of_stmt (unplaced_stmt s)) g ((stmt_same s).1)) is f.1 f.3)

  held_by_stmts_same : (env : Env) (a : Around) (b : Before) (n k : Next) → k ≡ n → (ss : Stmts) (p : StatementTree typed.Stmts) → stmts env a b n ss ≡ fine p → held_by_stmts env k (unplaced_stmts ss) ≡ held_by_stmts env n ss
  held_by_stmts_same env a b n k g no_stmts p e = refl
  held_by_stmts_same env a b n k g (more_stmts s ss) p e =
      let f = first_fine (stmt env a b n s) (stmts env a (after_stmt env b n s) (past_names n (names_of_stmt s)) ss) (λ p q. fine (one_more p q)) p e in
      ap₂ (λ v w. v ++ w) (held_by_stmt_same env a b n k g s f.0 f.2)
      (held_by_stmts_same env a (after_stmt env b n s) (past_names n (names_of_stmt s)) (past_names k (names_of_stmt (unplaced_stmt s))) (past_names_same n k (names_of_stmt s) (names_of_stmt (unplaced_stmt s)) g ((stmt_same s).1)) ss f.1 f.3)

  held_by_groups_same : (env : Env) (a : Around) (b : Before) (n k : Next) → k ≡ n → (i : IntType) (gs : Groups) (p : Labelled) → groups_of_switch env a b n i gs ≡ fine p → held_by_groups env k (unplaced_groups gs) ≡ held_by_groups env n gs
  held_by_groups_same env a b n k g i no_groups p e = refl
  held_by_groups_same env a b n k g i (more_groups ls ss gs) p e =
      let f = three_fine (labels_of env i ls) (stmts env a b n ss) (groups_of_switch env a (after_stmts env b n ss) (past_names n (names_of_stmts ss)) i gs) (λ vs p rest. fine (labelled vs p rest)) p e in
      ap₂ (λ v w. v ++ w) (held_by_stmts_same env a b n k g ss f.1 f.4)
      (held_by_groups_same env a (after_stmts env b n ss) (past_names n (names_of_stmts ss)) (past_names k (names_of_stmts (unplaced_stmts ss))) (past_names_same n k (names_of_stmts ss) (names_of_stmts (unplaced_stmts ss)) g ((stmts_same ss).1)) i gs f.2 f.5)

after_stmt_same : (env : Env) (a : Around) (b c : Before) → c ≡ b → (n k : Next) → k ≡ n → (s : Stmt) (p : StatementTree typed.Stmt) → stmt env a b n s ≡ fine p → after_stmt env c k (unplaced_stmt s) ≡ after_stmt env b n s
after_stmt_same env a b c h n k g s p e =
    past_same b c (calls_of_stmt (unplaced_stmt s)) (calls_of_stmt s) (held_by_stmt env k (unplaced_stmt s)) (held_by_stmt env n s) h ((stmt_same s).0) (held_by_stmt_same env a b n k g s p e)

after_stmts_same : (env : Env) (a : Around) (b c : Before) → c ≡ b → (n k : Next) → k ≡ n → (ss : Stmts) (p : StatementTree typed.Stmts) → stmts env a b n ss ≡ fine p → after_stmts env c k (unplaced_stmts ss) ≡ after_stmts env b n ss
after_stmts_same env a b c h n k g ss p e =
    past_same b c (calls_of_stmts (unplaced_stmts ss)) (calls_of_stmts ss) (held_by_stmts env k (unplaced_stmts ss)) (held_by_stmts env n ss) h ((stmts_same ss).0) (held_by_stmts_same env a b n k g ss p e)

-- ## Statements

mutual
  pub stmt_alike : (env : Env) (a : Around) (b c : Before) → c ≡ b → (n k : Next) → k ≡ n → (s : Stmt) → Alike (StatementTree typed.Stmt) (stmt env a b n s) (stmt env a c k (unplaced_stmt s))
  stmt_alike env a b c h n k g (block at is) = gives_alike (λ p. with_tree p (typed.block p.tree)) (items_alike (inside env) a b c h n k g is)
  stmt_alike env a b c h n k g (empty at) = alike (fine (bare typed.empty))
  stmt_alike env a b c h n k g (evaluate at e) = gives_alike (λ g. bare (typed.evaluate (tree_of g))) (value_alike env b c h e)
  stmt_alike env a b c h n k g (only_if at e s) =
      joined_alike (stmt env a (after b e) n s) (stmt env a (after c (unplaced e)) k (unplaced_stmt s)) (λ c p. with_tree p (typed.if_else c p.tree typed.empty))
      (condition_at_alike at 0 (value env b e) (value env c (unplaced e)) (value_alike env b c h e))
      (λ _ _. stmt_alike env a (after b e) (after c (unplaced e)) (after_same b c e h) n k g s)
  stmt_alike env a b c h n k g (if_else at e s t) =
      let b1 : Before = after b e in let c1 : Before = after c (unplaced e) in let h1 : c1 ≡ b1 = after_same b c e h in
      let n1 : Next = past_names n (names_of_stmt s) in let k1 : Next = past_names k (names_of_stmt (unplaced_stmt s)) in
      three_alike (stmt env a b1 n s) (stmt env a c1 k (unplaced_stmt s)) (stmt env a (after_stmt env b1 n s) n1 t) (stmt env a (after_stmt env c1 k (unplaced_stmt s)) k1 (unplaced_stmt t))
      (λ c p q. fine (joined p q (typed.if_else c p.tree q.tree))) (λ c p q. fine (joined p q (typed.if_else c p.tree q.tree)))
      (condition_at_alike at 0 (value env b e) (value env c (unplaced e)) (value_alike env b c h e)) (λ _ _. stmt_alike env a b1 c1 h1 n k g s)
      (λ _ p _ f. stmt_alike env a (after_stmt env b1 n s) (after_stmt env c1 k (unplaced_stmt s)) (after_stmt_same env a b1 c1 h1 n k g s p f) n1 k1 (past_names_same n k (names_of_stmt s) (names_of_stmt (unplaced_stmt s)) g ((stmt_same s).1)) t)
      (λ c p q. alike (fine (joined p q (typed.if_else c p.tree q.tree))))
  stmt_alike env a b c h n k g (while_loop at e s) =
      joined_alike (stmt env (in_loop a) (after b e) n s) (stmt env (in_loop a) (after c (unplaced e)) k (unplaced_stmt s)) (λ c p. with_tree p (typed.while_loop c p.tree))
      (condition_at_alike at 0 (value env b e) (value env c (unplaced e)) (value_alike env b c h e))
      (λ _ _. stmt_alike env (in_loop a) (after b e) (after c (unplaced e)) (after_same b c e h) n k g s)
  stmt_alike env a b c h n k g (do_loop at s e) =
      let b1 : Before = after_stmt env b n s in let c1 : Before = after_stmt env c k (unplaced_stmt s) in
      joined_alike (condition_at at (value env b1 e)) (condition_at 0 (value env c1 (unplaced e))) (λ p c. with_tree p (typed.do_loop p.tree c))
      (stmt_alike env (in_loop a) b c h n k g s)
      (λ p f. condition_at_alike at 0 (value env b1 e) (value env c1 (unplaced e)) (value_alike env b1 c1 (after_stmt_same env (in_loop a) b c h n k g s p f) e))
  stmt_alike env a b c h n k g (for_loop at first test step s) =
      let outer : Env = inside env in
      let inner : Env = behind_first outer n first in
      let b1 : Before = after_first outer b n first in
      let b2 : Before = after_maybe b1 test in
      let b3 : Before = after_maybe b2 step in
      let other : Env = behind_first outer k (unplaced_first first) in
      let c1 : Before = after_first outer c k (unplaced_first first) in
      let c2 : Before = after_maybe c1 (unplaced_maybe test) in
      let c3 : Before = after_maybe c2 (unplaced_maybe step) in
      let n1 : Next = past_names n (names_of_first first) in let k1 : Next = past_names k (names_of_first (unplaced_first first)) in
      three_alike (beside (test_of inner b1 at test) (step_of inner b2 step)) (beside (test_of other c1 0 (unplaced_maybe test)) (step_of other c2 (unplaced_maybe step)))
      (stmt inner (in_loop a) b3 n1 s) (stmt other (in_loop a) c3 k1 (unplaced_stmt s)) (λ p tests q. fine (for_of p tests q)) (λ p tests q. fine (for_of p tests q))
      (first_alike outer b c h n k g first)
      (λ p f.
      let h1 : c1 ≡ b1 = after_first_same outer b c h n k g first p f in
      let h2 : c2 ≡ b2 = after_maybe_same b1 c1 test h1 in
      subst (λ y. Alike (Two typed.Maybe typed.Maybe) (beside (test_of inner b1 at test) (step_of inner b2 step)) (beside (test_of y c1 0 (unplaced_maybe test)) (step_of y c2 (unplaced_maybe step)))) (behind_first_same outer b n k g first p f)
      (joined_alike (step_of inner b2 step) (step_of inner c2 (unplaced_maybe step)) (λ a b. record { first = a; second = b })
      (test_alike inner b1 c1 h1 at 0 test) (λ _ _. step_alike inner b2 c2 h2 step)))
      (λ p _ f _.
      let h1 : c1 ≡ b1 = after_first_same outer b c h n k g first p f in
      let h2 : c2 ≡ b2 = after_maybe_same b1 c1 test h1 in
      let h3 : c3 ≡ b3 = after_maybe_same b2 c2 step h2 in
      subst (λ y. Alike (StatementTree typed.Stmt) (stmt inner (in_loop a) b3 n1 s) (stmt y (in_loop a) c3 k1 (unplaced_stmt s))) (behind_first_same outer b n k g first p f)
      (stmt_alike inner (in_loop a) b3 c3 h3 n1 k1 (past_names_same n k (names_of_first first) (names_of_first (unplaced_first first)) g (first_names_same first)) s))
      (λ p tests q. alike (fine (for_of p tests q)))
  stmt_alike env a b c h n k g (switch_on at e gs) =
      let r : Checked TypedExpression = switched at (value env b e) in
      let q : Checked TypedExpression = switched 0 (value env c (unplaced e)) in
      let same : Alike TypedExpression r q = switched_alike at 0 (value env b e) (value env c (unplaced e)) (value_alike env b c h e) in
      both_alike (groups_of_switch env (in_switch a) (after b e) n (label_type r) gs) (groups_of_switch env (in_switch a) (after c (unplaced e)) k (label_type q) (unplaced_groups gs)) (switch_of at) (switch_of 0) same
      (λ v f. subst (λ i. Alike Labelled (groups_of_switch env (in_switch a) (after b e) n (label_type r) gs) (groups_of_switch env (in_switch a) (after c (unplaced e)) k i (unplaced_groups gs))) (sym (label_type_same r q v same f))
      (groups_alike env (in_switch a) (after b e) (after c (unplaced e)) (after_same b c e h) n k g (label_type r) gs))
      (λ v ls. switch_alike at 0 v ls)
  stmt_alike env a b c h n k g (break_off at) = demand_alike a.breaks C8 at 0 (bare typed.break_off)
  stmt_alike env a b c h n k g (continue_on at) = demand_alike a.continues C8 at 0 (bare typed.continue_on)
  stmt_alike env a b c h n k g (return_from at m) = gives_alike bare (returned_alike env b c h at 0 a.returns m)

  pub items_alike : (env : Env) (a : Around) (b c : Before) → c ≡ b → (n k : Next) → k ≡ n → (is : BlockItems) → Alike (StatementTree typed.Stmts) (items_of_block env a b n is) (items_of_block env a c k (unplaced_block_items is))
  items_alike env a b c h n k g no_block_items = alike (fine (bare typed.no_stmts))
  items_alike env a b c h n k g (block_decl d is) =
      let rest : Checked (StatementTree typed.Stmts) = items_of_block (behind_decl env n d) a (after_decl env b n d) (past_names n (names_of_decl d)) is in
      let c1 : Before = after_decl env c k (unplaced_decl d) in let k1 : Next = past_names k (names_of_decl (unplaced_decl d)) in
      joined_alike rest (items_of_block (behind_decl env k (unplaced_decl d)) a c1 k1 (unplaced_block_items is)) (λ p q. some_more p q) (decl_alike env b c h n k g d)
      (λ p f. subst (λ y. Alike (StatementTree typed.Stmts) rest (items_of_block y a c1 k1 (unplaced_block_items is))) (behind_decl_same env b n k g d p f)
      (items_alike (behind_decl env n d) a (after_decl env b n d) c1 (after_decl_same env b c h n k g d p f) (past_names n (names_of_decl d)) k1 (past_names_same n k (names_of_decl d) (names_of_decl (unplaced_decl d)) g (decl_names_same d)) is))
  items_alike env a b c h n k g (block_stmt s is) =
      let n1 : Next = past_names n (names_of_stmt s) in let k1 : Next = past_names k (names_of_stmt (unplaced_stmt s)) in
      joined_alike (items_of_block env a (after_stmt env b n s) n1 is) (items_of_block env a (after_stmt env c k (unplaced_stmt s)) k1 (unplaced_block_items is)) (λ p q. one_more p q)
      (stmt_alike env a b c h n k g s)
      (λ p f. items_alike env a (after_stmt env b n s) (after_stmt env c k (unplaced_stmt s)) (after_stmt_same env a b c h n k g s p f) n1 k1 (past_names_same n k (names_of_stmt s) (names_of_stmt (unplaced_stmt s)) g ((stmt_same s).1)) is)

  stmts_alike : (env : Env) (a : Around) (b c : Before) → c ≡ b → (n k : Next) → k ≡ n → (ss : Stmts) → Alike (StatementTree typed.Stmts) (stmts env a b n ss) (stmts env a c k (unplaced_stmts ss))
  stmts_alike env a b c h n k g no_stmts = alike (fine (bare typed.no_stmts))
  stmts_alike env a b c h n k g (more_stmts s ss) =
      let n1 : Next = past_names n (names_of_stmt s) in let k1 : Next = past_names k (names_of_stmt (unplaced_stmt s)) in
      joined_alike (stmts env a (after_stmt env b n s) n1 ss) (stmts env a (after_stmt env c k (unplaced_stmt s)) k1 (unplaced_stmts ss)) (λ p q. one_more p q)
      (stmt_alike env a b c h n k g s)
      (λ p f. stmts_alike env a (after_stmt env b n s) (after_stmt env c k (unplaced_stmt s)) (after_stmt_same env a b c h n k g s p f) n1 k1 (past_names_same n k (names_of_stmt s) (names_of_stmt (unplaced_stmt s)) g ((stmt_same s).1)) ss)

  groups_alike : (env : Env) (a : Around) (b c : Before) → c ≡ b → (n k : Next) → k ≡ n → (i : IntType) (gs : Groups) → Alike Labelled (groups_of_switch env a b n i gs) (groups_of_switch env a c k i (unplaced_groups gs))
  groups_alike env a b c h n k g i no_groups = alike (fine no_labelled)
  groups_alike env a b c h n k g i (more_groups ls ss gs) =
      let n1 : Next = past_names n (names_of_stmts ss) in let k1 : Next = past_names k (names_of_stmts (unplaced_stmts ss)) in
      three_alike (stmts env a b n ss) (stmts env a c k (unplaced_stmts ss))
      (groups_of_switch env a (after_stmts env b n ss) n1 i gs) (groups_of_switch env a (after_stmts env c k (unplaced_stmts ss)) k1 i (unplaced_groups gs)) (λ vs p rest. fine (labelled vs p rest)) (λ vs p rest. fine (labelled vs p rest))
      (labels_alike env i ls) (λ _ _. stmts_alike env a b c h n k g ss)
      (λ _ p _ f. groups_alike env a (after_stmts env b n ss) (after_stmts env c k (unplaced_stmts ss)) (after_stmts_same env a b c h n k g ss p f) n1 k1 (past_names_same n k (names_of_stmts ss) (names_of_stmts (unplaced_stmts ss)) g ((stmts_same ss).1)) i gs)
      (λ vs p rest. alike (fine (labelled vs p rest)))
