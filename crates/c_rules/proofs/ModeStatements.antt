-- Statements in the two modes.
use Rattle.std.proofs.Common.{◌≡◌, ℕ, ◌∷◌, ◌++◌, refl, ap, sym, ◌∙◌}
use Rattle.c_tree.specs.declared.value.IntType.{IntType}
use Rattle.c_tree.specs.declared.tree.TLabel.TheVariants.{Case, Default}
use Rattle.c_tree.specs.Operators.{value_of}
use Rattle.c_tree.specs.Tree.{CType}
use Rattle.c_tree.specs.Tree as typed
use Rattle.c_syntax.specs.Tree.{Expr, Maybe, absent, there, Labels, no_labels, case_label, default_label, Stmt, block, empty, evaluate, only_if, if_else, while_loop, do_loop, for_loop, switch_on, return_from}
use Rattle.c_syntax.specs.Tree.{BlockItems, no_block_items, block_decl, block_stmt, Stmts, no_stmts, more_stmts, Groups, no_groups, more_groups}
use Rattle.c_rules.specs.Constants.{number_of}
use Rattle.c_rules.specs.Checked.{Checked, fine, on, beside, Two}
use Rattle.c_rules.specs.Scopes.{Env, inside, in_context, folded, Before, nothing_before}
use Rattle.c_rules.specs.Counts.{place_of, past, after, after_maybe, strings, strings_of_maybe}
use Rattle.c_rules.specs.TypedExpression.{TypedExpression, tree_of}
use Rattle.c_rules.specs.Conversions.{kind_of, as_if_assigned, condition}
use Rattle.c_rules.specs.Declarators.{constant_value}
use Rattle.c_rules.specs.Expressions.{value, folded_value}
use Rattle.c_rules.specs.Variables.{Next, past_names, names_of_decl, names_of_first, names_of_stmt, names_of_stmts, calls_of_decl, calls_of_first, calls_of_stmt, calls_of_stmts}
use Rattle.c_rules.specs.Blocks.{behind_decl, behind_first, held_by_first, held_by_decl, held_by_stmt, held_by_block, held_by_stmts, held_by_groups, after_decl, after_first, after_stmt, after_stmts, StatementTree, bare, with_tree, joined, one_more, some_more, local_decl}
use Rattle.c_rules.specs.Statements.{Around, in_loop, in_switch, condition_at, test_of, step_of, first_of, for_of, switched_kind, switched, label_type, labels_of, labelled, switch_of, returned, stmt, items_of_block, stmts, groups_of_switch}
use Rattle.c_rules.proofs.Modes.{Leads, LeadsTo, same_leads, fine_leads, then_leads, both_leads, gives_leads, Alike, alike}
use Rattle.c_rules.proofs.ModeExpressions.{value_leads}
use Rattle.c_rules.proofs.ModeBlocks.{PartFacts, parts_to, parts_at, both_to, gives_to, weaken, always, moved, both_lists, decl_leads, first_leads}

pub inside_alike : (e f : Env) → Alike e f → Alike (inside e) (inside f)
inside_alike e f (alike env v p l) = alike (inside env) v p l

pub folded_leads : (e f : Env) → Alike e f → (x : Expr) → Leads (folded_value e x) (folded_value f x)
folded_leads e f (alike env v p l) x = value_leads _ _ (alike (in_context env folded) v p l) nothing_before x

condition_leads : (e f : Env) → Alike e f → (b : Before) (at : ℕ) (x : Expr) → Leads (condition_at at (value e b x)) (condition_at at (value f b x))
condition_leads e f w b at x = then_leads (value e b x) (value f b x) (condition at) (value_leads e f w b x)

test_leads : (e f : Env) → Alike e f → (b : Before) (at : ℕ) (m : Maybe) → Leads (test_of e b at m) (test_of f b at m)
test_leads e f w b at absent = (refl, tt)
test_leads e f w b at (there x) = gives_leads (condition_at at (value e b x)) (condition_at at (value f b x)) typed.there (condition_leads e f w b at x)

step_leads : (e f : Env) → Alike e f → (b : Before) (m : Maybe) → Leads (step_of e b m) (step_of f b m)
step_leads e f w b absent = (refl, tt)
step_leads e f w b (there x) = gives_leads (value e b x) (value f b x) (λ g. typed.there (tree_of g)) (value_leads e f w b x)

returned_leads : (e f : Env) → Alike e f → (b : Before) (at : ℕ) (t : CType) (m : Maybe) → Leads (returned e b at t m) (returned f b at t m)
returned_leads e f w b at t absent = same_leads (returned e b at t absent)
returned_leads e f w b at t (there x) =
    gives_leads (on (value e b x) (as_if_assigned at t)) (on (value f b x) (as_if_assigned at t)) (λ g. typed.return_value (tree_of g)) (then_leads (value e b x) (value f b x) (as_if_assigned at t) (value_leads e f w b x))

pub labels_lead : (e f : Env) → Alike e f → (i : IntType) (ls : Labels) → Leads (labels_of e i ls) (labels_of f i ls)
labels_lead e f w i no_labels = (refl, tt)
labels_lead e f w i (case_label at x ls) =
    both_leads (on (folded_value e x) (constant_value (place_of x))) (on (folded_value f x) (constant_value (place_of x))) (labels_of e i ls) (labels_of f i ls) (λ v vs. fine (Case (value_of i (number_of v)) ∷ vs)) (λ v vs. fine (Case (value_of i (number_of v)) ∷ vs))
    (then_leads (folded_value e x) (folded_value f x) (constant_value (place_of x)) (folded_leads e f w x)) (λ _ _. labels_lead e f w i ls) (λ v vs. (refl, tt))
labels_lead e f w i (default_label at ls) = gives_leads (labels_of e i ls) (labels_of f i ls) (λ vs. Default ∷ vs) (labels_lead e f w i ls)

switched_leads : (e f : Env) → Alike e f → (b : Before) (at : ℕ) (x : Expr) → Leads (switched at (value e b x)) (switched at (value f b x))
switched_leads e f w b at x = then_leads (value e b x) (value f b x) (λ g. switched_kind at g (kind_of g.ctype)) (value_leads e f w b x)

-- where both are fine the labels have one type
label_same : (r s : Checked TypedExpression) (g : TypedExpression) → Leads r s → r ≡ fine g → label_type r ≡ label_type s
label_same r s g h e = ap label_type (e ∙ sym (fine_leads r s g h e))

-- a statement that is fine in a plain unit: the same tree, and the same strings
abbrev Same : Env → Env → Next → Stmt → Type 0
Same e f next s = held_by_stmt e next s ≡ held_by_stmt f next s

-- what stands behind the first part of a for
abbrev rest_of_for : Env → Around → (at : ℕ) → Maybe → Maybe → Stmt → Next → Before → Checked (Two (Two typed.Maybe typed.Maybe) (StatementTree typed.Stmt))
rest_of_for e a at test step s later b =
    beside (beside (test_of e b at test) (step_of e (after_maybe b test) step)) (stmt e (in_loop a) (after_maybe (after_maybe b test) step) later s)

mutual
  pub stmt_leads : (e f : Env) → Alike e f → (a : Around) (b : Before) (next : Next) (s : Stmt) → LeadsTo (held_by_stmt e next s ≡ held_by_stmt f next s) (stmt e a b next s) (stmt f a b next s)
  stmt_leads e f w a b next (block at is) = gives_to _ (items_of_block (inside e) a b next is) (items_of_block (inside f) a b next is) (λ p. with_tree p (typed.block p.tree)) (block_leads (inside e) (inside f) (inside_alike e f w) a b next is)
  stmt_leads e f w a b next (empty at) = (refl, refl)
  stmt_leads e f w a b next (evaluate at x) = always _ _ _ refl (gives_leads (value e b x) (value f b x) (λ g. bare (typed.evaluate (tree_of g))) (value_leads e f w b x))
  stmt_leads e f w a b next (only_if at x s) =
      parts_to (Unit {0}) (Same e f next s) _ (condition_at at (value e b x)) (condition_at at (value f b x)) (stmt e a (after b x) next s) (stmt f a (after b x) next s) (λ c p. fine (with_tree p (typed.if_else c p.tree typed.empty)))
      (λ _ h. ap (λ z. strings x ++ z) h) (condition_leads e f w b at x) (λ _. stmt_leads e f w a (after b x) next s)
  stmt_leads e f w a b next (if_else at x s t) =
      let later : Next = past_names next (names_of_stmt s) in
      let from : Before = after_stmt e (after b x) next s in
      let to : Before = after_stmt f (after b x) next s in
      parts_to (Unit {0}) (Same e f next s × Same e f later t) _ (condition_at at (value e b x)) (condition_at at (value f b x)) (beside (stmt e a (after b x) next s) (stmt e a from later t)) (beside (stmt f a (after b x) next s) (stmt f a to later t)) (λ c y. fine (joined y.first y.second (typed.if_else c y.first.tree y.second.tree)))
      (λ _ h. ap (λ z. strings x ++ z) (both_lists _ _ _ _ h.0 h.1)) (condition_leads e f w b at x)
      (λ _. parts_at (Same e f next s) (Same e f later t) _ (stmt e a (after b x) next s) (stmt f a (after b x) next s) (λ y. stmt e a y later t) (λ y. stmt f a y later t) from to (λ p q. fine (record { first = p; second = q })) (λ h i. (h, i)) (λ h. ap (past (after b x) (calls_of_stmt s)) h) (stmt_leads e f w a (after b x) next s) (λ _. stmt_leads e f w a from later t))
  stmt_leads e f w a b next (while_loop at x s) =
      parts_to (Unit {0}) (Same e f next s) _ (condition_at at (value e b x)) (condition_at at (value f b x)) (stmt e (in_loop a) (after b x) next s) (stmt f (in_loop a) (after b x) next s) (λ c p. fine (with_tree p (typed.while_loop c p.tree)))
      (λ _ h. ap (λ z. strings x ++ z) h) (condition_leads e f w b at x) (λ _. stmt_leads e f w (in_loop a) (after b x) next s)
  stmt_leads e f w a b next (do_loop at s x) =
      parts_at (Same e f next s) (Unit {0}) _ (stmt e (in_loop a) b next s) (stmt f (in_loop a) b next s) (λ y. condition_at at (value e y x)) (λ y. condition_at at (value f y x)) (after_stmt e b next s) (after_stmt f b next s) (λ p c. fine (with_tree p (typed.do_loop p.tree c)))
      (λ h _. ap (λ z. z ++ strings x) h) (λ h. ap (past b (calls_of_stmt s)) h) (stmt_leads e f w (in_loop a) b next s) (λ _. condition_leads e f w (after_stmt e b next s) at x)
  stmt_leads e f w a b next (for_loop at first test step s) =
      let oe : Env = inside e in
      let of : Env = inside f in
      let ie : Env = behind_first oe next first in
      let if' : Env = behind_first of next first in
      let later : Next = past_names next (names_of_first first) in
      let b1 : Before = after_first oe b next first in
      let b2 : Before = after_maybe b1 test in
      parts_at (PartFacts ie if' (held_by_first oe next first) (held_by_first of next first)) (Same ie if' later s) _ (first_of oe b next first) (first_of of b next first) (rest_of_for ie a at test step s later) (rest_of_for if' a at test step s later) b1 (after_first of b next first) (λ p y. fine (for_of p y.first y.second))
      (λ h i. both_lists _ _ _ _ h.1 (ap (λ z. strings_of_maybe test ++ z) (ap (λ z. strings_of_maybe step ++ z) i))) (λ h. ap (past b (calls_of_first first)) h.1) (first_leads oe of (inside_alike e f w) b next first)
      (λ h. parts_to (Unit {0}) (Same ie if' later s) _ (beside (test_of ie b1 at test) (step_of ie b2 step)) (beside (test_of if' b1 at test) (step_of if' b2 step)) (stmt ie (in_loop a) (after_maybe b2 step) later s) (stmt if' (in_loop a) (after_maybe b2 step) later s) (λ t q. fine (record { first = t; second = q })) (λ _ i. i)
      (both_leads _ _ _ _ (λ t u. fine (record { first = t; second = u })) (λ t u. fine (record { first = t; second = u })) (test_leads ie if' h.0 b1 at test) (λ _ _. step_leads ie if' h.0 b2 step) (λ t u. (refl, tt))) (λ _. stmt_leads ie if' h.0 (in_loop a) (after_maybe b2 step) later s))
  stmt_leads e f w a b next (switch_on at x gs) =
      let r : Checked TypedExpression = switched at (value e b x) in
      let s : Checked TypedExpression = switched at (value f b x) in
      let G : Type 0 = held_by_groups e next gs ≡ held_by_groups f next gs in
      weaken (Unit {0} × G) _ _ _ (λ h. ap (λ z. strings x ++ z) h.1)
      (both_to (Unit {0}) G r s (groups_of_switch e (in_switch a) (after b x) next (label_type r) gs) (groups_of_switch f (in_switch a) (after b x) next (label_type s) gs) (switch_of at) (switch_of at)
      (switched_leads e f w b at x) (λ g u _. moved G (groups_of_switch e (in_switch a) (after b x) next (label_type r) gs) (λ i. groups_of_switch f (in_switch a) (after b x) next i gs) (label_type r) (label_type s) (label_same r s g (switched_leads e f w b at x) u) (groups_lead e f w (in_switch a) (after b x) next (label_type r) gs)) (λ g gs'. same_leads (switch_of at g gs')))
  stmt_leads e f w a b next (return_from at m) = always _ _ _ refl (gives_leads (returned e b at a.returns m) (returned f b at a.returns m) bare (returned_leads e f w b at a.returns m))
  stmt_leads e f w a b next s = always _ _ _ refl (same_leads (stmt e a b next s))

  pub block_leads : (e f : Env) → Alike e f → (a : Around) (b : Before) (next : Next) (is : BlockItems) → LeadsTo (held_by_block e next is ≡ held_by_block f next is) (items_of_block e a b next is) (items_of_block f a b next is)
  block_leads e f w a b next no_block_items = (refl, refl)
  block_leads e f w a b next (block_decl d is) =
      let e' : Env = behind_decl e next d in
      let f' : Env = behind_decl f next d in
      let later : Next = past_names next (names_of_decl d) in
      parts_at (PartFacts e' f' (held_by_decl e next d) (held_by_decl f next d)) (held_by_block e' later is ≡ held_by_block f' later is) _ (local_decl e b next d) (local_decl f b next d) (λ y. items_of_block e' a y later is) (λ y. items_of_block f' a y later is) (after_decl e b next d) (after_decl f b next d) (λ p q. fine (some_more p q))
      (λ h i. both_lists _ _ _ _ h.1 i) (λ h. ap (past b (calls_of_decl d)) h.1) (decl_leads e f w b next d) (λ h. block_leads e' f' h.0 a (after_decl e b next d) later is)
  block_leads e f w a b next (block_stmt s is) =
      let later : Next = past_names next (names_of_stmt s) in
      parts_at (Same e f next s) (held_by_block e later is ≡ held_by_block f later is) _ (stmt e a b next s) (stmt f a b next s) (λ y. items_of_block e a y later is) (λ y. items_of_block f a y later is) (after_stmt e b next s) (after_stmt f b next s) (λ p q. fine (one_more p q))
      (λ h i. both_lists _ _ _ _ h i) (λ h. ap (past b (calls_of_stmt s)) h) (stmt_leads e f w a b next s) (λ _. block_leads e f w a (after_stmt e b next s) later is)

  stmts_lead : (e f : Env) → Alike e f → (a : Around) (b : Before) (next : Next) (ss : Stmts) → LeadsTo (held_by_stmts e next ss ≡ held_by_stmts f next ss) (stmts e a b next ss) (stmts f a b next ss)
  stmts_lead e f w a b next no_stmts = (refl, refl)
  stmts_lead e f w a b next (more_stmts s ss) =
      let later : Next = past_names next (names_of_stmt s) in
      parts_at (Same e f next s) (held_by_stmts e later ss ≡ held_by_stmts f later ss) _ (stmt e a b next s) (stmt f a b next s) (λ y. stmts e a y later ss) (λ y. stmts f a y later ss) (after_stmt e b next s) (after_stmt f b next s) (λ p q. fine (one_more p q))
      (λ h i. both_lists _ _ _ _ h i) (λ h. ap (past b (calls_of_stmt s)) h) (stmt_leads e f w a b next s) (λ _. stmts_lead e f w a (after_stmt e b next s) later ss)

  groups_lead : (e f : Env) → Alike e f → (a : Around) (b : Before) (next : Next) (i : IntType) (gs : Groups) → LeadsTo (held_by_groups e next gs ≡ held_by_groups f next gs) (groups_of_switch e a b next i gs) (groups_of_switch f a b next i gs)
  groups_lead e f w a b next i no_groups = (refl, refl)
  groups_lead e f w a b next i (more_groups ls ss gs) =
      let later : Next = past_names next (names_of_stmts ss) in
      let P : Type 0 = held_by_stmts e next ss ≡ held_by_stmts f next ss in
      let Q : Type 0 = held_by_groups e later gs ≡ held_by_groups f later gs in
      parts_to (Unit {0}) (P × Q) _ (labels_of e i ls) (labels_of f i ls) (beside (stmts e a b next ss) (groups_of_switch e a (after_stmts e b next ss) later i gs)) (beside (stmts f a b next ss) (groups_of_switch f a (after_stmts f b next ss) later i gs)) (λ vs y. fine (labelled vs y.first y.second))
      (λ _ h. both_lists _ _ _ _ h.0 h.1) (labels_lead e f w i ls)
      (λ _. parts_at P Q _ (stmts e a b next ss) (stmts f a b next ss) (λ y. groups_of_switch e a y later i gs) (λ y. groups_of_switch f a y later i gs) (after_stmts e b next ss) (after_stmts f b next ss) (λ p q. fine (record { first = p; second = q })) (λ h i. (h, i)) (λ h. ap (past b (calls_of_stmts ss)) h) (stmts_lead e f w a b next ss) (λ _. groups_lead e f w a (after_stmts e b next ss) later i gs))
