-- Statements that the rules type where each name is right in a program are right in it, in a function whose variables are those that they declare.
use Rattle.std.proofs.Common.{◌≡◌, ℕ, ◌+◌, ◌≤◌, Bool, true, false, not, List, [], ◌∷◌, ◌++◌, All, refl, ap, sym, subst, ◌∙◌, arith}
use Rattle.std.proofs.lemmas.Bool.{not-true}
use Rattle.std.specs.Prelude.{IsTrue}
use Rattle.std.proofs.lemmas.List.Elements.{All-cons}
use Rattle.c_tree.specs.declared.value.IntType.{IntType}
use Rattle.c_tree.specs.declared.tree.TLabel.{TLabel}
use Rattle.c_tree.specs.declared.tree.TLabel.TheVariants.{Case, Default}
use Rattle.c_tree.specs.Tree.{CType, integer, Program}
use Rattle.c_tree.specs.Tree as typed
use Rattle.c_tree.specs.Operands.{IsScalar, IsPromoted, promoted}
use Rattle.c_tree.specs.Operators.{value_of}
use Rattle.c_tree.specs.Typed.{IsCondition, IsTest, IsStep, IsFirst, AreFirst, IsLabel, defaults_among, defaults, IsStmt, AreStmts, AreGroups}
use Rattle.c_tree.proofs.OperatorLemmas.{value_of_type}
use Rattle.c_syntax.specs.Tree.{Expr, Maybe, absent, there, First, first_absent, first_expr, first_decl, Labels, no_labels, case_label, default_label}
use Rattle.c_syntax.specs.Tree.{Stmt, block, empty, evaluate, only_if, if_else, while_loop, do_loop, for_loop, switch_on, break_off, continue_on, return_from}
use Rattle.c_syntax.specs.Tree.{BlockItems, no_block_items, block_decl, block_stmt, Stmts, no_stmts, more_stmts, Groups, no_groups, more_groups}
use Rattle.c_rules.specs.Checked.{Checked, fine, faulty, on, both, beside}
use Rattle.c_rules.specs.Names.{Name}
use Rattle.c_rules.specs.Types.{is_void}
use Rattle.c_rules.specs.Scopes.{Env, inside, layout_of, Before}
use Rattle.c_rules.specs.Constants.{number_of}
use Rattle.c_rules.specs.Counts.{place_of, calls, strings, calls_of_maybe, strings_of_maybe, after, after_maybe}
use Rattle.c_rules.specs.TypedExpression.{TypedExpression, tree_of}
use Rattle.c_rules.specs.Conversions.{Kind, an_integer, kind_of, as_if_assigned, condition}
use Rattle.c_rules.specs.PrimaryExpressions.{string_number}
use Rattle.c_rules.specs.Declarators.{constant_value}
use Rattle.c_rules.specs.Expressions.{value, folded_value}
use Rattle.c_rules.specs.Variables.{Next, past_names, names_of_decl, names_of_first, names_of_stmt, names_of_block, names_of_stmts, names_of_groups, calls_of_decl, calls_of_first, calls_of_stmt, calls_of_stmts}
use Rattle.c_rules.specs.Blocks.{behind_decl, behind_first, held_by_decl, held_by_first, held_by_stmt, held_by_block, held_by_stmts, held_by_groups, after_decl, after_first, after_stmt, after_stmts, StatementTree, bare, with_tree, joined, one_more, alone, appended, some_more, local_decl}
use Rattle.c_rules.specs.Statements.{Around, in_loop, in_switch, condition_at, test_of, step_of, first_of, for_of, switched_kind, switched, label_kind, label_type, labels_of, Labelled, labelled, is_case_of, has_default, are_distinct, switch_of, returned, stmt, items_of_block, stmts, groups_of_switch}
use Rattle.c_rules_laws.specs.Lexical.{IsMaybeLexical, IsFirstLexical, IsStmtLexical, AreItemsLexical, AreStmtsLexical, AreGroupsLexical, IsLexical}
use Rattle.c_rules_laws.specs.RightScopes.{IsRight, StringsIn}
use Rattle.c_rules_laws.proofs.Holding.{Holds, on_holds, both_hold, all_three_hold, demand_holds, and_left, and_right, Any, anything}
use Rattle.c_rules_laws.proofs.Operators.{kind_integer, promoted_is}
use Rattle.c_rules_laws.proofs.RightTypedExpressions.{ValueRight, RightAs, converted_right, fits_scalar, assigned_right, condition_right}
use Rattle.c_rules_laws.proofs.RightExpressions.{strings_first, strings_rest, ValueBoth, value_right}
use Rattle.c_rules_laws.proofs.RightDeclarations.{holds_given, ahead_none, AreKnownSizes, IsStatementTreeRight, right_inside, join_right, decl_right, strings_moved}
use Rattle.c_rules_laws.proofs.SitesOfStatements.{decl_keeps, first_keeps}
use Rattle.c_rules_laws.proofs.MadeTypes.{void_is}

-- ## Labels

labels_both : (ls ms : List TLabel) → defaults_among (ls ++ ms) ≡ defaults_among ls + defaults_among ms
labels_both [] ms = omega arith
labels_both (Case x ∷ ls) ms = labels_both ls ms
labels_both (Default ∷ ls) ms = (let r = labels_both ls ms in omega (arith, r))

no_default : (ls : List TLabel) → has_default ls ≡ false → defaults_among ls ≡ 0
no_default [] h = refl
no_default (Case x ∷ ls) h = no_default ls h
no_default (Default ∷ ls) h = absurd (cc)

one_default : (ls : List TLabel) → are_distinct ls ≡ true → defaults_among ls ≤ 1
one_default [] h = omega arith
one_default (Case x ∷ ls) h = one_default ls (and_right (not (is_case_of x ls)) (are_distinct ls) h)
one_default (Default ∷ ls) h = (let z = no_default ls (not-true (has_default ls) (and_left (not (has_default ls)) (are_distinct ls) h)) in omega (arith, z))

labels_right : (env : Env) (i : IntType) (ls : Labels) → Holds (All (IsLabel i)) (labels_of env i ls)
labels_right env i no_labels = λ k d l. absurd (omega (arith, l))
labels_right env i (case_label at e ls) =
    both_hold Any (All (IsLabel i)) (All (IsLabel i)) (on (folded_value env e) (constant_value (place_of e))) (labels_of env i ls) _ (anything (on (folded_value env e) (constant_value (place_of e)))) (labels_right env i ls) (λ x xs _ h. All-cons (IsLabel i) (Case (value_of i (number_of x))) xs (value_of_type i (number_of x)) h)
labels_right env i (default_label at ls) = on_holds (All (IsLabel i)) (All (IsLabel i)) (labels_of env i ls) _ (labels_right env i ls) (λ xs h. All-cons (IsLabel i) Default xs tt h)

module _ (p : Program) (vars : List CType) where
  -- ## Parts of statements

  abbrev CondRight : Env → typed.Expr → Type 0
  CondRight env c = IsRight p vars env → IsCondition p vars c

  condition_at_right : (env : Env) (b : Before) (at : ℕ) (x : Expr) → IsLexical x → StringsIn p vars (string_number env b) (strings x) → Holds (CondRight env) (condition_at at (value env b x))
  condition_at_right env b at x l s = holds_given (IsRight p vars env) (IsCondition p vars) (condition_at at (value env b x)) (λ w.
      on_holds (ValueBoth p vars env) (IsCondition p vars) (value env b x) (condition at) (value_right p vars x env w l b s) (λ g h. condition_right p vars at g h.1))

  abbrev TestRight : Env → typed.Maybe → Type 0
  TestRight env c = IsRight p vars env → IsTest p vars c

  abbrev StepRight : Env → typed.Maybe → Type 0
  StepRight env c = IsRight p vars env → IsStep p vars c

  test_right : (m : Maybe) (env : Env) (b : Before) (at : ℕ) → IsMaybeLexical m → StringsIn p vars (string_number env b) (strings_of_maybe m) → Holds (TestRight env) (test_of env b at m)
  test_right absent env b at l s = λ _. tt
  test_right (there x) env b at l s = on_holds (CondRight env) (TestRight env) (condition_at at (value env b x)) (λ y. fine (typed.there y)) (condition_at_right env b at x l s) (λ y h. h)

  step_right : (m : Maybe) (env : Env) (b : Before) → IsMaybeLexical m → StringsIn p vars (string_number env b) (strings_of_maybe m) → Holds (StepRight env) (step_of env b m)
  step_right absent env b l s = λ _. tt
  step_right (there x) env b l s =
      on_holds (λ g. IsRight p vars env → ValueBoth p vars env g) (StepRight env) (value env b x) (λ g. fine (typed.there (tree_of g))) (holds_given (IsRight p vars env) (ValueBoth p vars env) (value env b x) (λ w. value_right p vars x env w l b s)) (λ g f w. (f w).1.1)

  -- a part without variables
  bare_right : (A : Type 0) (env : Env) (next : Next) (T : A → Type 0) (a : A) → (IsRight p vars env → T a) → IsStatementTreeRight p vars A env next [] T (bare a)
  bare_right A env next T a f = record { numbers = ahead_none p vars next; plain_sizes = tt; added_sizes = tt; right = λ w q. (f w, tt, tt) }

  tree_right : (A B : Type 0) (env other : Env) (next : Next) (names : List Name) (T : A → Type 0) (U : B → Type 0) (q : StatementTree A) (c : B) → layout_of other ≡ layout_of env → IsStatementTreeRight p vars A other next names T q → (IsRight p vars env → IsRight p vars other) → (T q.tree → IsRight p vars env → U c) → IsStatementTreeRight p vars B env next names U (with_tree q c)
  tree_right A B env other next names T U q c same h g f = record { numbers = h.numbers; plain_sizes = subst (λ z. AreKnownSizes p vars z q.plain) same h.plain_sizes; added_sizes = subst (λ z. AreKnownSizes p vars z q.added) same h.added_sizes; right = λ w x. (let y = h.right (g w) x in (f y.0 w, y.1, y.2)) }

  is_true : (b : Bool) → b ≡ true → IsTrue b
  is_true b e = subst IsTrue (sym e) refl

  first_right : (x : First) (env : Env) (b : Before) (next : Next) → IsFirstLexical x → StringsIn p vars (string_number env b) (held_by_first env next x) → Holds (IsStatementTreeRight p vars typed.Stmts env next (names_of_first x) (λ t. AreFirst p vars t × IsRight p vars (behind_first env next x))) (first_of env b next x)
  first_right first_absent env b next l s = bare_right typed.Stmts env next _ typed.no_stmts (λ w. (tt, w))
  first_right (first_expr x) env b next l s =
      on_holds (λ g. IsRight p vars env → ValueBoth p vars env g) (IsStatementTreeRight p vars typed.Stmts env next [] (λ t. AreFirst p vars t × IsRight p vars env)) (value env b x) (λ g. fine (alone (bare (typed.evaluate (tree_of g)))))
      (holds_given (IsRight p vars env) (ValueBoth p vars env) (value env b x) (λ w. value_right p vars x env w l b s)) (λ g f. bare_right typed.Stmts env next (λ t. AreFirst p vars t × IsRight p vars env) (typed.more_stmts (typed.evaluate (tree_of g)) typed.no_stmts) (λ w. (((f w).1.1, tt), w)))
  first_right (first_decl d) env b next l s = decl_right p vars d env b next l s

  first_is_stmt : (r : CType) (k c : Bool) (s : typed.Stmt) → IsFirst p vars s → IsStmt p vars r k c s
  first_is_stmt r k c (typed.evaluate e) h = h
  first_is_stmt r k c (typed.declare x is) h = h
  first_is_stmt r k c typed.empty h = tt
  first_is_stmt r k c s h = absurd h

  first_appended : (r : CType) (k c : Bool) (ss us : typed.Stmts) → AreFirst p vars ss → AreStmts p vars r k c us → AreStmts p vars r k c (appended ss us)
  first_appended r k c typed.no_stmts us h g = g
  first_appended r k c (typed.more_stmts s ss) us h g = (first_is_stmt r k c s h.0, first_appended r k c ss us h.1 g)

  returned_right : (m : Maybe) (env : Env) (b : Before) (at : ℕ) (t : CType) (k c : Bool) → IsMaybeLexical m → StringsIn p vars (string_number env b) (strings_of_maybe m) → Holds (λ s. IsRight p vars env → IsStmt p vars t k c s) (returned env b at t m)
  returned_right absent env b at t k c l s = demand_holds (λ s. IsRight p vars env → IsStmt p vars t k c s) (is_void t) 3 at typed.return_void (λ e _. void_is t e)
  returned_right (there x) env b at t k c l s =
      holds_given (IsRight p vars env) (IsStmt p vars t k c) (returned env b at t (there x)) (λ w.
      on_holds (λ g. RightAs p vars t g × IsScalar t) (IsStmt p vars t k c) (on (value env b x) (as_if_assigned at t)) (λ g. fine (typed.return_value (tree_of g)))
      (on_holds (ValueBoth p vars env) (λ g. RightAs p vars t g × IsScalar t) (value env b x) (as_if_assigned at t) (value_right p vars x env w l b s) (λ g h. demand_holds (λ g. RightAs p vars t g × IsScalar t) _ 3 at _ (λ q. (assigned_right p vars t g q h.1, fits_scalar t g q))))
      (λ g h. (h.1, h.0.0.0 ∙ h.0.1, h.0.0.1)))

  -- ## switch

  switched_kind_right : (env : Env) (at : ℕ) (g : TypedExpression) (k : Kind) → kind_of g.ctype ≡ k → (IsRight p vars env → ValueRight p vars g) → Holds (λ h. IsRight p vars env → (i : IntType) × (h.ctype ≡ integer i) × IsPromoted i × ValueRight p vars h) (switched_kind at g k)
  switched_kind_right env at g (an_integer i) e f = λ w. (let c = converted_right p vars (promoted i) g (i, kind_integer g.ctype i e) (f w) in (promoted i, c.1, promoted_is i, c.0))
  switched_kind_right env at g k e f = tt

  label_type_is : (t : CType) (i : IntType) → t ≡ integer i → label_kind (kind_of t) ≡ i
  label_type_is t i e = ap (λ u. label_kind (kind_of u)) e

  abbrev pub StmtRight : Env → Around → Next → List Name → StatementTree typed.Stmt → Type 0
  StmtRight env a next names q = IsStatementTreeRight p vars typed.Stmt env next names (IsStmt p vars a.returns a.breaks a.continues) q

  abbrev pub StmtsRight : Env → Around → Next → List Name → StatementTree typed.Stmts → Type 0
  StmtsRight env a next names q = IsStatementTreeRight p vars typed.Stmts env next names (AreStmts p vars a.returns a.breaks a.continues) q

  pub record AreGroupsRight (env : Env) (a : Around) (next : Next) (names : List Name) (i : IntType) (l : Labelled) : Type 0 where
    pub laid : IsStatementTreeRight p vars typed.Groups env next names (AreGroups p vars a.returns a.continues i) l.groups
    pub counted : defaults l.groups.tree ≡ defaults_among l.labels

  switch_groups : (env : Env) (at : ℕ) (a : Around) (next : Next) (names : List Name) (g : TypedExpression) (r : Checked Labelled) → (IsRight p vars env → (i : IntType) × (g.ctype ≡ integer i) × IsPromoted i × ValueRight p vars g)
      → Holds (AreGroupsRight env (in_switch a) next names (label_kind (kind_of g.ctype))) r → Holds (StmtRight env a next names) (both (fine g) r (switch_of at))
  switch_groups env at a next names g (fine l) f k =
      demand_holds (StmtRight env a next names) (are_distinct l.labels) 7 at _ (λ d.
      tree_right typed.Groups typed.Stmt env env next names (AreGroups p vars a.returns a.continues (label_kind (kind_of g.ctype))) (IsStmt p vars a.returns a.breaks a.continues) l.groups (typed.switch_on (tree_of g) l.groups.tree) refl k.laid (λ w. w)
      (λ gs w. (let t = f w in (t.0, t.3.0 ∙ t.1, t.2, t.3.1, subst (λ n. n ≤ 1) (sym k.counted) (one_default l.labels d), subst (λ j. AreGroups p vars a.returns a.continues j l.groups.tree) (label_type_is g.ctype t.0 t.1) gs))))
  switch_groups env at a next names g (faulty f fs) h k = tt

  switch_right : (env : Env) (at : ℕ) (a : Around) (next : Next) (names : List Name) (r : Checked TypedExpression) (groups : IntType → Checked Labelled)
      → Holds (λ h. IsRight p vars env → (i : IntType) × (h.ctype ≡ integer i) × IsPromoted i × ValueRight p vars h) r
      → ((i : IntType) → Holds (AreGroupsRight env (in_switch a) next names i) (groups i)) → Holds (StmtRight env a next names) (both r (groups (label_type r)) (switch_of at))
  switch_right env at a next names (fine g) groups f h = switch_groups env at a next names g (groups (label_kind (kind_of g.ctype))) f (h (label_kind (kind_of g.ctype)))
  switch_right env at a next names (faulty f fs) groups h k = tt

  -- ## Statements

  mutual
    pub stmt_right : (s : Stmt) (env : Env) (a : Around) (b : Before) (next : Next) → IsStmtLexical s → StringsIn p vars (string_number env b) (held_by_stmt env next s) → Holds (StmtRight env a next (names_of_stmt s)) (stmt env a b next s)
    stmt_right (block at is) env a b next l s =
        on_holds (StmtsRight (inside env) a next (names_of_block is)) (StmtRight env a next (names_of_block is)) (items_of_block (inside env) a b next is) (λ q. fine (with_tree q (typed.block q.tree))) (block_right is (inside env) a b next l s)
        (λ q h. tree_right typed.Stmts typed.Stmt env (inside env) next (names_of_block is) (AreStmts p vars a.returns a.breaks a.continues) (IsStmt p vars a.returns a.breaks a.continues) q (typed.block q.tree) refl h (right_inside p vars env) (λ x _. x))
    stmt_right (empty at) env a b next l s = bare_right typed.Stmt env next (IsStmt p vars a.returns a.breaks a.continues) typed.empty (λ _. tt)
    stmt_right (evaluate at x) env a b next l s =
        on_holds (λ g. IsRight p vars env → ValueBoth p vars env g) (StmtRight env a next []) (value env b x) (λ g. fine (bare (typed.evaluate (tree_of g))))
        (holds_given (IsRight p vars env) (ValueBoth p vars env) (value env b x) (λ w. value_right p vars x env w l b s)) (λ g f. bare_right typed.Stmt env next (IsStmt p vars a.returns a.breaks a.continues) (typed.evaluate (tree_of g)) (λ w. (f w).1.1))
    stmt_right (only_if at x t) env a b next l s =
        both_hold (CondRight env) (StmtRight env a next (names_of_stmt t)) (StmtRight env a next (names_of_stmt t)) (condition_at at (value env b x)) (stmt env a (after b x) next t) (λ c q. fine (with_tree q (typed.if_else c q.tree typed.empty)))
        (condition_at_right env b at x l.0 (strings_first p vars (string_number env b) (strings x) (held_by_stmt env next t) s)) (stmt_right t env a (after b x) next l.1 (strings_rest p vars env b (calls x) (strings x) (held_by_stmt env next t) s))
        (λ c q f h. tree_right typed.Stmt typed.Stmt env env next (names_of_stmt t) (IsStmt p vars a.returns a.breaks a.continues) (IsStmt p vars a.returns a.breaks a.continues) q (typed.if_else c q.tree typed.empty) refl h (λ w. w) (λ y w. (f w, y, tt)))
    stmt_right (if_else at x t u) env a b next l s =
        let names = past_names next (names_of_stmt t) in
        let b2 = after_stmt env (after b x) next t in
        let rest = strings_rest p vars env b (calls x) (strings x) (held_by_stmt env next t ++ held_by_stmt env names u) s in
        all_three_hold (CondRight env) (StmtRight env a next (names_of_stmt t)) (StmtRight env a names (names_of_stmt u)) (StmtRight env a next (names_of_stmt t ++ names_of_stmt u))
        (condition_at at (value env b x)) (stmt env a (after b x) next t) (stmt env a b2 names u) (λ c q r. fine (joined q r (typed.if_else c q.tree r.tree)))
        (condition_at_right env b at x l.0 (strings_first p vars (string_number env b) (strings x) (held_by_stmt env next t ++ held_by_stmt env names u) s))
        (stmt_right t env a (after b x) next l.1 (strings_first p vars (string_number env (after b x)) (held_by_stmt env next t) (held_by_stmt env names u) rest))
        (stmt_right u env a b2 names l.2 (strings_rest p vars env (after b x) (calls_of_stmt t) (held_by_stmt env next t) (held_by_stmt env names u) rest))
        (λ c q r f h k. join_right p vars typed.Stmt typed.Stmt typed.Stmt env env next (names_of_stmt t) (names_of_stmt u) (IsStmt p vars a.returns a.breaks a.continues) (IsStmt p vars a.returns a.breaks a.continues) (IsStmt p vars a.returns a.breaks a.continues) q r (typed.if_else c q.tree r.tree) refl h k (λ _ w. w) (λ y z w. (f w, y, z)))
    stmt_right (while_loop at x t) env a b next l s =
        both_hold (CondRight env) (StmtRight env (in_loop a) next (names_of_stmt t)) (StmtRight env a next (names_of_stmt t)) (condition_at at (value env b x)) (stmt env (in_loop a) (after b x) next t) (λ c q. fine (with_tree q (typed.while_loop c q.tree)))
        (condition_at_right env b at x l.0 (strings_first p vars (string_number env b) (strings x) (held_by_stmt env next t) s)) (stmt_right t env (in_loop a) (after b x) next l.1 (strings_rest p vars env b (calls x) (strings x) (held_by_stmt env next t) s))
        (λ c q f h. tree_right typed.Stmt typed.Stmt env env next (names_of_stmt t) (IsStmt p vars a.returns true true) (IsStmt p vars a.returns a.breaks a.continues) q (typed.while_loop c q.tree) refl h (λ w. w) (λ y w. (f w, y)))
    stmt_right (do_loop at t x) env a b next l s =
        both_hold (StmtRight env (in_loop a) next (names_of_stmt t)) (CondRight env) (StmtRight env a next (names_of_stmt t)) (stmt env (in_loop a) b next t) (condition_at at (value env (after_stmt env b next t) x)) (λ q c. fine (with_tree q (typed.do_loop q.tree c)))
        (stmt_right t env (in_loop a) b next l.0 (strings_first p vars (string_number env b) (held_by_stmt env next t) (strings x) s)) (condition_at_right env (after_stmt env b next t) at x l.1 (strings_rest p vars env b (calls_of_stmt t) (held_by_stmt env next t) (strings x) s))
        (λ q c h f. tree_right typed.Stmt typed.Stmt env env next (names_of_stmt t) (IsStmt p vars a.returns true true) (IsStmt p vars a.returns a.breaks a.continues) q (typed.do_loop q.tree c) refl h (λ w. w) (λ y w. (y, f w)))
    stmt_right (for_loop at first test step t) env a b next l s =
        let outer = inside env in
        let inner = behind_first outer next first in
        let b1 = after_first outer b next first in
        let b2 = after_maybe b1 test in
        let b3 = after_maybe b2 step in
        let names = past_names next (names_of_first first) in
        let s1 = strings_moved p vars outer inner b1 (strings_of_maybe test ++ (strings_of_maybe step ++ held_by_stmt inner names t)) (first_keeps (λ e. e.whole) (λ _ _ _. refl) first outer next) (strings_rest p vars outer b (calls_of_first first) (held_by_first outer next first) (strings_of_maybe test ++ (strings_of_maybe step ++ held_by_stmt inner names t)) s) in
        let s2 = strings_rest p vars inner b1 (calls_of_maybe test) (strings_of_maybe test) (strings_of_maybe step ++ held_by_stmt inner names t) s1 in
        all_three_hold (IsStatementTreeRight p vars typed.Stmts outer next (names_of_first first) (λ y. AreFirst p vars y × IsRight p vars inner)) (λ c. TestRight inner c.first × StepRight inner c.second) (StmtRight inner (in_loop a) names (names_of_stmt t)) (StmtRight env a next (names_of_first first ++ names_of_stmt t))
        (first_of outer b next first) (beside (test_of inner b1 at test) (step_of inner b2 step)) (stmt inner (in_loop a) b3 names t) (λ q tests r. fine (for_of q tests r))
        (first_right first outer b next l.0 (strings_first p vars (string_number outer b) (held_by_first outer next first) (strings_of_maybe test ++ (strings_of_maybe step ++ held_by_stmt inner names t)) s))
        (both_hold (TestRight inner) (StepRight inner) (λ c. TestRight inner c.first × StepRight inner c.second) (test_of inner b1 at test) (step_of inner b2 step) (λ x y. fine (record { first = x; second = y }))
        (test_right test inner b1 at l.1 (strings_first p vars (string_number inner b1) (strings_of_maybe test) (strings_of_maybe step ++ held_by_stmt inner names t) s1)) (step_right step inner b2 l.2 (strings_first p vars (string_number inner b2) (strings_of_maybe step) (held_by_stmt inner names t) s2)) (λ x y h k. (h, k)))
        (stmt_right t inner (in_loop a) b3 names l.3 (strings_rest p vars inner b2 (calls_of_maybe step) (strings_of_maybe step) (held_by_stmt inner names t) s2))
        (λ q c r h f k. tree_right typed.Stmt typed.Stmt env outer next (names_of_first first ++ names_of_stmt t) (IsStmt p vars a.returns a.breaks a.continues) (IsStmt p vars a.returns a.breaks a.continues) (for_of q c r) (typed.for_loop q.tree c.first c.second r.tree) refl
        (join_right p vars typed.Stmts typed.Stmt typed.Stmt outer inner next (names_of_first first) (names_of_stmt t) (λ y. AreFirst p vars y × IsRight p vars inner) (IsStmt p vars a.returns true true) (IsStmt p vars a.returns a.breaks a.continues) q r (typed.for_loop q.tree c.first c.second r.tree) (first_keeps layout_of (λ _ _ _. refl) first outer next) h k (λ y _. y.1) (λ y z w. (y.0, f.0 y.1, f.1 y.1, z))) (right_inside p vars env) (λ x _. x))
    stmt_right (switch_on at x gs) env a b next l s =
        switch_right env at a next (names_of_groups gs) (switched at (value env b x)) (λ i. groups_of_switch env (in_switch a) (after b x) next i gs)
        (on_holds (λ g. IsRight p vars env → ValueBoth p vars env g) (λ h. IsRight p vars env → (i : IntType) × (h.ctype ≡ integer i) × IsPromoted i × ValueRight p vars h) (value env b x) (λ g. switched_kind at g (kind_of g.ctype))
        (holds_given (IsRight p vars env) (ValueBoth p vars env) (value env b x) (λ w. value_right p vars x env w l.0 b (strings_first p vars (string_number env b) (strings x) (held_by_groups env next gs) s))) (λ g f. switched_kind_right env at g (kind_of g.ctype) refl (λ w. (f w).1)))
        (λ i. groups_right gs env (in_switch a) (after b x) next i l.1 (strings_rest p vars env b (calls x) (strings x) (held_by_groups env next gs) s))
    stmt_right (break_off at) env a b next l s = demand_holds (StmtRight env a next []) a.breaks 8 at (bare typed.break_off) (λ e. bare_right typed.Stmt env next (IsStmt p vars a.returns a.breaks a.continues) typed.break_off (λ _. is_true a.breaks e))
    stmt_right (continue_on at) env a b next l s = demand_holds (StmtRight env a next []) a.continues 8 at (bare typed.continue_on) (λ e. bare_right typed.Stmt env next (IsStmt p vars a.returns a.breaks a.continues) typed.continue_on (λ _. is_true a.continues e))
    stmt_right (return_from at m) env a b next l s =
        on_holds (λ t. IsRight p vars env → IsStmt p vars a.returns a.breaks a.continues t) (StmtRight env a next []) (returned env b at a.returns m) (λ t. fine (bare t)) (returned_right m env b at a.returns a.breaks a.continues l s) (λ t f. bare_right typed.Stmt env next (IsStmt p vars a.returns a.breaks a.continues) t f)

    pub block_right : (is : BlockItems) (env : Env) (a : Around) (b : Before) (next : Next) → AreItemsLexical is → StringsIn p vars (string_number env b) (held_by_block env next is) → Holds (StmtsRight env a next (names_of_block is)) (items_of_block env a b next is)
    block_right no_block_items env a b next l s = bare_right typed.Stmts env next (AreStmts p vars a.returns a.breaks a.continues) typed.no_stmts (λ _. tt)
    block_right (block_decl d is) env a b next l s =
        let names = past_names next (names_of_decl d) in
        let inner = behind_decl env next d in
        both_hold (IsStatementTreeRight p vars typed.Stmts env next (names_of_decl d) (λ y. AreFirst p vars y × IsRight p vars inner)) (StmtsRight inner a names (names_of_block is)) (StmtsRight env a next (names_of_decl d ++ names_of_block is))
        (local_decl env b next d) (items_of_block inner a (after_decl env b next d) names is) (λ q r. fine (some_more q r))
        (decl_right p vars d env b next l.0 (strings_first p vars (string_number env b) (held_by_decl env next d) (held_by_block inner names is) s))
        (block_right is inner a (after_decl env b next d) names l.1 (strings_moved p vars env inner (after_decl env b next d) (held_by_block inner names is) (decl_keeps (λ e. e.whole) (λ _ _ _. refl) d env next) (strings_rest p vars env b (calls_of_decl d) (held_by_decl env next d) (held_by_block inner names is) s)))
        (λ q r h k. join_right p vars typed.Stmts typed.Stmts typed.Stmts env inner next (names_of_decl d) (names_of_block is) (λ y. AreFirst p vars y × IsRight p vars inner) (AreStmts p vars a.returns a.breaks a.continues) (AreStmts p vars a.returns a.breaks a.continues) q r (appended q.tree r.tree) (decl_keeps layout_of (λ _ _ _. refl) d env next) h k (λ y _. y.1) (λ y z _. first_appended a.returns a.breaks a.continues q.tree r.tree y.0 z))
    block_right (block_stmt t is) env a b next l s =
        let names = past_names next (names_of_stmt t) in
        both_hold (StmtRight env a next (names_of_stmt t)) (StmtsRight env a names (names_of_block is)) (StmtsRight env a next (names_of_stmt t ++ names_of_block is))
        (stmt env a b next t) (items_of_block env a (after_stmt env b next t) names is) (λ q r. fine (one_more q r))
        (stmt_right t env a b next l.0 (strings_first p vars (string_number env b) (held_by_stmt env next t) (held_by_block env names is) s)) (block_right is env a (after_stmt env b next t) names l.1 (strings_rest p vars env b (calls_of_stmt t) (held_by_stmt env next t) (held_by_block env names is) s))
        (λ q r h k. join_right p vars typed.Stmt typed.Stmts typed.Stmts env env next (names_of_stmt t) (names_of_block is) (IsStmt p vars a.returns a.breaks a.continues) (AreStmts p vars a.returns a.breaks a.continues) (AreStmts p vars a.returns a.breaks a.continues) q r (typed.more_stmts q.tree r.tree) refl h k (λ _ w. w) (λ y z _. (y, z)))

    stmts_right : (ss : Stmts) (env : Env) (a : Around) (b : Before) (next : Next) → AreStmtsLexical ss → StringsIn p vars (string_number env b) (held_by_stmts env next ss) → Holds (StmtsRight env a next (names_of_stmts ss)) (stmts env a b next ss)
    stmts_right no_stmts env a b next l s = bare_right typed.Stmts env next (AreStmts p vars a.returns a.breaks a.continues) typed.no_stmts (λ _. tt)
    stmts_right (more_stmts t ss) env a b next l s =
        let names = past_names next (names_of_stmt t) in
        both_hold (StmtRight env a next (names_of_stmt t)) (StmtsRight env a names (names_of_stmts ss)) (StmtsRight env a next (names_of_stmt t ++ names_of_stmts ss))
        (stmt env a b next t) (stmts env a (after_stmt env b next t) names ss) (λ q r. fine (one_more q r))
        (stmt_right t env a b next l.0 (strings_first p vars (string_number env b) (held_by_stmt env next t) (held_by_stmts env names ss) s)) (stmts_right ss env a (after_stmt env b next t) names l.1 (strings_rest p vars env b (calls_of_stmt t) (held_by_stmt env next t) (held_by_stmts env names ss) s))
        (λ q r h k. join_right p vars typed.Stmt typed.Stmts typed.Stmts env env next (names_of_stmt t) (names_of_stmts ss) (IsStmt p vars a.returns a.breaks a.continues) (AreStmts p vars a.returns a.breaks a.continues) (AreStmts p vars a.returns a.breaks a.continues) q r (typed.more_stmts q.tree r.tree) refl h k (λ _ w. w) (λ y z _. (y, z)))

    groups_right : (gs : Groups) (env : Env) (a : Around) (b : Before) (next : Next) (i : IntType) → AreGroupsLexical gs → StringsIn p vars (string_number env b) (held_by_groups env next gs) → Holds (AreGroupsRight env (in_switch a) next (names_of_groups gs) i) (groups_of_switch env (in_switch a) b next i gs)
    groups_right no_groups env a b next i l s = record { laid = bare_right typed.Groups env next (AreGroups p vars a.returns a.continues i) typed.no_groups (λ _. tt); counted = refl }
    groups_right (more_groups ls ss gs) env a b next i l s =
        let names = past_names next (names_of_stmts ss) in
        all_three_hold (All (IsLabel i)) (StmtsRight env (in_switch a) next (names_of_stmts ss)) (AreGroupsRight env (in_switch a) names (names_of_groups gs) i) (AreGroupsRight env (in_switch a) next (names_of_stmts ss ++ names_of_groups gs) i)
        (labels_of env i ls) (stmts env (in_switch a) b next ss) (groups_of_switch env (in_switch a) (after_stmts env b next ss) names i gs) (λ vs q rest. fine (labelled vs q rest)) (labels_right env i ls)
        (stmts_right ss env (in_switch a) b next l.0 (strings_first p vars (string_number env b) (held_by_stmts env next ss) (held_by_groups env names gs) s)) (groups_right gs env a (after_stmts env b next ss) names i l.1 (strings_rest p vars env b (calls_of_stmts ss) (held_by_stmts env next ss) (held_by_groups env names gs) s))
        (λ vs q r v h k. record {
          laid = join_right p vars typed.Stmts typed.Groups typed.Groups env env next (names_of_stmts ss) (names_of_groups gs) (AreStmts p vars a.returns true a.continues) (AreGroups p vars a.returns a.continues i) (AreGroups p vars a.returns a.continues i) q r.groups (typed.more_groups vs q.tree r.groups.tree) refl h k.laid (λ _ w. w) (λ y z _. (v, y, z));
          counted = (let c = k.counted in let d = labels_both vs r.labels in omega (arith, c, d));
        })
