-- The sites in statements are the numbers from that of the calls before them on; and the limits on calls and strings hold.
use Rattle.std.proofs.Common.{◌≡◌, ℕ, suc, ◌+◌, List, [], ◌∷◌, ◌++◌, Option, Some, None, refl, ap, ap₂, sym, subst, ◌∙◌}
use Rattle.c_tree.specs.declared.value.IntType.{IntType}
use Rattle.c_tree.specs.Tree.{CType, CTypes, more_types}
use Rattle.c_tree.specs.Tree as typed
use Rattle.c_tree.specs.Sites.{sites_of, sites_of_maybe, sites_of_inits, sites_of_stmt, sites_of_stmts, sites_of_groups}
use Rattle.c_tree.specs.Operands.{promoted}
use Rattle.c_syntax.specs.Tree as syntax
use Rattle.c_syntax.specs.Tree.{Ident, Spec, Declarator, Init, one, list, MaybeInit, no_init, an_init, Parts, no_parts, more_parts, Decl, decl, Expr, Maybe, absent, there, First, first_absent, first_expr, first_decl, Params, more_params}
use Rattle.c_syntax.specs.Tree.{Stmt, block, empty, evaluate, only_if, if_else, while_loop, do_loop, for_loop, switch_on, break_off, continue_on, return_from}
use Rattle.c_syntax.specs.Tree.{BlockItems, no_block_items, block_decl, block_stmt, Stmts, no_stmts, more_stmts, Groups, no_groups, more_groups}
use Rattle.c_rules.specs.Checked.{Checked, fine, faulty, on, both, beside, Met}
use Rattle.c_rules.specs.Names.{Name, is_added}
use Rattle.c_rules.specs.Scopes.{Env, Meaning, evaluated, inside, with_name, Before}
use Rattle.c_rules.specs.Counts.{calls, strings, calls_of_maybe, strings_of_maybe, past, after, after_maybe}
use Rattle.c_rules.specs.TypedExpression.{TypedExpression, tree_of}
use Rattle.c_rules.specs.Conversions.{Kind, an_integer, kind_of, as_if_assigned, condition}
use Rattle.c_rules.specs.Declarators.{name_of, new_name, place_or}
use Rattle.c_rules.specs.Expressions.{value, type_declared}
use Rattle.c_rules.specs.Initialisers.{Slots, copies, each, slots, calls_of_maybe_init, held, held_in_turn, held_by, initialised_local, stores_from}
use Rattle.c_rules.specs.Objects.{Object, object_declared}
use Rattle.c_rules.specs.Variables.{Next, number_in, past_names, names_of_decl, names_of_first, names_of_stmt, names_of_stmts, calls_of_parts, calls_of_decl, calls_of_first, calls_of_stmt, calls_of_block, calls_of_stmts, calls_of_groups}
use Rattle.c_rules.specs.Blocks.{within_local, behind_named, behind_part, past_part, behind_parts, behind_decl, behind_first, held_by_object, held_by_named, held_by_part, held_by_parts, held_by_decl, held_by_first, held_by_stmt, held_by_block, held_by_stmts, held_by_groups, after_part, after_decl, after_first, after_stmt, after_stmts, StatementTree, bare, with_tree, joined, one_more, alone, some_more, local_of, local, local_named, local_part, local_parts, local_decl, is_given}
use Rattle.c_rules.specs.Statements.{Around, in_loop, in_switch, condition_at, test_of, step_of, first_of, for_of, switched_kind, switched, label_type, labels_of, Labelled, labelled, switch_of, returned, stmt, items_of_block, stmts, groups_of_switch}
use Rattle.c_rules_laws.proofs.Holding.{Holds, on_holds, both_hold, all_three_hold, Any, anything, demand_holds, alone_holds, either}
use Rattle.c_rules_laws.proofs.SitesOfExpressions.{fits_none, fits_both, FitsAt, Span, Counted, holds_with, range_append, value_counted}
use Rattle.c_rules_laws.proofs.RightInitialisers.{InitCounted, local_counted}
use Rattle.c_rules.proofs.NothingMore.{nothing_more}
use Rattle.c_rules_laws.proofs.GatheredOfTypedExpressions.{Gathers, stores_gathered, appended_gathered, condition_gathered, as_if_gathered, converted_gathered}
use Rattle.c_tree.specs.Sites.{all_sites}
use Rattle.c_rules.specs.Functions.{with_parameter, with_parameters}

-- these are the sites of a part, with so many calls and these strings
abbrev pub IsSpan : Before → ℕ → List (List ℕ) → List ℕ → Type 0
IsSpan b n ws xs = (xs ≡ Span b n) × FitsAt 30000 b n ws

pub span_both : (b : Before) (n m : ℕ) (ws vs : List (List ℕ)) (xs ys : List ℕ) → IsSpan b n ws xs → IsSpan (past b n ws) m vs ys → IsSpan b (n + m) (ws ++ vs) (xs ++ ys)
span_both b n m ws vs xs ys h k = (ap₂ (λ x y. x ++ y) h.0 k.0 ∙ sym (range_append b.sites n m), fits_both 30000 b.sites b.cells n m ws vs h.1 k.1)

span_none : (b : Before) → IsSpan b 0 [] []
span_none b = (refl, fits_none 30000 b.sites b.cells)

span_alone : (b : Before) (n : ℕ) (ws : List (List ℕ)) (xs : List ℕ) → IsSpan b n ws xs → IsSpan b n ws (xs ++ [])
span_alone b n ws xs h = (nothing_more xs ∙ h.0, h.1)

-- ## Declarations

-- what a name in scope doesn't change, declarations don't
module _ {A : Type 0} (F : Env → A) (same : (env : Env) (x : Name) (m : Meaning) → F (with_name env x m) ≡ F env) where
  pub named_keeps : (env : Env) (next : Next) (at : ℕ) (s : Spec) (d : Declarator) (m : MaybeInit) (o : Option Ident) → F (behind_named env next at s d m o) ≡ F env
  named_keeps env next at s d m None = refl
  named_keeps env next at s d m (Some x) = same env x.name _

  parts_keep : (ps : Parts) (env : Env) (next : Next) (at : ℕ) (s : Spec) → F (behind_parts env next at s ps) ≡ F env
  parts_keep no_parts env next at s = refl
  parts_keep (more_parts d m ps) env next at s = parts_keep ps (behind_part env next at s d m) (past_part next d) at s ∙ named_keeps env next at s d m (name_of d)

  pub decl_keeps : (d : Decl) (env : Env) (next : Next) → F (behind_decl env next d) ≡ F env
  decl_keeps (decl at class s ps) env next = parts_keep ps env next at s

  pub first_keeps : (x : First) (env : Env) (next : Next) → F (behind_first env next x) ≡ F env
  first_keeps (first_decl d) env next = decl_keeps d env next
  first_keeps x env next = refl

  pub parameter_keeps : (env : Env) (k : ℕ) (o : Option Ident) (t : CType) → F (with_parameter env k o t) ≡ F env
  parameter_keeps env k None t = refl
  parameter_keeps env k (Some x) t = same env x.name _

  pub params_keep : (ps : Params) (ts : CTypes) (env : Env) (k : ℕ) → F (with_parameters env k ps ts) ≡ F env
  params_keep (more_params at s d ps) (more_types t ts) env k = params_keep ps ts (with_parameter env k (name_of d) t) (suc k) ∙ parameter_keeps env k (name_of d) t
  params_keep ps ts env k = refl

abbrev pub StmtSpan : Before → ℕ → List (List ℕ) → StatementTree typed.Stmt → Type 0
StmtSpan b n ws p = IsSpan b n ws (sites_of_stmt p.tree)

abbrev pub StmtsSpan : Before → ℕ → List (List ℕ) → StatementTree typed.Stmts → Type 0
StmtsSpan b n ws p = IsSpan b n ws (sites_of_stmts p.tree)

-- a name in scope changes nothing of which strings an initialiser holds
mutual
  held_named : (i : Init) (env : Env) (x : Name) (m : Meaning) (t : CType) → held (with_name env x m) t i ≡ held env t i
  held_named (one at e) env x m t = refl
  held_named (list at is) env x m t = turn_named is env x m (slots env t)

  turn_named : (is : syntax.Inits) (env : Env) (x : Name) (m : Meaning) (s : Slots) → held_in_turn (with_name env x m) s is ≡ held_in_turn env s is
  turn_named (syntax.more_inits i is) env x m (copies (suc n) t) = ap₂ (λ v w. v ++ w) (held_named i env x m t) (turn_named is env x m (copies n t))
  turn_named (syntax.more_inits i is) env x m (each (t ∷ ts)) = ap₂ (λ v w. v ++ w) (held_named i env x m t) (turn_named is env x m (each ts))
  turn_named is env x m s = refl

pub held_by_named_same : (i : MaybeInit) (env : Env) (x : Name) (m : Meaning) (t : CType) → held_by (with_name env x m) t i ≡ held_by env t i
held_by_named_same no_init env x m t = refl
held_by_named_same (an_init i) env x m t = held_named i env x m t

local_of_span : (env inner : Env) → inner.context ≡ evaluated → (b : Before) (next : Next) (x : Ident) (m : MaybeInit) (o : Object) → held_by inner o.whole m ≡ held_by env o.whole m → Holds (StmtSpan b (calls_of_maybe_init m) (held_by env o.whole m)) (local_of inner b next x m o)
local_of_span env inner e b next x m o same =
    on_holds (InitCounted b (calls_of_maybe_init m) (held_by inner o.whole m)) (StmtSpan b (calls_of_maybe_init m) (held_by env o.whole m)) (initialised_local inner b o.whole m) _ (local_counted m inner e b o.whole)
    (λ gs h.
    (let s : IsSpan b (calls_of_maybe_init m) (held_by env o.whole m) (sites_of_inits (stores_from 0 gs)) = (stores_gathered all_sites 0 gs (Span b (calls_of_maybe_init m)) h.0, subst (λ ws. FitsAt 30000 b (calls_of_maybe_init m) ws) same h.1) in
    either (StmtSpan b (calls_of_maybe_init m) (held_by env o.whole m)) (is_added x.name) (record { tree = typed.declare (number_in next x.name) (stores_from 0 gs); plain = []; added = o.whole ∷ [] }) (record { tree = typed.declare (number_in next x.name) (stores_from 0 gs); plain = o.whole ∷ []; added = [] }) (λ _. s) s))

local_span : (env : Env) → env.context ≡ evaluated → (b : Before) (next : Next) (x : Ident) (m : MaybeInit) (r : Checked Object) → Holds (StmtSpan b (calls_of_maybe_init m) (held_by_object env m r)) (local env b next x m r)
local_span env c b next x m r = by_part (new_name env x) r
  where
    by_part : (w : Checked Met) (r : Checked Object) → Holds (StmtSpan b (calls_of_maybe_init m) (held_by_object env m r)) (both w (on r (local_of (within_local env next x r) b next x m)) (λ _ p. fine p))
    by_part w (fine o) =
        both_hold Any (StmtSpan b (calls_of_maybe_init m) (held_by env o.whole m)) (StmtSpan b (calls_of_maybe_init m) (held_by env o.whole m)) w (local_of (within_local env next x (fine o)) b next x m o) (λ _ p. fine p) (anything w)
        (local_of_span env (within_local env next x (fine o)) c b next x m o (held_by_named_same m env x.name _ o.whole)) (λ _ p _ h. h)
    by_part (fine a) (faulty f fs) = tt
    by_part (faulty g gs) (faulty f fs) = tt

named_span : (env : Env) → env.context ≡ evaluated → (b : Before) (next : Next) (at : ℕ) (s : Spec) (d : Declarator) (m : MaybeInit) (x : Option Ident) → Holds (StmtSpan b (calls_of_maybe_init m) (held_by_named env at s d m x)) (local_named env b next at s d m x)
named_span env c b next at s d m None = tt
named_span env c b next at s d m (Some x) =
    alone_holds (StmtSpan b (calls_of_maybe_init m) (held_by_named env at s d m (Some x))) (is_given env x.name (type_declared env at s d)) 3 (place_or at d) (local env b next x m (object_declared env at s d x m))
    (local_span env c b next x m (object_declared env at s d x m))

parts_span : (ps : Parts) (env : Env) → env.context ≡ evaluated → (b : Before) (next : Next) (at : ℕ) (s : Spec) → Holds (StmtsSpan b (calls_of_parts ps) (held_by_parts env next at s ps)) (local_parts env b next at s ps)
parts_span no_parts env c b next at s = span_none b
parts_span (more_parts d m ps) env c b next at s =
    both_hold (StmtSpan b (calls_of_maybe_init m) (held_by_part env at s d m)) (StmtsSpan (after_part env b at s d m) (calls_of_parts ps) (held_by_parts (behind_part env next at s d m) (past_part next d) at s ps)) (StmtsSpan b (calls_of_maybe_init m + calls_of_parts ps) (held_by_part env at s d m ++ held_by_parts (behind_part env next at s d m) (past_part next d) at s ps))
    (local_part env b next at s d m) (local_parts (behind_part env next at s d m) (after_part env b at s d m) (past_part next d) at s ps) (λ p q. fine (one_more p q))
    (named_span env c b next at s d m (name_of d)) (parts_span ps (behind_part env next at s d m) (named_keeps (λ e. e.context) (λ _ _ _. refl) env next at s d m (name_of d) ∙ c) (after_part env b at s d m) (past_part next d) at s)
    (λ p q h k. span_both b (calls_of_maybe_init m) (calls_of_parts ps) (held_by_part env at s d m) (held_by_parts (behind_part env next at s d m) (past_part next d) at s ps) (sites_of_stmt p.tree) (sites_of_stmts q.tree) h k)

pub decl_span : (d : Decl) (env : Env) → env.context ≡ evaluated → (b : Before) (next : Next) → Holds (StmtsSpan b (calls_of_decl d) (held_by_decl env next d)) (local_decl env b next d)
decl_span (decl at class s ps) env c b next = parts_span ps env c b next at s

-- ## Statements

condition_span : (env : Env) → env.context ≡ evaluated → (b : Before) (at : ℕ) (x : Expr) → Holds (λ e. IsSpan b (calls x) (strings x) (sites_of e)) (condition_at at (value env b x))
condition_span env c b at x =
    on_holds (Counted 30000 b (calls x) (strings x)) (λ e. IsSpan b (calls x) (strings x) (sites_of e)) (value env b x) (condition at) (value_counted x env c b)
    (λ g h. holds_with (λ e. sites_of e ≡ Span b (calls x)) (FitsAt 30000 b (calls x) (strings x)) (condition at g) h.1 (condition_gathered all_sites at (Span b (calls x)) g h.0))

abbrev MaybeSpan : Before → Maybe → typed.Maybe → Type 0
MaybeSpan b m e = IsSpan b (calls_of_maybe m) (strings_of_maybe m) (sites_of_maybe e)

test_span : (m : Maybe) (env : Env) → env.context ≡ evaluated → (b : Before) (at : ℕ) → Holds (MaybeSpan b m) (test_of env b at m)
test_span absent env c b at = span_none b
test_span (there x) env c b at = on_holds (λ e. IsSpan b (calls x) (strings x) (sites_of e)) (MaybeSpan b (there x)) (condition_at at (value env b x)) (λ y. fine (typed.there y)) (condition_span env c b at x) (λ y h. h)

step_span : (m : Maybe) (env : Env) → env.context ≡ evaluated → (b : Before) → Holds (MaybeSpan b m) (step_of env b m)
step_span absent env c b = span_none b
step_span (there x) env c b = on_holds (Counted 30000 b (calls x) (strings x)) (MaybeSpan b (there x)) (value env b x) (λ g. fine (typed.there (tree_of g))) (value_counted x env c b) (λ g h. (h.0.0, h.1))

first_span : (x : First) (env : Env) → env.context ≡ evaluated → (b : Before) (next : Next) → Holds (StmtsSpan b (calls_of_first x) (held_by_first env next x)) (first_of env b next x)
first_span first_absent env c b next = span_none b
first_span (first_expr x) env c b next = on_holds (Counted 30000 b (calls x) (strings x)) (StmtsSpan b (calls x) (strings x)) (value env b x) (λ g. fine (alone (bare (typed.evaluate (tree_of g))))) (value_counted x env c b) (λ g h. span_alone b (calls x) (strings x) (sites_of (tree_of g)) (h.0.0, h.1))
first_span (first_decl d) env c b next = decl_span d env c b next

returned_span : (m : Maybe) (env : Env) → env.context ≡ evaluated → (b : Before) (at : ℕ) (t : CType) → Holds (λ s. IsSpan b (calls_of_maybe m) (strings_of_maybe m) (sites_of_stmt s)) (returned env b at t m)
returned_span absent env c b at t = demand_holds (λ s. IsSpan b 0 [] (sites_of_stmt s)) _ 3 at typed.return_void (λ _. span_none b)
returned_span (there x) env c b at t =
    on_holds (Counted 30000 b (calls x) (strings x)) (λ s. IsSpan b (calls x) (strings x) (sites_of_stmt s)) (on (value env b x) (as_if_assigned at t)) (λ g. fine (typed.return_value (tree_of g)))
    (on_holds (Counted 30000 b (calls x) (strings x)) (Counted 30000 b (calls x) (strings x)) (value env b x) (as_if_assigned at t) (value_counted x env c b) (λ g h. holds_with (Gathers all_sites (Span b (calls x))) (FitsAt 30000 b (calls x) (strings x)) (as_if_assigned at t g) h.1 (as_if_gathered all_sites at (Span b (calls x)) t g h.0))) (λ g h. (h.0.0, h.1))

switched_sites : (at : ℕ) (xs : List ℕ) (g : TypedExpression) (k : Kind) → Gathers all_sites xs g → Holds (Gathers all_sites xs) (switched_kind at g k)
switched_sites at xs g (an_integer i) h = converted_gathered all_sites xs (promoted i) g h
switched_sites at xs g k h = tt

abbrev GroupsSpan : Before → ℕ → List (List ℕ) → Labelled → Type 0
GroupsSpan b n ws l = IsSpan b n ws (sites_of_groups l.groups.tree)

mutual
  pub stmt_span : (s : Stmt) (env : Env) → env.context ≡ evaluated → (a : Around) (b : Before) (next : Next) → Holds (StmtSpan b (calls_of_stmt s) (held_by_stmt env next s)) (stmt env a b next s)
  stmt_span (block at is) env c a b next = on_holds (StmtsSpan b (calls_of_block is) (held_by_block (inside env) next is)) (StmtSpan b (calls_of_block is) (held_by_block (inside env) next is)) (items_of_block (inside env) a b next is) (λ p. fine (with_tree p (typed.block p.tree))) (block_span is (inside env) c a b next) (λ p h. h)
  stmt_span (empty at) env c a b next = span_none b
  stmt_span (evaluate at x) env c a b next = on_holds (Counted 30000 b (calls x) (strings x)) (StmtSpan b (calls x) (strings x)) (value env b x) (λ g. fine (bare (typed.evaluate (tree_of g)))) (value_counted x env c b) (λ g h. (h.0.0, h.1))
  stmt_span (only_if at x s) env c a b next =
      both_hold (λ e. IsSpan b (calls x) (strings x) (sites_of e)) (StmtSpan (after b x) (calls_of_stmt s) (held_by_stmt env next s)) (StmtSpan b (calls x + calls_of_stmt s) (strings x ++ held_by_stmt env next s))
      (condition_at at (value env b x)) (stmt env a (after b x) next s) (λ e p. fine (with_tree p (typed.if_else e p.tree typed.empty))) (condition_span env c b at x) (stmt_span s env c a (after b x) next)
      (λ e p h k. (ap (λ xs. sites_of e ++ xs) (nothing_more (sites_of_stmt p.tree)) ∙ (span_both b (calls x) (calls_of_stmt s) (strings x) (held_by_stmt env next s) (sites_of e) (sites_of_stmt p.tree) h k).0, (span_both b (calls x) (calls_of_stmt s) (strings x) (held_by_stmt env next s) (sites_of e) (sites_of_stmt p.tree) h k).1))
  stmt_span (if_else at x s t) env c a b next =
      let names = past_names next (names_of_stmt s) in
      let b2 = after_stmt env (after b x) next s in
      all_three_hold (λ e. IsSpan b (calls x) (strings x) (sites_of e)) (StmtSpan (after b x) (calls_of_stmt s) (held_by_stmt env next s)) (StmtSpan b2 (calls_of_stmt t) (held_by_stmt env names t)) (StmtSpan b (calls x + (calls_of_stmt s + calls_of_stmt t)) (strings x ++ (held_by_stmt env next s ++ held_by_stmt env names t)))
      (condition_at at (value env b x)) (stmt env a (after b x) next s) (stmt env a b2 names t) (λ e p q. fine (joined p q (typed.if_else e p.tree q.tree))) (condition_span env c b at x) (stmt_span s env c a (after b x) next) (stmt_span t env c a b2 names)
      (λ e p q h k l. span_both b (calls x) (calls_of_stmt s + calls_of_stmt t) (strings x) (held_by_stmt env next s ++ held_by_stmt env names t) (sites_of e) (sites_of_stmt p.tree ++ sites_of_stmt q.tree) h (span_both (after b x) (calls_of_stmt s) (calls_of_stmt t) (held_by_stmt env next s) (held_by_stmt env names t) (sites_of_stmt p.tree) (sites_of_stmt q.tree) k l))
  stmt_span (while_loop at x s) env c a b next =
      both_hold (λ e. IsSpan b (calls x) (strings x) (sites_of e)) (StmtSpan (after b x) (calls_of_stmt s) (held_by_stmt env next s)) (StmtSpan b (calls x + calls_of_stmt s) (strings x ++ held_by_stmt env next s))
      (condition_at at (value env b x)) (stmt env (in_loop a) (after b x) next s) (λ e p. fine (with_tree p (typed.while_loop e p.tree))) (condition_span env c b at x) (stmt_span s env c (in_loop a) (after b x) next)
      (λ e p h k. span_both b (calls x) (calls_of_stmt s) (strings x) (held_by_stmt env next s) (sites_of e) (sites_of_stmt p.tree) h k)
  stmt_span (do_loop at s x) env c a b next =
      both_hold (StmtSpan b (calls_of_stmt s) (held_by_stmt env next s)) (λ e. IsSpan (after_stmt env b next s) (calls x) (strings x) (sites_of e)) (StmtSpan b (calls_of_stmt s + calls x) (held_by_stmt env next s ++ strings x))
      (stmt env (in_loop a) b next s) (condition_at at (value env (after_stmt env b next s) x)) (λ p e. fine (with_tree p (typed.do_loop p.tree e))) (stmt_span s env c (in_loop a) b next) (condition_span env c (after_stmt env b next s) at x)
      (λ p e h k. span_both b (calls_of_stmt s) (calls x) (held_by_stmt env next s) (strings x) (sites_of_stmt p.tree) (sites_of e) h k)
  stmt_span (for_loop at first test step s) env c a b next =
      let outer = inside env in
      let inner = behind_first outer next first in
      let b1 = after_first outer b next first in
      let b2 = after_maybe b1 test in
      let b3 = after_maybe b2 step in
      let names = past_names next (names_of_first first) in
      let d = first_keeps (λ e. e.context) (λ _ _ _. refl) first outer next ∙ c in
      all_three_hold (StmtsSpan b (calls_of_first first) (held_by_first outer next first)) (λ t. MaybeSpan b1 test t.first × MaybeSpan b2 step t.second) (StmtSpan b3 (calls_of_stmt s) (held_by_stmt inner names s)) (StmtSpan b (calls_of_stmt (for_loop at first test step s)) (held_by_stmt env next (for_loop at first test step s)))
      (first_of outer b next first) (beside (test_of inner b1 at test) (step_of inner b2 step)) (stmt inner (in_loop a) b3 names s) (λ p tests q. fine (for_of p tests q))
      (first_span first outer c b next)
      (both_hold (MaybeSpan b1 test) (MaybeSpan b2 step) (λ t. MaybeSpan b1 test t.first × MaybeSpan b2 step t.second) (test_of inner b1 at test) (step_of inner b2 step) (λ x y. fine (record { first = x; second = y })) (test_span test inner d b1 at) (step_span step inner d b2) (λ x y h k. (h, k)))
      (stmt_span s inner d (in_loop a) b3 names)
      (λ p t q h k l. span_both b (calls_of_first first) (calls_of_maybe test + (calls_of_maybe step + calls_of_stmt s)) (held_by_first outer next first) (strings_of_maybe test ++ (strings_of_maybe step ++ held_by_stmt inner names s)) (sites_of_stmts p.tree) (sites_of_maybe t.first ++ (sites_of_maybe t.second ++ sites_of_stmt q.tree)) h
      (span_both b1 (calls_of_maybe test) (calls_of_maybe step + calls_of_stmt s) (strings_of_maybe test) (strings_of_maybe step ++ held_by_stmt inner names s) (sites_of_maybe t.first) (sites_of_maybe t.second ++ sites_of_stmt q.tree) k.0
      (span_both b2 (calls_of_maybe step) (calls_of_stmt s) (strings_of_maybe step) (held_by_stmt inner names s) (sites_of_maybe t.second) (sites_of_stmt q.tree) k.1 l)))
  stmt_span (switch_on at x gs) env c a b next =
      let r = switched at (value env b x) in
      both_hold (Counted 30000 b (calls x) (strings x)) (GroupsSpan (after b x) (calls_of_groups gs) (held_by_groups env next gs)) (StmtSpan b (calls x + calls_of_groups gs) (strings x ++ held_by_groups env next gs))
      r (groups_of_switch env (in_switch a) (after b x) next (label_type r) gs) (switch_of at)
      (on_holds (Counted 30000 b (calls x) (strings x)) (Counted 30000 b (calls x) (strings x)) (value env b x) (λ g. switched_kind at g (kind_of g.ctype)) (value_counted x env c b) (λ g h. holds_with (Gathers all_sites (Span b (calls x))) (FitsAt 30000 b (calls x) (strings x)) (switched_kind at g (kind_of g.ctype)) h.1 (switched_sites at (Span b (calls x)) g (kind_of g.ctype) h.0)))
      (groups_span gs env c (in_switch a) (after b x) next (label_type r))
      (λ g l h k. demand_holds (StmtSpan b (calls x + calls_of_groups gs) (strings x ++ held_by_groups env next gs)) _ 7 at _ (λ _. span_both b (calls x) (calls_of_groups gs) (strings x) (held_by_groups env next gs) (sites_of (tree_of g)) (sites_of_groups l.groups.tree) (h.0.0, h.1) k))
  stmt_span (break_off at) env c a b next = demand_holds (StmtSpan b 0 []) a.breaks 8 at (bare typed.break_off) (λ _. span_none b)
  stmt_span (continue_on at) env c a b next = demand_holds (StmtSpan b 0 []) a.continues 8 at (bare typed.continue_on) (λ _. span_none b)
  stmt_span (return_from at m) env c a b next = on_holds (λ s. IsSpan b (calls_of_maybe m) (strings_of_maybe m) (sites_of_stmt s)) (StmtSpan b (calls_of_maybe m) (strings_of_maybe m)) (returned env b at a.returns m) (λ s. fine (bare s)) (returned_span m env c b at a.returns) (λ s h. h)

  pub block_span : (is : BlockItems) (env : Env) → env.context ≡ evaluated → (a : Around) (b : Before) (next : Next) → Holds (StmtsSpan b (calls_of_block is) (held_by_block env next is)) (items_of_block env a b next is)
  block_span no_block_items env c a b next = span_none b
  block_span (block_decl d is) env c a b next =
      let names = past_names next (names_of_decl d) in
      let inner = behind_decl env next d in
      both_hold (StmtsSpan b (calls_of_decl d) (held_by_decl env next d)) (StmtsSpan (after_decl env b next d) (calls_of_block is) (held_by_block inner names is)) (StmtsSpan b (calls_of_decl d + calls_of_block is) (held_by_decl env next d ++ held_by_block inner names is))
      (local_decl env b next d) (items_of_block inner a (after_decl env b next d) names is) (λ p q. fine (some_more p q)) (decl_span d env c b next) (block_span is inner (decl_keeps (λ e. e.context) (λ _ _ _. refl) d env next ∙ c) a (after_decl env b next d) names)
      (λ p q h k. (let r = span_both b (calls_of_decl d) (calls_of_block is) (held_by_decl env next d) (held_by_block inner names is) (sites_of_stmts p.tree) (sites_of_stmts q.tree) h k in (appended_gathered all_sites p.tree q.tree ∙ r.0, r.1)))
  block_span (block_stmt s is) env c a b next =
      let names = past_names next (names_of_stmt s) in
      both_hold (StmtSpan b (calls_of_stmt s) (held_by_stmt env next s)) (StmtsSpan (after_stmt env b next s) (calls_of_block is) (held_by_block env names is)) (StmtsSpan b (calls_of_stmt s + calls_of_block is) (held_by_stmt env next s ++ held_by_block env names is))
      (stmt env a b next s) (items_of_block env a (after_stmt env b next s) names is) (λ p q. fine (one_more p q)) (stmt_span s env c a b next) (block_span is env c a (after_stmt env b next s) names)
      (λ p q h k. span_both b (calls_of_stmt s) (calls_of_block is) (held_by_stmt env next s) (held_by_block env names is) (sites_of_stmt p.tree) (sites_of_stmts q.tree) h k)

  stmts_span : (ss : Stmts) (env : Env) → env.context ≡ evaluated → (a : Around) (b : Before) (next : Next) → Holds (StmtsSpan b (calls_of_stmts ss) (held_by_stmts env next ss)) (stmts env a b next ss)
  stmts_span no_stmts env c a b next = span_none b
  stmts_span (more_stmts s ss) env c a b next =
      let names = past_names next (names_of_stmt s) in
      both_hold (StmtSpan b (calls_of_stmt s) (held_by_stmt env next s)) (StmtsSpan (after_stmt env b next s) (calls_of_stmts ss) (held_by_stmts env names ss)) (StmtsSpan b (calls_of_stmt s + calls_of_stmts ss) (held_by_stmt env next s ++ held_by_stmts env names ss))
      (stmt env a b next s) (stmts env a (after_stmt env b next s) names ss) (λ p q. fine (one_more p q)) (stmt_span s env c a b next) (stmts_span ss env c a (after_stmt env b next s) names)
      (λ p q h k. span_both b (calls_of_stmt s) (calls_of_stmts ss) (held_by_stmt env next s) (held_by_stmts env names ss) (sites_of_stmt p.tree) (sites_of_stmts q.tree) h k)

  groups_span : (gs : Groups) (env : Env) → env.context ≡ evaluated → (a : Around) (b : Before) (next : Next) (i : IntType) → Holds (GroupsSpan b (calls_of_groups gs) (held_by_groups env next gs)) (groups_of_switch env a b next i gs)
  groups_span no_groups env c a b next i = span_none b
  groups_span (more_groups ls ss gs) env c a b next i =
      let names = past_names next (names_of_stmts ss) in
      all_three_hold Any (StmtsSpan b (calls_of_stmts ss) (held_by_stmts env next ss)) (GroupsSpan (after_stmts env b next ss) (calls_of_groups gs) (held_by_groups env names gs)) (GroupsSpan b (calls_of_stmts ss + calls_of_groups gs) (held_by_stmts env next ss ++ held_by_groups env names gs))
      (labels_of env i ls) (stmts env a b next ss) (groups_of_switch env a (after_stmts env b next ss) names i gs) (λ vs p rest. fine (labelled vs p rest)) (anything (labels_of env i ls)) (stmts_span ss env c a b next) (groups_span gs env c a (after_stmts env b next ss) names i)
      (λ vs p l _ h k. span_both b (calls_of_stmts ss) (calls_of_groups gs) (held_by_stmts env next ss) (held_by_groups env names gs) (sites_of_stmts p.tree) (sites_of_groups l.groups.tree) h k)
