-- The expressions of statements follow.
use Rattle.std.proofs.Common.{ℕ, Bool, true, false, List, [], refl, ap, sym, subst}
use Rattle.c_tree.specs.Tree.{CType, Program}
use Rattle.c_tree.specs.Tree as typed
use Rattle.c_tree.specs.Operands.{promoted}
use Rattle.c_syntax.specs.Tree.{Expr, Maybe, absent, there}
use Rattle.c_rules.specs.Checked.{Checked, fine, faulty, demand, on, gives}
use Rattle.c_rules.specs.Types.{is_scalar, is_void}
use Rattle.c_rules.specs.Scopes.{Env, Before}
use Rattle.c_rules.specs.TypedExpression.{TypedExpression, tree_of}
use Rattle.c_rules.specs.Conversions.{Kind, an_integer, a_pointer, neither, kind_of, converted_to, fits, assigned, as_if_assigned}
use Rattle.c_rules.specs.Expressions.{value}
use Rattle.c_rules.specs.Statements.{condition_at, test_of, step_of, switched_kind, switched, returned}
use Rattle.null_calls_laws.specs.MarkedCalls.{Sites}
use Rattle.null_calls_laws.specs.InstrumentedExpressions.{expr, maybe, kept, kept_of_maybe}
use Rattle.null_calls_laws.specs.TypedAlike.{More, plain_scope, instrumented_scope}
use Rattle.null_calls_laws.specs.Remade.{remade, Follows}
use Rattle.null_calls_laws.proofs.Operands.{operand, converted_operand, assigned_operand}
use Rattle.null_calls_laws.proofs.Binary.{fits_same}
use Rattle.null_calls_laws.specs.Counts.{Near}
use Rattle.null_calls_laws.specs.Follow.{types_of, UnusedFollows, Goes}
use Rattle.null_calls_laws.proofs.Forms.{value_goes}
use Rattle.null_calls_laws.proofs.AllCalls.{all_expressions_go}
use Rattle.null_calls_laws.specs.Heads.{TreeFollows, MaybeFollows, OperandFollows, StmtFollows, IfThere, Stands, HeadsGo, AllHeadsGo}

module _ (p : Program) (k : ℕ) (ts : List CType) where
  condition_follows : (at : ℕ) (r s : Checked TypedExpression) → Follows p k ts r s → TreeFollows p k ts (condition_at at r) (condition_at at s)
  condition_follows at (fine g) s h =
      let o = operand p k ts g h.0 h.2 in
      subst (λ z. TreeFollows p k ts (demand (is_scalar g.ctype) 3 at (tree_of g)) (condition_at at z)) (sym h.1) (by_test (is_scalar g.ctype) (tree_of g) (tree_of (remade g h.0)) (tree_of (remade g h.0), refl, o.types, o.tree))
    where
      by_test : (b : Bool) (e x : typed.Expr) → TreeFollows p k ts (fine e) (fine x) → TreeFollows p k ts (demand b 3 at e) (demand b 3 at x)
      by_test true e x h = h
      by_test false e x h = tt
  condition_follows at (faulty f fs) s h = tt

  there_follows : (r s : Checked typed.Expr) → TreeFollows p k ts r s → MaybeFollows p k ts true (gives r typed.there) (gives s typed.there)
  there_follows (fine e) s h = (typed.there h.0, ap (λ z. gives z typed.there) h.1, h.2, ap typed.there h.3)
  there_follows (faulty f fs) s h = tt

  step_follows : (r s : Checked TypedExpression) → UnusedFollows p k ts r s → MaybeFollows p k ts false (gives r (λ g. typed.there (tree_of g))) (gives s (λ g. typed.there (tree_of g)))
  step_follows (fine g) s h = (typed.there (tree_of h.0), ap (λ z. gives z (λ g. typed.there (tree_of g))) h.1, h.2, ap typed.there h.3)
  step_follows (faulty f fs) s h = tt

  evaluate_follows : (r s : Checked TypedExpression) → UnusedFollows p k ts r s → StmtFollows p k ts (gives r (λ g. typed.evaluate (tree_of g))) (gives s (λ g. typed.evaluate (tree_of g)))
  evaluate_follows (fine g) s h = (typed.evaluate (tree_of h.0), ap (λ z. gives z (λ g. typed.evaluate (tree_of g))) h.1, h.2, ap typed.evaluate h.3)
  evaluate_follows (faulty f fs) s h = tt

  switch_follows : (at : ℕ) (r s : Checked TypedExpression) → Follows p k ts r s → OperandFollows p k ts (switched at r) (switched at s)
  switch_follows at (fine g) s h = subst (λ z. OperandFollows p k ts (switched_kind at g (kind_of g.ctype)) (switched at z)) (sym h.1) (by_kind (kind_of g.ctype))
    where
      by_kind : (d : Kind) → OperandFollows p k ts (switched_kind at g d) (switched_kind at (remade g h.0) d)
      by_kind (an_integer i) = (converted_to (promoted i) (remade g h.0), refl, converted_operand p k ts (promoted i) g h.0 h.2)
      by_kind (a_pointer u) = tt
      by_kind neither = tt
  switch_follows at (faulty f fs) s h = tt

  return_follows : (at : ℕ) (t : CType) (r s : Checked TypedExpression) → Follows p k ts r s → StmtFollows p k ts (gives (on r (as_if_assigned at t)) (λ g. typed.return_value (tree_of g))) (gives (on s (as_if_assigned at t)) (λ g. typed.return_value (tree_of g)))
  return_follows at t (fine g) s h =
      let o = assigned_operand p k ts t g h.0 h.2 in
      subst (λ z. StmtFollows p k ts (gives (demand (fits t g) 3 at (assigned t g)) (λ g. typed.return_value (tree_of g))) (gives (on z (as_if_assigned at t)) (λ g. typed.return_value (tree_of g)))) (sym h.1)
      (subst (λ z. StmtFollows p k ts (gives (demand (fits t g) 3 at (assigned t g)) (λ g. typed.return_value (tree_of g))) (gives (demand z 3 at (assigned t (remade g h.0))) (λ g. typed.return_value (tree_of g)))) (sym (fits_same p k ts ts t (kind_of t) g h.0))
      (by_test (fits t g) (assigned t g) (assigned t (remade g h.0)) (typed.return_value (tree_of (assigned t (remade g h.0))), refl, o.types, ap typed.return_value o.tree)))
    where
      by_test : (b : Bool) (a c : TypedExpression) → StmtFollows p k ts (fine (typed.return_value (tree_of a))) (fine (typed.return_value (tree_of c))) → StmtFollows p k ts (gives (demand b 3 at a) (λ g. typed.return_value (tree_of g))) (gives (demand b 3 at c) (λ g. typed.return_value (tree_of g)))
      by_test true a c h = h
      by_test false a c h = tt
  return_follows at t (faulty f fs) s h = tt

no_value : (p : Program) (k : ℕ) (b : Bool) (at : ℕ) → StmtFollows p k [] (demand b 3 at typed.return_void) (demand b 3 at typed.return_void)
no_value p k true at = (typed.return_void, refl, refl, refl)
no_value p k false at = tt

module _ (p : Program) (sites : Sites) (env : Env) (w : More) (goes : (x : Expr) → Goes p sites env w x) (b b' : Before) (k : ℕ) (near : Near b b') where
  wanted : (x : Expr) → Stands p sites env w b k true x → Follows p k (types_of (kept sites b.sites true x)) (value (plain_scope env) b x) (value (instrumented_scope env w) b' (expr sites b.sites true x))
  wanted x h = value_goes p sites env w x (goes x).wanted b b' k h.named h.tabled h.found near

  unused : (x : Expr) → Stands p sites env w b k false x → UnusedFollows p k (types_of (kept sites b.sites false x)) (value (plain_scope env) b x) (value (instrumented_scope env w) b' (expr sites b.sites false x))
  unused x h = (goes x).unused b b' k h.named h.tabled h.found near

  tests_go : (at : ℕ) (m : Maybe) → IfThere (Stands p sites env w b k true) m → MaybeFollows p k (types_of (kept_of_maybe sites b.sites true m)) true (test_of (plain_scope env) b at m) (test_of (instrumented_scope env w) b' at (maybe sites b.sites true m))
  tests_go at absent h = (typed.absent, refl, refl, refl)
  tests_go at (there x) h = there_follows p k _ _ _ (condition_follows p k _ at _ _ (wanted x h))

  steps_go : (m : Maybe) → IfThere (Stands p sites env w b k false) m → MaybeFollows p k (types_of (kept_of_maybe sites b.sites false m)) false (step_of (plain_scope env) b m) (step_of (instrumented_scope env w) b' (maybe sites b.sites false m))
  steps_go absent h = (typed.absent, refl, refl, refl)
  steps_go (there x) h = step_follows p k (types_of (kept sites b.sites false x)) (value (plain_scope env) b x) (value (instrumented_scope env w) b' (expr sites b.sites false x)) (unused x h)

  returns_go : (at : ℕ) (t : CType) (m : Maybe) → IfThere (Stands p sites env w b k true) m → StmtFollows p k (types_of (kept_of_maybe sites b.sites true m)) (returned (plain_scope env) b at t m) (returned (instrumented_scope env w) b' at t (maybe sites b.sites true m))
  returns_go at t absent h = no_value p k (is_void t) at
  returns_go at t (there x) h = return_follows p k (types_of (kept sites b.sites true x)) at t (value (plain_scope env) b x) (value (instrumented_scope env w) b' (expr sites b.sites true x)) (wanted x h)

  heads : HeadsGo p sites env w b b' k
  heads = record {
    conditions = λ at x h. condition_follows p k (types_of (kept sites b.sites true x)) at (value (plain_scope env) b x) (value (instrumented_scope env w) b' (expr sites b.sites true x)) (wanted x h);
    tests = tests_go;
    steps = steps_go;
    switches = λ at x h. switch_follows p k (types_of (kept sites b.sites true x)) at (value (plain_scope env) b x) (value (instrumented_scope env w) b' (expr sites b.sites true x)) (wanted x h);
    returns = returns_go;
    evaluated = λ x h. evaluate_follows p k (types_of (kept sites b.sites false x)) (value (plain_scope env) b x) (value (instrumented_scope env w) b' (expr sites b.sites false x)) (unused x h);
  }

pub all_heads_go : AllHeadsGo
all_heads_go p sites env w plain alike stand b b' k near = heads p sites env w (all_expressions_go p sites env w plain alike stand) b b' k near
