-- The parts that the instrumenter adds to a call: what they give in an instrumented unit.
use Rattle.std.specs.Prelude.{◌≡◌, ℕ, ◌+◌, ◌<◌, true, false, length, None, Some}
use Rattle.dm_base.specs.declared.mode.Mode.TheVariants.{Instrumented}
use Rattle.c_tree.specs.declared.value.Value.TheVariants.{Uint}
use Rattle.c_tree.specs.Tree.{CType, void}
use Rattle.c_tree.specs.Tree as typed
use Rattle.c_tree.specs.Functions.{unsigned_int}
use Rattle.c_tree.specs.Operands.{IsScalar}
use Rattle.c_syntax.specs.Tree.{Expr, a_name}
use Rattle.c_rules.specs.Checked.{fine}
use Rattle.c_rules.specs.Names.{Name, number_among, given_names}
use Rattle.c_rules.specs.Scopes.{Env, Binding, a_local, lookup, evaluated, Before}
use Rattle.c_rules.specs.Counts.{after}
use Rattle.c_rules.specs.TypedExpression.{not_constant, TypedExpression, typed_value, tree_of}
use Rattle.c_rules.specs.Conversions.{fits, assigned}
use Rattle.c_rules.specs.Expressions.{tree, value}
use Rattle.null_calls_laws.specs.InstrumentedExpressions.{kept_in, null_call}
use Rattle.c_rules_laws.specs.TypedAlike.{More, instrumented_scope}
use Rattle.null_calls_laws.specs.Tabled.{IsNullCall}

-- the name is a variable of the function
abbrev pub IsTemporary : More → Name → (k : ℕ) → CType → Type 0
IsTemporary w x k t = (b : Binding) × (lookup w.names x ≡ Some b) × (b.means ≡ a_local k t t)

-- the value of a temporary
abbrev pub TemporariesAreRead : Type 0
TemporariesAreRead =
    (env : Env) (w : More) (b : Before) (at : ℕ) (x : Name) (k : ℕ) (t : CType) → IsScalar t → IsTemporary w x k t → value (instrumented_scope env w) b (a_name at x) ≡ fine (typed_value t (typed.load t (typed.variable t false k)) not_constant)

-- a value that is kept in a temporary
abbrev pub TemporariesAreSet : Type 0
TemporariesAreSet =
    (env : Env) (w : More) (b : Before) (at : ℕ) (x : Name) (k : ℕ) (t : CType) (e : Expr) (g : TypedExpression) → IsScalar t → IsTemporary w x k t → value (instrumented_scope env w) (after b (a_name at x)) e ≡ fine g → fits t g ≡ true
    → tree (instrumented_scope env w) b (kept_in at x e) ≡ fine (typed_value t (typed.assign t (typed.variable t false k) (tree_of (assigned t g))) not_constant)

-- a null call, which is a call of the function with this number among those that are given
abbrev pub NullCallsAreMade : Type 0
NullCallsAreMade =
    (env : Env) (w : More) (b : Before) (at : ℕ) (x : Name) (i site : ℕ) → env.context ≡ evaluated → IsNullCall w.names x → number_among env.whole.functions x ≡ None → number_among (given_names Instrumented) x ≡ Some i → b.sites < 30000
    → tree (instrumented_scope env w) b (null_call at x site) ≡ fine (typed_value void (typed.call void b.sites (length env.whole.functions + i) (typed.more_exprs (typed.constant unsigned_int (Uint site)) typed.no_exprs)) not_constant)
