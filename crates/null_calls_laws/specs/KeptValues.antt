-- The temporaries of a marked call's arguments, as the arguments of the call that stands between its null calls.
use Rattle.std.specs.Prelude.{◌≡◌, ℕ, suc, true, false, List, [], ◌∷◌, length}
use Rattle.c_tree.specs.Tree.{CTypes, no_types, more_types, list_of}
use Rattle.c_tree.specs.Tree as typed
use Rattle.c_tree.specs.Operands.{IsScalar}
use Rattle.c_syntax.specs.Tree.{Exprs, no_exprs, more_exprs}
use Rattle.c_rules.specs.Checked.{fine}
use Rattle.c_rules.specs.Types.{count}
use Rattle.c_rules.specs.Scopes.{Env, Before}
use Rattle.c_rules.specs.TypedExpression.{not_constant, TypedExpression, typed_value}
use Rattle.c_rules.specs.PostfixExpressions.{all_fit, passed}
use Rattle.c_rules.specs.Expressions.{trees}
use Rattle.null_calls_laws.specs.Temporaries.{arguments_kept}
use Rattle.null_calls_laws.specs.InstrumentedExpressions.{kept_arguments}
use Rattle.null_calls_laws.specs.InstrumentedPrograms.{kept_values}
use Rattle.null_calls_laws.specs.WithoutSites.{unsited_all}
use Rattle.c_rules_laws.specs.TypedAlike.{More, instrumented_scope}
use Rattle.null_calls_laws.specs.Tabled.{AreFound}

abbrev pub AreScalars : CTypes → Type 0
AreScalars no_types = Unit {0}
AreScalars (more_types t ts) = IsScalar t × AreScalars ts

-- as many expressions as types
abbrev pub AreAsMany : Exprs → CTypes → Type 0
AreAsMany no_exprs no_types = Unit {0}
AreAsMany no_exprs (more_types t ts) = ⊥
AreAsMany (more_exprs e es) no_types = ⊥
AreAsMany (more_exprs e es) (more_types t ts) = AreAsMany es ts

-- the values of the temporaries from a number on
abbrev pub temporary_values : ℕ → CTypes → List TypedExpression
temporary_values j no_types = []
temporary_values j (more_types t ts) = typed_value t (typed.load t (typed.variable t false j)) not_constant ∷ temporary_values (suc j) ts

-- they are given in order, fit the parameters, and are passed as they are
pub record AreTemporaries (env : Env) (w : More) (c : Before) (at site i j : ℕ) (es : Exprs) (ps : CTypes) : Type 0 where
  pub given : trees (instrumented_scope env w) c (kept_arguments at site i es) ≡ fine (temporary_values j ps)
  pub many : length (temporary_values j ps) ≡ count ps
  pub fitting : all_fit ps (temporary_values j ps) ≡ true
  pub kept : unsited_all (passed ps (temporary_values j ps)) ≡ kept_values j (list_of ps)

abbrev pub KeptValuesAreGiven : Type 0
KeptValuesAreGiven =
    (env : Env) (w : More) (es : Exprs) (ps : CTypes) (c : Before) (at site i j : ℕ) → AreAsMany es ps → AreScalars ps → AreFound w.names j (arguments_kept site i ps) → AreTemporaries env w c at site i j es ps
