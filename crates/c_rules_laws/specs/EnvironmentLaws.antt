-- Laws on parts that stay as they are in an instrumented unit.
use Rattle.std.specs.Prelude.{◌≡◌, ℕ}
use Rattle.c_tree.specs.Tree.{CType, CTypes}
use Rattle.c_syntax.specs.Tree.{Ident, Spec, Declarator, MaybeInit, Params, TypeName, Expr}
use Rattle.c_rules.specs.Checked.{fine}
use Rattle.c_rules.specs.Scopes.{Env, Before}
use Rattle.c_rules.specs.TypedExpression.{TypedExpression}
use Rattle.c_rules.specs.Expressions.{tree, type_named, type_declared, parameters}
use Rattle.c_rules.specs.Objects.{Object, object_declared}
use Rattle.c_rules_laws.specs.TypedAlike.{TypedAlike}

-- where the scope of a part of a plain unit stands beside one of an instrumented unit, an expression, a type name and a declaration that
-- are fine in the first one are fine in the second one, and give the same
pub record GiveTheSame (e f : Env) : Type 0 where
  pub expressions : (b : Before) (x : Expr) (g : TypedExpression) → tree e b x ≡ fine g → tree f b x ≡ fine g
  pub type_names : (t : TypeName) (u : CType) → type_named e t ≡ fine u → type_named f t ≡ fine u
  pub declared_types : (at : ℕ) (s : Spec) (d : Declarator) (t : CType) → type_declared e at s d ≡ fine t → type_declared f at s d ≡ fine t
  pub parameter_types : (k : ℕ) (ps : Params) (ts : CTypes) → parameters e k ps ≡ fine ts → parameters f k ps ≡ fine ts
  pub objects : (at : ℕ) (s : Spec) (d : Declarator) (x : Ident) (m : MaybeInit) (o : Object) → object_declared e at s d x m ≡ fine o → object_declared f at s d x m ≡ fine o

abbrev pub PartsGiveTheSame : Type 0
PartsGiveTheSame = (e f : Env) → TypedAlike e f → GiveTheSame e f
