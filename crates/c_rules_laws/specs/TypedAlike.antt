-- The scopes of an instrumented unit beside those of the plain one: the same but for names of the instrumenter.
use Rattle.std.specs.Prelude.{◌≡◌, false, List, [], ◌∷◌}
use Rattle.dm_base.specs.declared.mode.Mode.TheVariants.{Plain, Instrumented}
use Rattle.c_rules.specs.Names.{Name, is_reserved}
use Rattle.c_rules.specs.Scopes.{Env, Binding, lookup}

-- no name is reserved
abbrev pub AreUnreserved : List Binding → Type 0
AreUnreserved [] = Unit {0}
AreUnreserved (b ∷ bs) = (is_reserved b.name ≡ false) × AreUnreserved bs

-- names that aren't reserved mean the same
abbrev pub MeanAlike : List Binding → List Binding → Type 0
MeanAlike bs ns = (x : Name) → is_reserved x ≡ false → lookup ns x ≡ lookup bs x

-- what the instrumenter's declarations change: the names in scope, the functions that are counted, and the tags that stand before
pub record More : Type 0 where
  pub names : List Binding
  pub functions : List Name
  pub tags : List Name

abbrev pub plain_scope : Env → Env
plain_scope env = record env { whole = record env.whole { mode = Plain } }

abbrev pub instrumented_scope : Env → More → Env
instrumented_scope env w = record env { whole = record env.whole { mode = Instrumented }; names = w.names; functions = w.functions; tags = w.tags }

-- a scope of a plain unit, and one of the instrumented unit
pub data TypedAlike : Env → Env → Type 0 where
  beside : (env : Env) (w : More) → AreUnreserved env.names → MeanAlike env.names w.names → TypedAlike (plain_scope env) (instrumented_scope env w)
