-- The file scope of an instrumented unit beside that of the plain one (C99 6.2.1, 6.9).
use Rattle.std.specs.Prelude.{◌≡◌, ℕ, true, false, ◌∷◌, None}
use Rattle.c_rules.specs.Names.{Name, is_among, is_reserved, null_calls}
use Rattle.c_rules.specs.Scopes.{Env, evaluated, lookup, Before}
use Rattle.null_calls_laws.specs.Temporaries.{pre_name, post_name}
use Rattle.c_rules_laws.specs.TypedAlike.{More, plain_scope, instrumented_scope, AreUnreserved, MeanAlike}
use Rattle.null_calls_laws.specs.Tabled.{AreNullCalls}

-- In the second one there are the null calls, which are the first functions that are counted, and no other names that are reserved. Tags that stand before in it stand before
-- in the first one.
pub record HasNullCalls (env : Env) (w : More) : Type 0 where
  pub runs : env.context ≡ evaluated
  pub nulls : AreNullCalls w.names
  pub fresh : (x : Name) → is_reserved x ≡ true → is_among null_calls x ≡ false → lookup w.names x ≡ None
  pub functions : w.functions ≡ pre_name ∷ post_name ∷ env.functions
  pub tags : (x : Name) → is_among w.tags x ≡ true → is_among env.tags x ≡ true

pub data FilesBeside : Env → Env → Type 0 where
  files_beside : (env : Env) (w : More) → AreUnreserved env.names → MeanAlike env.names w.names → HasNullCalls env w → FilesBeside (plain_scope env) (instrumented_scope env w)

-- the same with so many calls before
abbrev pub at_site : Before → ℕ → Before
at_site b n = record b { sites = n }
