-- An integer constant is an int or unsigned, and a size is unsigned.
use Rattle.std.proofs.Common.{◌≡◌, ℕ, ◌^◌, ◌<◌, pos, Bool, true, false, if◌then◌else◌, nat_lt, nat_le, refl}
use Rattle.std.proofs.lemmas.Bool.{ltb-true}
use Rattle.c_tree.specs.Tree.{CType}
use Rattle.c_tree.specs.Layout.{cells, sizeof}
use Rattle.c_rules.specs.Scopes.{Env, layout_of}
use Rattle.c_rules.specs.TypedExpression.{TypedExpression}
use Rattle.c_rules.specs.PrimaryExpressions.{typed_int, typed_unsigned, integer_expression}
use Rattle.c_rules.specs.Conversions.{complete}
use Rattle.c_rules.specs.UnaryExpressions.{size_of}
use Rattle.c_rules.proofs.Below.{Holds, demand_holds, after_demands}

-- what holds of both holds of it
pub integer_cases : (P : TypedExpression → Type 0) (n : ℕ) (u : Bool) → (n < 2 ^ 31 → P (typed_int (pos n))) → P (typed_unsigned n) → P (integer_expression n u)
integer_cases P n true h k = k
integer_cases P n false h k = by_size (nat_lt n (2 ^ 31)) refl
  where
    by_size : (t : Bool) → nat_lt n (2 ^ 31) ≡ t → P (if t then typed_int (pos n) else typed_unsigned n)
    by_size true e = h (ltb-true n (2 ^ 31) e)
    by_size false e = k

-- what holds of unsigned constants holds of a size
pub size_holds : (P : TypedExpression → Type 0) (env : Env) (at place : ℕ) (t : CType) → ((n : ℕ) → P (typed_unsigned n)) → Holds P (size_of env at place t)
size_holds P env at place t h =
    after_demands P (complete env at t) _ (λ _. demand_holds P (nat_le (cells (layout_of env) t) 65536) 13 place (typed_unsigned (sizeof (layout_of env) t)) (h (sizeof (layout_of env) t)))
