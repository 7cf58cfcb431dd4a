-- A value of a scalar type may be assigned to an object of that type, and stays as it is.
use Rattle.std.proofs.Common.{◌≡◌, true, ◌&&◌, refl, ap₂}
use Rattle.std.specs.Cmp.{nat_eq_equiv}
use Rattle.c_tree.specs.declared.value.IntType.{IntType}
use Rattle.c_tree.specs.declared.value.IntType.TheVariants.{Char, Uchar, Int, Uint}
use Rattle.c_tree.specs.Tree.{CType, void, integer, pointer, array, struct, function, CTypes, no_types, more_types}
use Rattle.c_rules.specs.Types.{same_integer, same_type, same_types}
use Rattle.null_calls_laws.specs.OwnTypes.{ValuesFitTheirTypes}

integer_itself : (i : IntType) → same_integer i i ≡ true
integer_itself Char = refl
integer_itself i = refl

mutual
  pub type_itself : (t : CType) → same_type t t ≡ true
  type_itself void = refl
  type_itself (integer i) = integer_itself i
  type_itself (pointer t) = type_itself t
  type_itself (array t n) = ap₂ (λ a b. a && b) (type_itself t) (nat_eq_equiv.refl n)
  type_itself (struct s) = nat_eq_equiv.refl s
  type_itself (function t ts) = ap₂ (λ a b. a && b) (type_itself t) (types_itself ts)

  types_itself : (ts : CTypes) → same_types ts ts ≡ true
  types_itself no_types = refl
  types_itself (more_types t ts) = ap₂ (λ a b. a && b) (type_itself t) (types_itself ts)

pub values_fit : ValuesFitTheirTypes
values_fit (integer Char) e h = record { fitting = refl; same = refl }
values_fit (integer Uchar) e h = record { fitting = refl; same = refl }
values_fit (integer Int) e h = record { fitting = refl; same = refl }
values_fit (integer Uint) e h = record { fitting = refl; same = refl }
values_fit (pointer t) e h = record { fitting = type_itself (pointer t); same = refl }
values_fit t e h = absurd h
