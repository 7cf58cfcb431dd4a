-- The test of types tells whether they are the same.
use Rattle.std.proofs.Common.{◌≡◌, ◌↔◌, true, nat_eq, ap, ap₂, subst, refl}
use Rattle.std.specs.Cmp.{nat_eq_equiv}
use Rattle.std.proofs.lemmas.Bool.{false≢true}
use Rattle.c_tree.specs.declared.value.IntType.{IntType}
use Rattle.c_tree.specs.declared.value.IntType.TheVariants.{Char, Uchar, Int, Uint}
use Rattle.c_tree.specs.Tree.{CType, void, integer, pointer, array, struct, function, CTypes, no_types, more_types}
use Rattle.c_meaning.specs.CallGraph.{rank_of, same_type, same_types}
use Rattle.c_meaning.proofs.Members.{and_left, and_right, and_both, same_number}

rank_same : (i j : IntType) → nat_eq (rank_of i) (rank_of j) ≡ true → i ≡ j
rank_same Char Char h = refl
rank_same Uchar Uchar h = refl
rank_same Int Int h = refl
rank_same Uint Uint h = refl
rank_same _ _ h = absurd (false≢true h)

mutual
  type_is : (t u : CType) → same_type t u ≡ true → t ≡ u
  type_is void void h = refl
  type_is (integer i) (integer j) h = ap integer (rank_same i j h)
  type_is (pointer t) (pointer u) h = ap pointer (type_is t u h)
  type_is (array t n) (array u m) h = ap₂ (λ x y. array x y) (type_is t u (and_left (same_type t u) (nat_eq n m) h)) (same_number n m (and_right (same_type t u) (nat_eq n m) h))
  type_is (struct s) (struct r) h = ap struct (same_number s r h)
  type_is (function t ts) (function u us) h = ap₂ (λ x y. function x y) (type_is t u (and_left (same_type t u) (same_types ts us) h)) (types_are ts us (and_right (same_type t u) (same_types ts us) h))
  type_is _ _ h = absurd (false≢true h)

  types_are : (ts us : CTypes) → same_types ts us ≡ true → ts ≡ us
  types_are no_types no_types h = refl
  types_are (more_types t ts) (more_types u us) h = ap₂ (λ x y. more_types x y) (type_is t u (and_left (same_type t u) (same_types ts us) h)) (types_are ts us (and_right (same_type t u) (same_types ts us) h))
  types_are _ _ h = absurd (false≢true h)

mutual
  itself : (t : CType) → same_type t t ≡ true
  itself void = refl
  itself (integer i) = nat_eq_equiv.refl (rank_of i)
  itself (pointer t) = itself t
  itself (array t n) = and_both (same_type t t) (nat_eq n n) (itself t) (nat_eq_equiv.refl n)
  itself (struct s) = nat_eq_equiv.refl s
  itself (function t ts) = and_both (same_type t t) (same_types ts ts) (itself t) (all_itself ts)

  all_itself : (ts : CTypes) → same_types ts ts ≡ true
  all_itself no_types = refl
  all_itself (more_types t ts) = and_both (same_type t t) (same_types ts ts) (itself t) (all_itself ts)

pub types_tell : (t u : CType) → same_type t u ≡ true ↔ t ≡ u
types_tell t u = (type_is t u, λ e. subst (λ u. same_type t u ≡ true) e (itself t))
