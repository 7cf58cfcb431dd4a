-- The test for same types tells equal ones.
use Rattle.std.proofs.Common.{◌≡◌, ℕ, Bool, true, false, ◌&&◌, nat_eq, refl, ap, sym, subst, ◌∙◌, IsTrue, ◌↔◌}
use Rattle.std.proofs.lemmas.Bool.{eqb-true, eq-eqb}
use Rattle.c_tree.specs.declared.value.IntType.{IntType}
use Rattle.c_tree.specs.declared.value.IntType.TheVariants.{Char, Uchar, Int, Uint}
use Rattle.c_tree.specs.Tree.{CType, void, integer, pointer, array, struct, function, CTypes, no_types, more_types}
use Rattle.c_check_scopes.specs.Conversions.{has_integer}
use Rattle.c_check_scopes.specs.Types.{same_integer, same_type, same_types}
use Rattle.c_check_scopes.proofs.NumberLemmas.{not_so}

pub false_not_true : {A : Type 0} → false ≡ true → A
false_not_true h = absurd (not_so h)

and_first : (a b : Bool) → a && b ≡ true → a ≡ true
and_first true b h = refl
and_first false b h = false_not_true h

and_second : (a b : Bool) → a && b ≡ true → b ≡ true
and_second true b h = h
and_second false b h = false_not_true h

integer_equal : (i j : IntType) → same_integer i j ≡ true → i ≡ j
integer_equal Char Char h = refl
integer_equal Uchar Uchar h = refl
integer_equal Int Int h = refl
integer_equal Uint Uint h = refl
integer_equal i j h = false_not_true h

integer_self : (i : IntType) → same_integer i i ≡ true
integer_self Char = refl
integer_self Uchar = refl
integer_self Int = refl
integer_self Uint = refl

both_true : (a b : Bool) → a ≡ true → b ≡ true → a && b ≡ true
both_true a b p q = rw (p, q) refl

array_equal : (t u : CType) (m n : ℕ) → t ≡ u → m ≡ n → array t m ≡ array u n
array_equal t u m n p q = ap (λ x. array x m) p ∙ ap (array u) q

function_equal : (t u : CType) (ts us : CTypes) → t ≡ u → ts ≡ us → function t ts ≡ function u us
function_equal t u ts us p q = ap (λ x. function x ts) p ∙ ap (function u) q

more_equal : (t u : CType) (ts us : CTypes) → t ≡ u → ts ≡ us → more_types t ts ≡ more_types u us
more_equal t u ts us p q = ap (λ x. more_types x ts) p ∙ ap (more_types u) q

mutual
  same_equal : (t u : CType) → same_type t u ≡ true → t ≡ u
  same_equal void void h = refl
  same_equal (integer i) (integer j) h = ap integer (integer_equal i j h)
  same_equal (pointer t) (pointer u) h = ap pointer (same_equal t u h)
  same_equal (array t m) (array u n) h = array_equal t u m n (same_equal t u (and_first (same_type t u) (nat_eq m n) h)) (eqb-true m n (and_second (same_type t u) (nat_eq m n) h))
  same_equal (struct s) (struct r) h = ap struct (eqb-true s r h)
  same_equal (function t ts) (function u us) h = function_equal t u ts us (same_equal t u (and_first (same_type t u) (same_types ts us) h)) (sames_equal ts us (and_second (same_type t u) (same_types ts us) h))
  same_equal t u h = false_not_true h

  sames_equal : (ts us : CTypes) → same_types ts us ≡ true → ts ≡ us
  sames_equal no_types no_types h = refl
  sames_equal no_types (more_types u us) h = false_not_true h
  sames_equal (more_types t ts) no_types h = false_not_true h
  sames_equal (more_types t ts) (more_types u us) h = more_equal t u ts us (same_equal t u (and_first (same_type t u) (same_types ts us) h)) (sames_equal ts us (and_second (same_type t u) (same_types ts us) h))

mutual
  same_self : (t : CType) → same_type t t ≡ true
  same_self void = refl
  same_self (integer i) = integer_self i
  same_self (pointer t) = same_self t
  same_self (array t n) = both_true (same_type t t) (nat_eq n n) (same_self t) (eq-eqb n n refl)
  same_self (struct s) = eq-eqb s s refl
  same_self (function t ts) = both_true (same_type t t) (same_types ts ts) (same_self t) (sames_self ts)

  sames_self : (ts : CTypes) → same_types ts ts ≡ true
  sames_self no_types = refl
  sames_self (more_types t ts) = both_true (same_type t t) (same_types ts ts) (same_self t) (sames_self ts)

told_alike : (r b : Bool) → (r ≡ true → b ≡ true) → (b ≡ true → r ≡ true) → r ≡ b
told_alike true true f g = refl
told_alike true false f g = sym (f refl)
told_alike false true f g = g refl
told_alike false false f g = refl

pub same_told : (r : Bool) (t u : CType) → IsTrue r ↔ (t ≡ u) → r ≡ same_type t u
same_told r t u h = told_alike r (same_type t u) (λ p. subst (λ x. same_type t x ≡ true) (h.0 p) (same_self t)) (λ p. h.1 (same_equal t u p))

pub integer_same : (i : IntType) (t : CType) → same_type (integer i) t ≡ has_integer i t
integer_same i (integer j) = refl
integer_same i t = refl
