-- Tests of types, and types as declarators make them.
use Rattle.std.proofs.Common.{◌≡◌, ℕ, ◌≤◌, ◌<◌, true, List, map, Option, Some, None, slice_get, unwrap_or, nat_lt, nat_eq, refl, ap, ap₂, ◌∙◌, arith}
use Rattle.std.specs.Prelude.{option_map}
use Rattle.std.proofs.lemmas.Bool.Decides.{Decides-ltb, Decides-eqb}
use Rattle.std.proofs.lemmas.Option.{slice_get-map}
use Rattle.c_tree.specs.declared.value.IntType.{IntType}
use Rattle.c_tree.specs.declared.value.IntType.TheVariants.{Char, Uchar, Int, Uint}
use Rattle.c_tree.specs.Tree.{CType, void, integer, pointer, array, struct, function, CTypes, no_types, more_types}
use Rattle.c_tree.specs.Layout.{Structs, cells}
use Rattle.c_tree.specs.Operands.{IsScalar, IsResult, IsComplete}
use Rattle.c_rules.specs.Types.{is_void, same_integer, same_type, same_types, is_scalar, is_result}
use Rattle.c_rules.specs.Scopes.{Env, Struct, incomplete, defined_struct, Member, struct_of, types_of_struct, type_of_member, layout_of}
use Rattle.c_rules.specs.Conversions.{is_defined, complete}
use Rattle.c_rules_laws.specs.MadeTypes.{NotArray, Made, AllMade, FewCells, IsSized}
use Rattle.c_rules_laws.proofs.Holding.{Holds, demand_holds, and_left, and_right}

-- ## Tests of types

pub integer_is : (i j : IntType) → same_integer i j ≡ true → i ≡ j
integer_is Char Char h = refl
integer_is Uchar Uchar h = refl
integer_is Int Int h = refl
integer_is Uint Uint h = refl
integer_is i j h = absurd (cc)

pub number_is : (m n : ℕ) → nat_eq m n ≡ true → m ≡ n
number_is m n h = (Decides-eqb m n).0 h

mutual
  pub type_is : (t u : CType) → same_type t u ≡ true → t ≡ u
  type_is void void h = refl
  type_is (integer i) (integer j) h = ap integer (integer_is i j h)
  type_is (pointer t) (pointer u) h = ap pointer (type_is t u h)
  type_is (array t m) (array u n) h = ap₂ (λ x y. array x y) (type_is t u (and_left (same_type t u) (nat_eq m n) h)) (number_is m n (and_right (same_type t u) (nat_eq m n) h))
  type_is (struct s) (struct r) h = ap struct (number_is s r h)
  type_is (function t ts) (function u us) h = ap₂ (λ x y. function x y) (type_is t u (and_left (same_type t u) (same_types ts us) h)) (types_are ts us (and_right (same_type t u) (same_types ts us) h))
  type_is t u h = absurd (cc)

  pub types_are : (ts us : CTypes) → same_types ts us ≡ true → ts ≡ us
  types_are no_types no_types h = refl
  types_are (more_types t ts) (more_types u us) h = ap₂ (λ x y. more_types x y) (type_is t u (and_left (same_type t u) (same_types ts us) h)) (types_are ts us (and_right (same_type t u) (same_types ts us) h))
  types_are ts us h = absurd (cc)

pub scalar_is : (t : CType) → is_scalar t ≡ true → IsScalar t
scalar_is (integer i) h = tt
scalar_is (pointer t) h = tt
scalar_is t h = absurd (cc)

pub result_is : (t : CType) → is_result t ≡ true → IsResult t
result_is void h = tt
result_is (integer i) h = tt
result_is (pointer t) h = tt
result_is t h = absurd (cc)

pub result_not_array : (t : CType) → IsResult t → NotArray t
result_not_array (array t n) h = absurd h
result_not_array t h = tt

pub scalar_not_array : (t : CType) → IsScalar t → NotArray t
scalar_not_array (array t n) h = absurd h
scalar_not_array t h = tt

pub scalar_result : (t : CType) → IsScalar t → IsResult t
scalar_result void h = tt
scalar_result t h = h

pub void_is : (t : CType) → is_void t ≡ true → t ≡ void
void_is void h = refl
void_is t h = absurd (cc)

pub few_unless_array : (structs : Structs) (t : CType) → NotArray t → FewCells structs t
few_unless_array structs (array t n) h = absurd h
few_unless_array structs t h = tt

few_from : (structs : Structs) (t : CType) → cells structs t ≤ 65536 → FewCells structs t
few_from structs (array t n) h = omega (arith, h)
few_from structs t h = tt

pub sized_few : (structs : Structs) (t : CType) → Made structs t → cells structs t ≤ 65536 → IsSized structs t
sized_few structs t m h = record { made = m; few = few_from structs t h }

-- ## Types of known size

pub defined_at : (env : Env) (s : ℕ) (ms : List Member) → struct_of env s ≡ defined_struct ms → slice_get (layout_of env) s ≡ Some (Some (map type_of_member ms))
defined_at env s ms e = slice_get-map types_of_struct env.structs s ∙ by_entry (slice_get env.structs s) e
  where
    by_entry : (o : Option Struct) → unwrap_or o incomplete ≡ defined_struct ms → option_map types_of_struct o ≡ Some (Some (map type_of_member ms))
    by_entry None f = absurd (let g : incomplete ≡ defined_struct ms = f in cc)
    by_entry (Some x) f = ap (λ y. Some (types_of_struct y)) f

struct_known : (env : Env) (at s : ℕ) (o : Option Struct) → slice_get env.structs s ≡ o → Holds (λ _. IsComplete (layout_of env) (struct s)) (is_defined at (unwrap_or o incomplete))
struct_known env at s (Some (defined_struct ms)) e = (_, slice_get-map types_of_struct env.structs s ∙ ap (option_map types_of_struct) e)
struct_known env at s o e = tt

pub complete_known : (env : Env) (at : ℕ) (t : CType) → Made (layout_of env) t → Holds (λ _. IsComplete (layout_of env) t) (complete env at t)
complete_known env at (array t n) h = demand_holds (λ _. IsComplete (layout_of env) (array t n)) (nat_lt 0 n) 3 at _ (λ e. let l : 0 < n = (Decides-ltb 0 n).0 e in (omega (arith, l), h.1))
complete_known env at (struct s) h = struct_known env at s (slice_get env.structs s) refl
complete_known env at t h = tt

-- ## More structs are defined

module _ (old new : Structs) (kept : (s : ℕ) (ts : List CType) → slice_get old s ≡ Some (Some ts) → slice_get new s ≡ Some (Some ts)) where
  pub complete_kept : (t : CType) → IsComplete old t → IsComplete new t
  complete_kept (integer i) h = tt
  complete_kept (pointer t) h = tt
  complete_kept (array t n) h = (h.0, complete_kept t h.1)
  complete_kept (struct s) h = (h.0, kept s h.0 h.1)
  complete_kept t h = absurd h

  mutual
    pub made_kept : (t : CType) → Made old t → Made new t
    made_kept (pointer t) h = (h.0, made_kept t h.1)
    made_kept (array t n) h = (h.0, complete_kept t h.1, made_kept t h.2)
    made_kept (function t ts) h = (h.0, h.1, made_kept t h.2, all_made_kept ts h.3)
    made_kept t h = tt

    pub all_made_kept : (ts : CTypes) → AllMade old ts → AllMade new ts
    all_made_kept no_types h = tt
    all_made_kept (more_types t ts) h = (h.0, made_kept t h.1, all_made_kept ts h.2)
