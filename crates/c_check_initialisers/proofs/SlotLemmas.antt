-- Elements and members one after another.
use Rattle.std.proofs.Common.{◌≡◌, ℕ, zero, suc, ◌+◌, ◌-◌, ◌<◌, List, [], ◌∷◌, ◌++◌, length, take, drop, get_or, map, Result, Ok, Err, OnOk, refl, ap, sym, ◌∙◌, arith, append_assoc, append-nil}
use Rattle.std.proofs.lemmas.List.{length-drop, map-append, map_push, take_all, take_more}
use Rattle.c_check_values.specs.StructMember.{StructMember}
use Rattle.c_check_values.specs.Known.{type_of}
use Rattle.c_check_values.specs.Shown.{known_of, knowns_of, members_types}
use Rattle.c_rules.specs.TypedExpression.{TypedExpression}
use Rattle.c_check_initialisers.specs.SlotsLeft.{left_from}
use Rattle.c_rules.specs.Initialisers.{Slots, each, members_of_struct, typed_zero, zeros}
use Rattle.c_rules.specs.Scopes.{Struct, defined_struct, type_of_member}
use Rattle.c_check_values.specs.View.{member_of}
use Rattle.c_tree.specs.declared.tree.CType.{CType as TypeTree}
use Rattle.c_tree.specs.Layout.{Structs, flat, flat_all, repeat}
use Rattle.c_tree.specs.Tree.{CType}
use Rattle.c_tree.specs.View.{ctype_of, ctypes_of}

zeros_append : (whole xs ys : List CType) (old mid new : List TypedExpression) → mid ≡ old ++ map typed_zero xs → new ≡ mid ++ map typed_zero ys → whole ≡ xs ++ ys → new ≡ old ++ map typed_zero whole
zeros_append whole xs ys old mid new first second is =
    second
    ∙ (ap (λ z. z ++ map typed_zero ys) first ∙ (append_assoc old (map typed_zero xs) (map typed_zero ys) ∙ ap (λ z. old ++ z) (sym (map-append typed_zero xs ys) ∙ ap (map typed_zero) (sym is))))

pub repeat_more : (k : ℕ) (xs : List CType) → repeat k xs ++ xs ≡ repeat (k + 1) xs
repeat_more zero xs = sym (append-nil xs)
repeat_more (suc k) xs =
    let one : suc (k + 1) ≡ suc k + 1 = omega arith in append_assoc xs (repeat k xs) xs ∙ (ap (λ z. xs ++ z) (repeat_more k xs) ∙ ap (λ n. repeat n xs) one)

-- one more of several objects of a type
pub copy_more : (structs : Structs) (k : ℕ) (t : CType) (start old new : List TypedExpression) → old ≡ start ++ map typed_zero (repeat k (flat structs t)) → new ≡ old ++ map typed_zero (flat structs t)
    → new ≡ start ++ map typed_zero (repeat (k + 1) (flat structs t))
copy_more structs k t start old new before step =
    zeros_append (repeat (k + 1) (flat structs t)) (repeat k (flat structs t)) (flat structs t) start old new before step (sym (repeat_more k (flat structs t)))

flat_all_push : (structs : Structs) (ts : List CType) (t : CType) → flat_all structs (ts ++ t ∷ []) ≡ flat_all structs ts ++ flat structs t
flat_all_push structs [] t = append-nil (flat structs t)
flat_all_push structs (u ∷ ts) t = ap (λ z. flat structs u ++ z) (flat_all_push structs ts t) ∙ sym (append_assoc (flat structs u) (flat_all structs ts) (flat structs t))

types_more : (ts : List TypeTree) (i : ℕ) (t : TypeTree) → i < length ts → t ≡ get_or ts i t → ctypes_of (take (i + 1) ts) ≡ ctypes_of (take i ts) ++ ctype_of t ∷ []
types_more ts i t lt is = ap ctypes_of (take_more ts i t lt ∙ ap (λ x. take i ts ++ x ∷ []) (sym is)) ∙ map_push ctype_of (take i ts) t

-- one more of objects of these types
pub each_more : (structs : Structs) (ts : List TypeTree) (i : ℕ) (t : TypeTree) (start old new : List TypedExpression) → i < length ts → t ≡ get_or ts i t → old ≡ start ++ map typed_zero (flat_all structs (ctypes_of (take i ts)))
    → new ≡ old ++ map typed_zero (flat structs (ctype_of t)) → new ≡ start ++ map typed_zero (flat_all structs (ctypes_of (take (i + 1) ts)))
each_more structs ts i t start old new lt is before step =
    zeros_append (flat_all structs (ctypes_of (take (i + 1) ts))) (flat_all structs (ctypes_of (take i ts))) (flat structs (ctype_of t)) start old new before step
    (ap (flat_all structs) (types_more ts i t lt is) ∙ flat_all_push structs (ctypes_of (take i ts)) (ctype_of t))

-- the types of members
pub member_more : (ms : List StructMember) (i : ℕ) (m : StructMember) (ts : List TypeTree) (t : TypeTree) → i < length ms → m ≡ get_or ms i m → ctypes_of ts ≡ members_types (take i ms) → ctype_of t ≡ ctype_of m.ctype
    → ctypes_of (ts ++ t ∷ []) ≡ members_types (take (i + 1) ms)
member_more ms i m ts t lt is before copied =
    map_push ctype_of ts t
    ∙ ((λ j. before j ++ copied j ∷ [])
    ∙ sym (ap members_types (take_more ms i m lt ∙ ap (λ x. take i ms ++ x ∷ []) (sym is)) ∙ (ap (map type_of) (map_push known_of (take i ms) m) ∙ map_push type_of (knowns_of (take i ms)) (known_of m))))

pub members_step : (ms : List StructMember) (i : ℕ) (m : StructMember) (ts : List TypeTree) (t : TypeTree) (new : List TypeTree) → i < length ms → m ≡ get_or ms i m → ctypes_of ts ≡ members_types (take i ms) → ctype_of t ≡ ctype_of m.ctype → new ≡ ts ++ t ∷ []
    → ctypes_of new ≡ members_types (take (i + 1) ms)
members_step ms i m ts t new lt is before copied grown = ap ctypes_of grown ∙ member_more ms i m ts t lt is before copied

pub types_are : (ms : List StructMember) → map type_of_member (map member_of (knowns_of ms)) ≡ members_types ms
types_are [] = refl
types_are (m ∷ ms) = ap (λ ts. ctype_of m.ctype ∷ ts) (types_are ms)

-- the members of a struct with a definition
pub members_slots : (s : Struct) (ms : List StructMember) (ts : List TypeTree) → s ≡ defined_struct (map member_of (knowns_of ms)) → ctypes_of ts ≡ members_types ms → each (ctypes_of ts) ≡ members_of_struct s
members_slots s ms ts is copied = ap each (copied ∙ sym (types_are ms)) ∙ ap members_of_struct (sym is)

types_drop : (i : ℕ) (ts : List TypeTree) → ctypes_of (drop i ts) ≡ drop i (ctypes_of ts)
types_drop zero ts = refl
types_drop (suc i) [] = refl
types_drop (suc i) (t ∷ ts) = types_drop i ts

-- the zeros of those that are left
pub each_behind : {E : Type 0} (r : Result (Unit {0}) E) (structs : Structs) (s : Slots) (xs ys left : List TypeTree) (i : ℕ) (old new : List TypedExpression) → s ≡ each (ctypes_of xs) → ys ≡ xs → left ≡ take (length ys - i) (drop i ys)
    → OnOk r (new ≡ old ++ zeros structs (each (ctypes_of left))) → OnOk r (new ≡ old ++ zeros structs (left_from s i))
each_behind (Ok u) structs s xs ys left i old new is same front h =
    h ∙ (ap (λ l. old ++ zeros structs (each l)) (ap ctypes_of (front ∙ (take_all (length ys - i) (drop i ys) (omega (arith, length-drop i ys)) ∙ ap (drop i) same)) ∙ types_drop i xs) ∙ ap (λ z. old ++ zeros structs (left_from z i)) (sym is))
each_behind (Err e) structs s xs ys left i old new is same front h = tt
