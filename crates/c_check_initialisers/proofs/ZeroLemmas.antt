-- The zeros of objects, with structs at most so many deep.
use Rattle.std.proofs.Common.{◌≡◌, ℕ, zero, suc, ◌+◌, ◌≤◌, ◌<◌, List, [], ◌∷◌, ◌++◌, length, take, get_or, map, Option, Some, None, Result, Ok, Err, OnOk, slice_get, refl, ap, sym, subst, ◌∙◌, arith, append_assoc, append-nil}
use Rattle.std.specs.Prelude.{option_map, unwrap_or}
use Rattle.std.proofs.lemmas.List.{map-append, map_push, take_all, take_more}
use Rattle.std.proofs.lemmas.Option.{slice_get-map}
use Rattle.c_check_initialisers.specs.Left.{AddsZeros, AddsAllZeros}
use Rattle.c_check_values.specs.StructMember.{StructMember}
use Rattle.c_check_values.specs.Known.{type_of}
use Rattle.c_check_values.specs.Shown.{known_of, knowns_of, members_types}
use Rattle.c_rules.specs.TypedExpression.{TypedExpression}
use Rattle.c_rules.specs.Initialisers.{typed_zero}
use Rattle.c_rules.specs.Scopes.{Env, Struct, incomplete, unknown_struct, defined_struct, struct_of, types_of_struct, type_of_member, layout_of}
use Rattle.c_check_values.specs.View.{member_of}
use Rattle.c_tree.specs.Layout.{Structs, flat, flat_with, flat_all_with, layout, members_of, or_none, repeat}
use Rattle.c_tree.specs.Tree.{CType, void, integer, pointer, array, struct, function}
use Rattle.c_tree.specs.View.{ctype_of}
use Rattle.c_check_initialisers.proofs.SlotLemmas.{repeat_more, types_are}

-- ## Steps

zeros_append : (start xs ys : List CType) (old mid new : List TypedExpression) → mid ≡ old ++ map typed_zero xs → new ≡ mid ++ map typed_zero ys → start ≡ xs ++ ys → new ≡ old ++ map typed_zero start
zeros_append start xs ys old mid new first second is =
    second
    ∙ (ap (λ z. z ++ map typed_zero ys) first ∙ (append_assoc old (map typed_zero xs) (map typed_zero ys) ∙ ap (λ z. old ++ z) (sym (map-append typed_zero xs ys) ∙ ap (map typed_zero) (sym is))))

-- one more of several objects of a type
pub copies_more : (structs : Structs) (depth k : ℕ) (t : CType) (start old new : List TypedExpression) → old ≡ start ++ map typed_zero (repeat k (flat_with (layout structs depth) t)) → AddsZeros structs depth t old new
    → new ≡ start ++ map typed_zero (repeat (k + 1) (flat_with (layout structs depth) t))
copies_more structs depth k t start old new before step =
    let xs : List CType = flat_with (layout structs depth) t in
    zeros_append (repeat (k + 1) xs) (repeat k xs) xs start old new before step (sym (repeat_more k xs))

-- all of them are an array
pub copies_end : (structs : Structs) (depth k n : ℕ) (t : CType) (start new : List TypedExpression) → k ≡ n → new ≡ start ++ map typed_zero (repeat k (flat_with (layout structs depth) t)) → AddsZeros structs depth (array t n) start new
copies_end structs depth k n t start new all before = before ∙ ap (λ m. start ++ map typed_zero (repeat m (flat_with (layout structs depth) t))) all

members_more : (ms : List StructMember) (i : ℕ) (m : StructMember) → i < length ms → m ≡ get_or ms i m → members_types (take (i + 1) ms) ≡ members_types (take i ms) ++ ctype_of m.ctype ∷ []
members_more ms i m lt is =
    ap members_types (take_more ms i m lt ∙ ap (λ x. take i ms ++ x ∷ []) (sym is))
    ∙ (ap (map type_of) (map_push known_of (take i ms) m) ∙ map_push type_of (knowns_of (take i ms)) (known_of m))

flat_all_push : (f : ℕ → List CType) (ts : List CType) (t : CType) → flat_all_with f (ts ++ t ∷ []) ≡ flat_all_with f ts ++ flat_with f t
flat_all_push f [] t = append-nil (flat_with f t)
flat_all_push f (u ∷ ts) t = ap (λ z. flat_with f u ++ z) (flat_all_push f ts t) ∙ sym (append_assoc (flat_with f u) (flat_all_with f ts) (flat_with f t))

-- one more of the members
pub member_more : (structs : Structs) (depth i : ℕ) (ms : List StructMember) (m : StructMember) (start old new : List TypedExpression) → i < length ms → m ≡ get_or ms i m
    → old ≡ start ++ map typed_zero (flat_all_with (layout structs depth) (members_types (take i ms))) → AddsZeros structs depth (ctype_of m.ctype) old new
    → new ≡ start ++ map typed_zero (flat_all_with (layout structs depth) (members_types (take (i + 1) ms)))
member_more structs depth i ms m start old new lt is before step =
    let f : ℕ → List CType = layout structs depth in
    zeros_append (flat_all_with f (members_types (take (i + 1) ms))) (flat_all_with f (members_types (take i ms))) (flat_with f (ctype_of m.ctype)) start old new before step
    (ap (flat_all_with f) (members_more ms i m lt is) ∙ flat_all_push f (members_types (take i ms)) (ctype_of m.ctype))

pub members_end : (structs : Structs) (depth i : ℕ) (ms : List StructMember) (start new : List TypedExpression) → length ms ≤ i → new ≡ start ++ map typed_zero (flat_all_with (layout structs depth) (members_types (take i ms)))
    → AddsAllZeros structs depth (members_types ms) start new
members_end structs depth i ms start new over before = before ∙ ap (λ xs. start ++ map typed_zero (flat_all_with (layout structs depth) (members_types xs))) (take_all i ms over)

-- ## Structs

abbrev types_in : Struct → List CType
types_in incomplete = []
types_in (unknown_struct f fs) = []
types_in (defined_struct ms) = map type_of_member ms

known_at : (o : Option Struct) → or_none (option_map types_of_struct o) ≡ types_in (unwrap_or o incomplete)
known_at (Some (unknown_struct f fs)) = refl
known_at o = refl

members_known : (env : Env) (s : ℕ) → members_of (layout_of env) s ≡ types_in (struct_of env s)
members_known env s = ap or_none (slice_get-map types_of_struct env.structs s) ∙ known_at (slice_get env.structs s)

-- the members of a struct with a definition
pub members_are : (env : Env) (s : ℕ) (ms : List StructMember) → struct_of env s ≡ defined_struct (map member_of (knowns_of ms)) → members_of (layout_of env) s ≡ members_types ms
members_are env s ms is = members_known env s ∙ (ap types_in is ∙ types_are ms)

pub struct_added : {E : Type 0} (r : Result (Unit {0}) E) (env : Env) (s depth inner : ℕ) (ms : List StructMember) (old new : List TypedExpression) → struct_of env s ≡ defined_struct (map member_of (knowns_of ms)) → depth ≡ suc inner
    → OnOk r (AddsAllZeros (layout_of env) inner (members_types ms) old new) → OnOk r (AddsZeros (layout_of env) depth (struct s) old new)
struct_added (Ok u) env s depth inner ms old new is deep step =
    step ∙ ((λ i. old ++ map typed_zero (flat_all_with (layout (layout_of env) inner) (sym (members_are env s ms is) i))) ∙ ap (λ d. old ++ map typed_zero (layout (layout_of env) d s)) (sym deep))
struct_added (Err e) env s depth inner ms old new is deep step = tt

none_at : (structs : Structs) (s : ℕ) (old : List TypedExpression) → members_of structs s ≡ [] → (depth : ℕ) → AddsZeros structs depth (struct s) old old
none_at structs s old are zero = sym (append-nil old)
none_at structs s old are (suc depth) = sym (append-nil old) ∙ ap (λ us. old ++ map typed_zero (flat_all_with (layout structs depth) us)) (sym are)

pub struct_none : (env : Env) (s depth : ℕ) (old : List TypedExpression) → struct_of env s ≡ incomplete → AddsZeros (layout_of env) depth (struct s) old old
struct_none env s depth old is = none_at (layout_of env) s old (members_known env s ∙ ap types_in is) depth

-- a call's clause on an equal type
pub added_as : {E : Type 0} (r : Result (Unit {0}) E) (structs : Structs) (depth : ℕ) (t u : CType) (old new : List TypedExpression) → t ≡ u → OnOk r (AddsZeros structs depth u old new) → OnOk r (AddsZeros structs depth t old new)
added_as r structs depth t u old new is h = subst (λ x. OnOk r (AddsZeros structs depth x old new)) (sym is) h

-- with structs as deep as there are structs, behind nothing
pub zeros_are : (structs : Structs) (depth : ℕ) (t : CType) (old new : List TypedExpression) → depth ≡ length structs → old ≡ [] → AddsZeros structs depth t old new → new ≡ map typed_zero (flat structs t)
zeros_are structs depth t old new deep none adds = adds ∙ (λ i. none i ++ map typed_zero (flat_with (layout structs (deep i)) t))

-- ## How often the functions call each other

abbrev rank_with : (ℕ → ℕ) → CType → ℕ
rank_with f void = 0
rank_with f (integer i) = 0
rank_with f (pointer t) = 0
rank_with f (array t n) = suc (rank_with f t)
rank_with f (struct s) = f s
rank_with f (function t ts) = 0

abbrev rank_all_with : (ℕ → ℕ) → List CType → ℕ
rank_all_with f [] = 0
rank_all_with f (t ∷ ts) = rank_with f t + rank_all_with f ts

abbrev struct_rank : Structs → ℕ → ℕ → ℕ
struct_rank structs zero s = 0
struct_rank structs (suc depth) s = suc (rank_all_with (struct_rank structs depth) (members_of structs s))

-- a type has more than its parts
abbrev pub rank : Structs → (depth : ℕ) → CType → ℕ
rank structs depth t = rank_with (struct_rank structs depth) t

abbrev pub ranks : Structs → (depth : ℕ) → List CType → ℕ
ranks structs depth ts = rank_all_with (struct_rank structs depth) ts

pub rank_inside : (env : Env) (s depth inner : ℕ) (ms : List StructMember) → struct_of env s ≡ defined_struct (map member_of (knowns_of ms)) → depth ≡ suc inner → rank (layout_of env) depth (struct s) ≡ suc (ranks (layout_of env) inner (members_types ms))
rank_inside env s depth inner ms is deep =
    ap (λ d. struct_rank (layout_of env) d s) deep ∙ ap (λ ts. suc (rank_all_with (struct_rank (layout_of env) inner) ts)) (members_are env s ms is)

rank_among : (f : ℕ → ℕ) (ms : List StructMember) (i : ℕ) (m : StructMember) → i < length ms → m ≡ get_or ms i m → rank_with f (ctype_of m.ctype) ≤ rank_all_with f (members_types ms)
rank_among f [] i m lt is = absurd (omega (arith, lt))
rank_among f (n ∷ ms) zero m lt is = omega (arith, ap (λ (x : StructMember). rank_with f (ctype_of x.ctype)) is)
rank_among f (n ∷ ms) (suc i) m lt is = omega (arith, rank_among f ms i m (omega (arith, lt)) is)

pub rank_of_member : (structs : Structs) (depth : ℕ) (ms : List StructMember) (i : ℕ) (m : StructMember) → i < length ms → m ≡ get_or ms i m → rank structs depth (ctype_of m.ctype) ≤ ranks structs depth (members_types ms)
rank_of_member structs depth ms i m lt is = rank_among (struct_rank structs depth) ms i m lt is
