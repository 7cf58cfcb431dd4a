-- What the loops and the calls of a table of structs keep and tell.
use Rattle.std.proofs.Common.{◌≡◌, ℕ, zero, suc, ◌+◌, ◌<◌, ◌≤◌, List, [], ◌∷◌, length, map, drop, get_or, take, Option, Some, None, slice_get, set, refl, ap, sym, subst, ◌∙◌, arith, add-one, drop-cons}
use Rattle.std.proofs.lemmas.List.{length-append, length-map, set_past}
use Rattle.std.proofs.lemmas.Option.{slice_get-map}
use Rattle.std.specs.Prelude.{◌*◌, ◌^◌, SomeIff, option_map, slice_index_or, unwrap_or}
use Rattle.c_tree.specs.Tree.{CType, array, struct, void}
use Rattle.c_tree.specs.View.{ctype_of}
use Rattle.c_tree.specs.Layout.{Structs, Extent, cells, cells_of_all, first_cell, flat, flat_all, extent_with, extent_after, put_after, sizeof}
use Rattle.c_check_scopes.specs.declared.structs.StructMember.{StructMember}
use Rattle.c_check_scopes.specs.declared.structs.Defined.{Defined}
use Rattle.c_check_scopes.specs.Known.{Known, layout_of, type_of}
use Rattle.c_check_scopes.specs.Shown.{shown, known_of, knowns_of, defined_members, members_types}
use Rattle.c_check_scopes.specs.Measured.{cells_kept, counted, counted_all, extent_kept}
use Rattle.c_check_scopes.specs.Held.{AllInAll, IsDefined}
use Rattle.c_check_scopes.specs.Laid.{AreLaid, IsMeasured}
use Rattle.c_check_scopes.proofs.LaidLemmas.{map_set, cells_told, cells_of_all_told, extent_told, laid_set, whole_struct}

-- the element at a place of a list, and what stands after it
pub at_place : {A : Type 0} (es : List A) (i : ℕ) (d : A) → i < length es → d ≡ get_or es i d → drop i es ≡ d ∷ drop (i + 1) es
at_place es i d h q = rw (add-one, drop-cons es i d h, ← q) refl

pub cells_on : (f : ℕ → ℕ) (ms : List StructMember) (i : ℕ) (m : StructMember) (sum each new whole : ℕ) → i < length ms → m ≡ get_or ms i m → new ≡ sum + each → each ≡ counted f (ctype_of m.ctype)
    → sum + counted_all f (members_types (drop i ms)) ≡ whole → new + counted_all f (members_types (drop (i + 1) ms)) ≡ whole
cells_on f ms i m sum each new whole h q n e inv =
    let p : sum + (counted f (ctype_of m.ctype) + counted_all f (members_types (drop (i + 1) ms))) ≡ whole = subst (λ l. sum + counted_all f (members_types l) ≡ whole) (at_place ms i m h q) inv in
    omega (arith, p, n, e)

pub extent_on : (f : ℕ → Extent) (ms : List StructMember) (i : ℕ) (m : StructMember) (sum each new whole : Extent) → i < length ms → m ≡ get_or ms i m → new ≡ put_after sum each → each ≡ extent_with f (ctype_of m.ctype)
    → extent_after f sum (members_types (drop i ms)) ≡ whole → extent_after f new (members_types (drop (i + 1) ms)) ≡ whole
extent_on f ms i m sum each new whole h q n e inv =
    let p : extent_after f (put_after sum (extent_with f (ctype_of m.ctype))) (members_types (drop (i + 1) ms)) ≡ whole = subst (λ l. extent_after f sum (members_types l) ≡ whole) (at_place ms i m h q) inv in
    ap (λ x. extent_after f x (members_types (drop (i + 1) ms))) (n ∙ ap (put_after sum) e) ∙ p

-- ## Numbers below 2^32

-- what an array takes is no less than what an element takes
pub many_elements : (n each : ℕ) → (n ≡ 0 → ⊥) → ¬ (each < 2 ^ 32) → ¬ (n * each < 2 ^ 32)
many_elements zero each h m p = absurd (h refl)
many_elements (suc n) each h m p =
    let q : suc n * each ≡ each + n * each = grind arith in m (omega (arith, p, q))

-- none is told of members one of which takes so much, alone or behind others
pub no_member : (f : ℕ → ℕ) (r : Option ℕ) (ms : List StructMember) (i : ℕ) (m : StructMember) (sum : ℕ) → r ≡ None → i < length ms → m ≡ get_or ms i m
    → sum + counted_all f (members_types (drop i ms)) ≡ counted_all f (members_types ms) → ¬ (counted f (ctype_of m.ctype) < 2 ^ 32) → SomeIff r (counted_all f (members_types ms) < 2 ^ 32) (counted_all f (members_types ms))
no_member f r ms i m sum none h q inv many =
    let p : sum + (counted f (ctype_of m.ctype) + counted_all f (members_types (drop (i + 1) ms))) ≡ counted_all f (members_types ms) = subst (λ l. sum + counted_all f (members_types l) ≡ counted_all f (members_types ms)) (at_place ms i m h q) inv in
    subst (λ o. SomeIff o (counted_all f (members_types ms) < 2 ^ 32) (counted_all f (members_types ms))) (sym none) (λ small. many (omega (arith, p, small)))

pub none_behind : (f : ℕ → ℕ) (r : Option ℕ) (ms : List StructMember) (i : ℕ) (m : StructMember) (sum each : ℕ) → r ≡ None → i < length ms → m ≡ get_or ms i m → each ≡ counted f (ctype_of m.ctype)
    → sum + counted_all f (members_types (drop i ms)) ≡ counted_all f (members_types ms) → ¬ (sum + each < 2 ^ 32) → SomeIff r (counted_all f (members_types ms) < 2 ^ 32) (counted_all f (members_types ms))
none_behind f r ms i m sum each none h q e inv many =
    let p : sum + (counted f (ctype_of m.ctype) + counted_all f (members_types (drop (i + 1) ms))) ≡ counted_all f (members_types ms) = subst (λ l. sum + counted_all f (members_types l) ≡ counted_all f (members_types ms)) (at_place ms i m h q) inv in
    subst (λ o. SomeIff o (counted_all f (members_types ms) < 2 ^ 32) (counted_all f (members_types ms))) (sym none) (λ small. many (omega (arith, p, e, small)))

nothing_left : (ms : List StructMember) (i : ℕ) → length ms ≤ i → drop i ms ≡ []
nothing_left [] zero h = refl
nothing_left [] (suc i) h = refl
nothing_left (m ∷ ms) zero h = absurd (omega (arith, h))
nothing_left (m ∷ ms) (suc i) h = nothing_left ms i (omega (arith, h))

pub members_told : (f : ℕ → ℕ) (ms : List StructMember) (i sum : ℕ) → length ms ≤ i → sum + counted_all f (members_types (drop i ms)) ≡ counted_all f (members_types ms) → sum < 2 ^ 32
    → (counted_all f (members_types ms) < 2 ^ 32) × (sum ≡ counted_all f (members_types ms))
members_told f ms i sum end inv small =
    let p : sum + 0 ≡ counted_all f (members_types ms) = subst (λ l. sum + counted_all f (members_types l) ≡ counted_all f (members_types ms)) (nothing_left ms i end) inv in
    (omega (arith, p, small), omega (arith, p))

-- none is told of an array whose elements take so much, or that takes so much itself
pub no_elements : (F : CType → ℕ) → ((u : CType) (n : ℕ) → F (array u n) ≡ n * F u) → (r : Option ℕ) (t u : CType) (n : ℕ) → r ≡ None → t ≡ array u n → (n ≡ 0 → ⊥) → ¬ (F u < 2 ^ 32) → SomeIff r (F t < 2 ^ 32) (F t)
no_elements F times r t u n none is some many =
    let h : ¬ (n * F u < 2 ^ 32) = many_elements n (F u) some many in
    subst (λ o. SomeIff o (F t < 2 ^ 32) (F t)) (sym none) (λ small. h (subst (λ k. k < 2 ^ 32) (ap F is ∙ times u n) small))

pub no_array : (F : CType → ℕ) → ((u : CType) (n : ℕ) → F (array u n) ≡ n * F u) → (r : Option ℕ) (t u : CType) (n each : ℕ) → r ≡ None → t ≡ array u n → each ≡ F u → ¬ (n * each < 2 ^ 32) → SomeIff r (F t < 2 ^ 32) (F t)
no_array F times r t u n each none is e many =
    let h : ¬ (n * F u < 2 ^ 32) = subst (λ k. ¬ (n * k < 2 ^ 32)) e many in
    subst (λ o. SomeIff o (F t < 2 ^ 32) (F t)) (sym none) (λ small. h (subst (λ k. k < 2 ^ 32) (ap F is ∙ times u n) small))

pub array_told : (F : CType → ℕ) → ((u : CType) (n : ℕ) → F (array u n) ≡ n * F u) → (t u : CType) (n each whole : ℕ) → t ≡ array u n → each ≡ F u → n * each < 2 ^ 32 → whole ≡ n * each → (F t < 2 ^ 32) × (whole ≡ F t)
array_told F times t u n each whole is e small q =
    let p : n * each ≡ F t = ap (λ k. n * k) e ∙ sym (ap F is ∙ times u n) in
    (subst (λ k. k < 2 ^ 32) p small, q ∙ p)

iff_told : (r : Option ℕ) (a b : ℕ) → a ≡ b → SomeIff r (a < 2 ^ 32) a → SomeIff r (b < 2 ^ 32) b
iff_told r a b q h = subst (λ n. SomeIff r (n < 2 ^ 32) n) q h

pub cells_returned : (xs ys : List (Option Defined)) (v : List (Option (List Known))) (t : CType) (r : Option ℕ) → ys ≡ xs → shown xs ≡ v → AreLaid xs → SomeIff r (counted (λ s. cells_kept (slice_get ys s)) t < 2 ^ 32) (counted (λ s. cells_kept (slice_get ys s)) t)
    → SomeIff r (cells (layout_of v) t < 2 ^ 32) (cells (layout_of v) t)
cells_returned xs ys v t r q p h f =
    iff_told r (counted (λ s. cells_kept (slice_get ys s)) t) (cells (layout_of v) t) (ap (λ z. counted (λ s. cells_kept (slice_get z s)) t) q ∙ (cells_told xs h t ∙ ap (λ z. cells (layout_of z) t) p)) f

pub all_returned : (xs ys : List (Option Defined)) (v : List (Option (List Known))) (ts : List CType) (r : Option ℕ) → ys ≡ xs → shown xs ≡ v → AreLaid xs → SomeIff r (counted_all (λ s. cells_kept (slice_get ys s)) ts < 2 ^ 32) (counted_all (λ s. cells_kept (slice_get ys s)) ts)
    → SomeIff r (cells_of_all (layout_of v) ts < 2 ^ 32) (cells_of_all (layout_of v) ts)
all_returned xs ys v ts r q p h f =
    iff_told r (counted_all (λ s. cells_kept (slice_get ys s)) ts) (cells_of_all (layout_of v) ts) (ap (λ z. counted_all (λ s. cells_kept (slice_get z s)) ts) q ∙ (cells_of_all_told xs h ts ∙ ap (λ z. cells_of_all (layout_of z) ts) p)) f

pub size_returned : (xs ys : List (Option Defined)) (v : List (Option (List Known))) (t : CType) (r : Option ℕ) → ys ≡ xs → shown xs ≡ v → AreLaid xs → SomeIff r ((extent_with (λ s. extent_kept (slice_get ys s)) t).size < 2 ^ 32) (extent_with (λ s. extent_kept (slice_get ys s)) t).size
    → SomeIff r (sizeof (layout_of v) t < 2 ^ 32) (sizeof (layout_of v) t)
size_returned xs ys v t r q p h f =
    iff_told r (extent_with (λ s. extent_kept (slice_get ys s)) t).size (sizeof (layout_of v) t) (ap (λ z. (extent_with (λ s. extent_kept (slice_get z s)) t).size) q ∙ (ap (λ (e : Extent). e.size) (extent_told xs h t) ∙ ap (λ z. sizeof (layout_of z) t) p)) f

map_taken : {A B : Type 0} (f : A → B) (k : ℕ) (xs : List A) → map f (take k xs) ≡ take k (map f xs)
map_taken f zero [] = refl
map_taken f (suc k) [] = refl
map_taken f zero (x ∷ xs) = refl
map_taken f (suc k) (x ∷ xs) = ap (λ ys. f x ∷ ys) (map_taken f k xs)

types_taken : (k : ℕ) (ms : List StructMember) → members_types (take k ms) ≡ take k (members_types ms)
types_taken k ms = ap (map type_of) (map_taken known_of k ms) ∙ map_taken type_of k (knowns_of ms)

pub cells_there : (xs ys : List (Option Defined)) (v : List (Option (List Known))) (place n : ℕ) → ys ≡ xs → shown xs ≡ v → AreLaid xs → n ≡ cells_kept (slice_get ys place) → n ≡ cells (layout_of v) (struct place)
cells_there xs ys v place n q p h kept =
    kept ∙ (ap (λ zs. cells_kept (slice_get zs place)) q ∙ (h.cells place ∙ ap (λ z. cells (layout_of z) (struct place)) p))

few_kept : (n m : ℕ) → n ≡ m → n < 2 ^ 32 → m < 2 ^ 32
few_kept n m is few = omega (arith, is, few)

-- a struct with a definition has the cells of its members
pub whole_there : (xs : List (Option Defined)) (v : List (Option (List Known))) (place : ℕ) (ks : List Known) → shown xs ≡ v → AreLaid xs → slice_get v place ≡ Some (Some ks) → cells (layout_of v) (struct place) ≡ cells_of_all (layout_of v) (map type_of ks)
whole_there xs v place ks p h there =
    let at : slice_get (layout_of v) place ≡ Some (Some (map type_of ks)) = slice_get-map (option_map (map type_of)) v place ∙ ap (option_map (option_map (map type_of))) there in
    let here : slice_get (layout_of (shown xs)) place ≡ Some (Some (map type_of ks)) = ap (λ z. slice_get (layout_of z) place) p ∙ at in
    let whole : cells_kept (slice_get xs place) ≡ cells_of_all (layout_of v) (map type_of ks) = whole_struct xs h place (map type_of ks) here ∙ ap (λ z. cells_of_all (layout_of z) (map type_of ks)) p in
    let kept : cells (layout_of v) (struct place) ≡ cells_kept (slice_get xs place) = sym (h.cells place ∙ ap (λ z. cells (layout_of z) (struct place)) p) in
    kept ∙ whole

pub few_cells : (xs : List (Option Defined)) (v : List (Option (List Known))) (place n : ℕ) (ks : List Known) → shown xs ≡ v → AreLaid xs → n ≡ cells (layout_of v) (struct place) → n < 2 ^ 32 → slice_get v place ≡ Some (Some ks) → cells_of_all (layout_of v) (map type_of ks) < 2 ^ 32
few_cells xs v place n ks p h is few there = few_kept n (cells_of_all (layout_of v) (map type_of ks)) (is ∙ whole_there xs v place ks p h there) few

-- how many structs a table shows
pub count_shown : (xs : List (Option Defined)) (v : List (Option (List Known))) (n : ℕ) → shown xs ≡ v → n ≡ length xs → n ≡ length v
count_shown xs v n p is = is ∙ (sym (length-map xs (option_map defined_members)) ∙ ap length p)

abbrev no_types : List CType
no_types = []

take_none : (k : ℕ) → take k no_types ≡ no_types
take_none zero = refl
take_none (suc k) = refl

-- the cells before a member, and its own
front_cells : (l : Structs) (ts : List CType) (k : ℕ) → cells_of_all l (take k ts) ≡ first_cell l ts k
front_cells l [] k = ap (cells_of_all l) (take_none k)
front_cells l (t ∷ ts) zero = refl
front_cells l (t ∷ ts) (suc k) = length-append (flat l t) (flat_all l (take k ts)) ∙ ap (λ n. cells l t + n) (front_cells l ts k)

front_few : (l : Structs) (ts : List CType) (k : ℕ) → first_cell l ts k ≤ cells_of_all l ts
front_few l [] k = omega arith
front_few l (t ∷ ts) zero = omega arith
front_few l (t ∷ ts) (suc k) = omega (arith, front_few l ts k, length-append (flat l t) (flat_all l ts))

own_few : (l : Structs) (ts : List CType) (k : ℕ) → k < length ts → cells l (slice_index_or ts k void) ≤ cells_of_all l ts
own_few l [] k h = absurd (omega (arith, h))
own_few l (t ∷ ts) zero h = omega (arith, length-append (flat l t) (flat_all l ts))
own_few l (t ∷ ts) (suc k) h = omega (arith, own_few l ts k (omega (arith, h)), length-append (flat l t) (flat_all l ts))

front_is : (l : Structs) (ms front : List StructMember) (k : ℕ) → front ≡ take k ms → cells_of_all l (members_types front) ≡ first_cell l (members_types ms) k
front_is l ms front k is = ap (λ f. cells_of_all l (members_types f)) is ∙ (ap (cells_of_all l) (types_taken k ms) ∙ front_cells l (members_types ms) k)

pub first_there : (l : Structs) (ms front : List StructMember) (k n : ℕ) → front ≡ take k ms → n ≡ cells_of_all l (members_types front) → n ≡ first_cell l (members_types ms) k
first_there l ms front k n is told = told ∙ front_is l ms front k is

pub front_small : (l : Structs) (ms front : List StructMember) (k : ℕ) → front ≡ take k ms → cells_of_all l (members_types ms) < 2 ^ 32 → cells_of_all l (members_types front) < 2 ^ 32
front_small l ms front k is few = omega (arith, front_is l ms front k is, front_few l (members_types ms) k, few)

type_there : (ms : List StructMember) (k : ℕ) (m : StructMember) → k < length ms → ctype_of (get_or ms k m).ctype ≡ slice_index_or (members_types ms) k void
type_there [] k m h = absurd (omega (arith, h))
type_there (x ∷ ms) zero m h = refl
type_there (x ∷ ms) (suc k) m h = type_there ms k m (omega (arith, h))

length_types : (ms : List StructMember) → length (members_types ms) ≡ length ms
length_types ms = length-map (knowns_of ms) type_of ∙ length-map ms known_of

pub own_there : (l : Structs) (ms : List StructMember) (k n : ℕ) (m : StructMember) → k < length ms → n ≡ cells l (ctype_of (get_or ms k m).ctype) → n ≡ cells l (slice_index_or (members_types ms) k void)
own_there l ms k n m h told = told ∙ ap (cells l) (type_there ms k m h)

pub own_small : (l : Structs) (ms : List StructMember) (k : ℕ) (m : StructMember) → k < length ms → cells_of_all l (members_types ms) < 2 ^ 32 → cells l (ctype_of (get_or ms k m).ctype) < 2 ^ 32
own_small l ms k m h few =
    omega (arith, ap (cells l) (type_there ms k m h), own_few l (members_types ms) k (omega (arith, length_types ms, h)), few)

abbrev option_shown : Option Defined → Option (List Known)
option_shown o = option_map defined_members o

pub put_shown : (xs : List (Option Defined)) (n : ℕ) (d : Defined) (ks : List Known) → knowns_of d.members.items ≡ ks → shown (set xs n (Some d)) ≡ set (shown xs) n (Some ks)
put_shown xs n d ks q = map_set option_shown xs n (Some d) ∙ ap (λ k. set (shown xs) n (Some k)) q

pub put_laid : (xs ys : List (Option Defined)) (n : ℕ) (d : Defined) (ks : List Known) → ys ≡ xs → slice_get xs n ≡ Some None → knowns_of d.members.items ≡ ks → IsMeasured ys d → AllInAll (IsDefined (layout_of (shown xs))) (map type_of ks) → AreLaid xs → AreLaid (set xs n (Some d))
put_laid xs ys n d ks p o q m known h = laid_set xs n d o (subst (λ z. IsMeasured z d) p m) (subst (λ l. AllInAll (IsDefined (layout_of (shown xs))) (map type_of l)) (sym q) known) h

some_shown : (ks : List Known) → Some ks ≡ None → ⊥
some_shown ks q = cc

-- a struct that is there, and shows no definition
pub shows_open : (xs : List (Option Defined)) (n : ℕ) → n < length xs → unwrap_or (slice_get (shown xs) n) None ≡ None → slice_get xs n ≡ Some None
shows_open [] n h q = absurd (omega (arith, h))
shows_open (None ∷ xs) zero h q = refl
shows_open (Some d ∷ xs) zero h q = absurd (some_shown (defined_members d) q)
shows_open (x ∷ xs) (suc n) h q = shows_open xs n (omega (arith, h)) q

-- one that isn't there
pub put_none : (xs : List (Option Defined)) (n : ℕ) (ks : List Known) → length xs ≤ n → shown xs ≡ set (shown xs) n (Some ks)
put_none xs n ks h = sym (set_past (shown xs) n (Some ks) (omega (arith, h, length-map xs option_shown)))
