-- A table of structs stays laid when a struct gets its members, and tells the cells and extents of types.
use Rattle.std.proofs.Common.{◌≡◌, ◌⊎◌, inl, inr, ℕ, zero, suc, ◌≤◌, ◌<◌, List, [], ◌∷◌, length, map, Option, Some, None, slice_get, set, refl, ap, sym, subst, ◌∙◌, arith, length-set}
use Rattle.std.specs.Prelude.{option_map, replicate}
use Rattle.std.proofs.lemmas.Option.{slice_get-map, slice_get_within}
use Rattle.c_tree.specs.Tree.{CType}
use Rattle.c_tree.specs.Layout.{Structs, members_of, or_none, struct_cells, cells, cells_of_all, extent_with, extent}
use Rattle.c_check_scopes.specs.declared.structs.Defined.{Defined}
use Rattle.c_check_scopes.specs.Known.{layout_of, type_of}
use Rattle.c_check_scopes.specs.Shown.{shown, defined_members, members_types}
use Rattle.c_check_scopes.specs.Measured.{cells_kept, extent_kept, counted, counted_all, no_extent}
use Rattle.c_check_scopes.specs.Held.{AllInAll, IsDefined}
use Rattle.c_check_scopes.specs.Laid.{IsClosed, count_defined, AreLaid, IsMeasured}
use Rattle.c_check_scopes.proofs.ClosedLemmas.{none_is_no_list, all_map_all, over, Looks, members_are, over_at, over_none, over_set, get_set, get_other, closed_at, closed_step, closed_set, count_below, count_set, over_step}
use Rattle.c_check_scopes.proofs.MeasuredLemmas.{counted_is, counted_all_is, layout_count, counted_looks, extent_rule, struct_extent_is, extent_looks}

pub map_set : {A B : Type 0} (f : A → B) (xs : List A) (n : ℕ) (v : A) → map f (set xs n v) ≡ set (map f xs) n (f v)
map_set f [] n v = refl
map_set f (x ∷ xs) zero v = refl
map_set f (x ∷ xs) (suc n) v = ap (λ ys. f x ∷ ys) (map_set f xs n v)

-- the structs of a table
abbrev pub structs_in : List (Option Defined) → Structs
structs_in xs = layout_of (shown xs)

abbrev types_in : Option Defined → Option (List CType)
types_in o = option_map (map type_of) (option_map defined_members o)

map_twice : {A B C : Type 0} (f : B → C) (g : A → B) (xs : List A) → map f (map g xs) ≡ map (λ x. f (g x)) xs
map_twice f g [] = refl
map_twice f g (x ∷ xs) = ap (λ ys. f (g x) ∷ ys) (map_twice f g xs)

structs_are : (xs : List (Option Defined)) → structs_in xs ≡ map types_in xs
structs_are xs = map_twice (option_map (map type_of)) (option_map defined_members) xs

pub structs_set : (xs : List (Option Defined)) (n : ℕ) (d : Defined) → structs_in (set xs n (Some d)) ≡ set (structs_in xs) n (Some (members_types d.members.items))
structs_set xs n d = structs_are (set xs n (Some d)) ∙ (map_set types_in xs n (Some d) ∙ ap (λ ys. set ys n (Some (members_types d.members.items))) (sym (structs_are xs)))

get_in : (xs : List (Option Defined)) (s : ℕ) → slice_get (structs_in xs) s ≡ option_map types_in (slice_get xs s)
get_in xs s = ap (λ ys. slice_get ys s) (structs_are xs) ∙ slice_get-map types_in xs s

none_or_some : (o : Option (Option (List CType))) → (or_none o ≡ []) ⊎ ((ts : List CType) × (o ≡ Some (Some ts)))
none_or_some None = inl refl
none_or_some (Some None) = inl refl
none_or_some (Some (Some ts)) = inr (ts, refl)

next_place : (s n : ℕ) → (s ≡ n) ⊎ (s ≡ n → ⊥) → (suc s ≡ suc n) ⊎ (suc s ≡ suc n → ⊥)
next_place s n (inl q) = inl (ap suc q)
next_place s n (inr f) = inr (λ q. f (omega (arith, q)))

same_place : (s n : ℕ) → (s ≡ n) ⊎ (s ≡ n → ⊥)
same_place zero zero = inl refl
same_place zero (suc n) = inr (λ q. absurd (omega (arith, q)))
same_place (suc s) zero = inr (λ q. absurd (omega (arith, q)))
same_place (suc s) (suc n) = next_place s n (same_place s n)

-- ## One more definition

abbrev AreClosed : Structs → Type 0
AreClosed structs = (s : ℕ) → IsDefined structs s → IsClosed structs (count_defined structs) s

-- the structs where one gets its members
abbrev with_types : Structs → ℕ → List CType → Structs
with_types structs n ts = set structs n (Some ts)

still_below : (structs : Structs) (n : ℕ) (ts : List CType) → count_defined structs ≤ length (with_types structs n ts)
still_below structs n ts = omega (arith, count_below structs, length-set structs n (Some ts))

other_by : {R : Type 0} (base : R) (rule : (ℕ → R) → List CType → R) → rule (λ _. base) [] ≡ base → Looks rule → (structs : Structs) (n : ℕ) (ts : List CType) → slice_get structs n ≡ Some None → AreClosed structs → (s : ℕ) → (s ≡ n → ⊥)
    → (or_none (slice_get structs s) ≡ []) ⊎ ((us : List CType) × (slice_get structs s ≡ Some (Some us))) → over base rule structs (length structs) s ≡ over base rule (with_types structs n ts) (length (with_types structs n ts)) s
other_by base rule bare looks structs n ts o closed s f (inl q) =
    over_none base rule structs (length structs) s bare looks q
    ∙ sym (over_none base rule (with_types structs n ts) (length (with_types structs n ts)) s bare looks (ap or_none (get_other structs n s (Some ts) f) ∙ q))
other_by base rule bare looks structs n ts o closed s f (inr w) =
    let c = closed s w in
    sym (over_at base rule looks structs (count_defined structs) (length structs) s (count_below structs) c)
    ∙ (sym (over_set base rule looks structs n (Some ts) o (count_defined structs) s c)
    ∙ over_at base rule looks (with_types structs n ts) (count_defined structs) (length (with_types structs n ts)) s (still_below structs n ts) (closed_set structs n (Some ts) o (count_defined structs) s c))

abbrev closed_here : (structs : Structs) (n : ℕ) (ts : List CType) → slice_get structs n ≡ Some None → AllInAll (IsClosed structs (count_defined structs)) ts → IsClosed (with_types structs n ts) (suc (count_defined structs)) n
closed_here structs n ts o c =
    (ts, get_set structs n (Some ts) (slice_get_within structs n None o), all_map_all (IsClosed structs (count_defined structs)) (IsClosed (with_types structs n ts) (count_defined structs)) (closed_set structs n (Some ts) o (count_defined structs)) ts c)

more_below : (structs : Structs) (n : ℕ) (ts : List CType) → slice_get structs n ≡ Some None → suc (count_defined structs) ≤ length (with_types structs n ts)
more_below structs n ts o = omega (arith, count_set structs n ts o, count_below (with_types structs n ts))

here_kept : {R : Type 0} (base : R) (rule : (ℕ → R) → List CType → R) → Looks rule → (structs : Structs) (n : ℕ) (ts : List CType) → slice_get structs n ≡ Some None → AllInAll (IsClosed structs (count_defined structs)) ts
    → rule (over base rule structs (length structs)) ts ≡ over base rule (with_types structs n ts) (length (with_types structs n ts)) n
here_kept base rule looks structs n ts o c =
    let k = count_defined structs in
    let c2 = closed_here structs n ts o c in
    looks (over base rule structs (length structs)) (over base rule structs k) ts
    (all_map_all (IsClosed structs k) (λ s. over base rule structs (length structs) s ≡ over base rule structs k s) (λ s h. sym (over_at base rule looks structs k (length structs) s (count_below structs) h)) ts c)
    ∙ (looks (over base rule structs k) (over base rule (with_types structs n ts) k) ts
    (all_map_all (IsClosed structs k) (λ s. over base rule structs k s ≡ over base rule (with_types structs n ts) k s) (λ s h. sym (over_set base rule looks structs n (Some ts) o k s h)) ts c)
    ∙ (sym (ap (rule (over base rule (with_types structs n ts) k)) (members_are (with_types structs n ts) n ts c2.1))
    ∙ over_at base rule looks (with_types structs n ts) (suc k) (length (with_types structs n ts)) n (more_below structs n ts o) c2))

closed_by : (structs : Structs) (n : ℕ) (ts : List CType) → slice_get structs n ≡ Some None → AreClosed structs → AllInAll (IsClosed structs (count_defined structs)) ts → (s : ℕ) → IsDefined (with_types structs n ts) s → (s ≡ n) ⊎ (s ≡ n → ⊥)
    → IsClosed (with_types structs n ts) (suc (count_defined structs)) s
closed_by structs n ts o closed c s w (inl q) = subst (IsClosed (with_types structs n ts) (suc (count_defined structs))) (sym q) (closed_here structs n ts o c)
closed_by structs n ts o closed c s w (inr f) =
    closed_set structs n (Some ts) o (suc (count_defined structs)) s (closed_step structs (count_defined structs) s (closed s (w.0, sym (get_other structs n s (Some ts) f) ∙ w.1)))

pub are_closed : (structs : Structs) (n : ℕ) (ts : List CType) → slice_get structs n ≡ Some None → AreClosed structs → AllInAll (IsDefined structs) ts → AreClosed (with_types structs n ts)
are_closed structs n ts o closed known s w =
    subst (λ k. IsClosed (with_types structs n ts) k s) (sym (count_set structs n ts o))
    (closed_by structs n ts o closed (all_map_all (IsDefined structs) (IsClosed structs (count_defined structs)) closed ts known) s w (same_place s n))

-- what is kept of each struct
kept_by : {R : Type 0} (base : R) (rule : (ℕ → R) → List CType → R) → rule (λ _. base) [] ≡ base → Looks rule → (K : Option (Option Defined) → R) (xs : List (Option Defined)) (structs : Structs) (n : ℕ) (d : Defined) (ts : List CType)
    → n < length xs → slice_get structs n ≡ Some None → K (Some (Some d)) ≡ rule (λ s. K (slice_get xs s)) ts → ((s : ℕ) → K (slice_get xs s) ≡ over base rule structs (length structs) s) → AreClosed structs
    → AllInAll (IsClosed structs (count_defined structs)) ts → (s : ℕ) → (s ≡ n) ⊎ (s ≡ n → ⊥) → K (slice_get (set xs n (Some d)) s) ≡ over base rule (with_types structs n ts) (length (with_types structs n ts)) s
kept_by base rule bare looks K xs structs n d ts l o e h closed c s (inl q) =
    ap K (ap (slice_get (set xs n (Some d))) q ∙ get_set xs n (Some d) l)
    ∙ (e ∙ (ap (λ f. rule f ts) (λ i r. h r i) ∙ (here_kept base rule looks structs n ts o c ∙ ap (over base rule (with_types structs n ts) (length (with_types structs n ts))) (sym q))))
kept_by base rule bare looks K xs structs n d ts l o e h closed c s (inr f) =
    ap K (get_other xs n s (Some d) f) ∙ (h s ∙ other_by base rule bare looks structs n ts o closed s f (none_or_some (slice_get structs s)))

-- ## The table

pub cells_over : (xs : List (Option Defined)) → AreLaid xs → (s : ℕ) → cells_kept (slice_get xs s) ≡ over 0 counted_all (structs_in xs) (length (structs_in xs)) s
cells_over xs h s = h.cells s ∙ layout_count (structs_in xs) (length (structs_in xs)) s

pub extents_over : (xs : List (Option Defined)) → AreLaid xs → (s : ℕ) → extent_kept (slice_get xs s) ≡ over no_extent extent_rule (structs_in xs) (length (structs_in xs)) s
extents_over xs h s = h.extents s ∙ struct_extent_is (structs_in xs) (length (structs_in xs)) s

laid_at : (ys : List (Option Defined)) (structs : Structs) → structs_in ys ≡ structs → ((s : ℕ) → cells_kept (slice_get ys s) ≡ over 0 counted_all structs (length structs) s)
    → ((s : ℕ) → extent_kept (slice_get ys s) ≡ over no_extent extent_rule structs (length structs) s) → AreClosed structs → AreLaid ys
laid_at ys structs q c e closed = record {
  cells = λ s. c s ∙ (ap (λ z. over 0 counted_all z (length z) s) (sym q) ∙ sym (layout_count (structs_in ys) (length (structs_in ys)) s));
  extents = λ s. e s ∙ (ap (λ z. over no_extent extent_rule z (length z) s) (sym q) ∙ sym (struct_extent_is (structs_in ys) (length (structs_in ys)) s));
  closed = subst AreClosed (sym q) closed;
}

pub laid_set : (xs : List (Option Defined)) (n : ℕ) (d : Defined) → slice_get xs n ≡ Some None → IsMeasured xs d → AllInAll (IsDefined (structs_in xs)) (members_types d.members.items) → AreLaid xs → AreLaid (set xs n (Some d))
laid_set xs n d o m known h =
    let structs = structs_in xs in
    let ts = members_types d.members.items in
    let l = slice_get_within xs n None o in
    let o2 = get_in xs n ∙ ap (option_map types_in) o in
    let c = all_map_all (IsDefined structs) (IsClosed structs (count_defined structs)) h.closed ts known in
    laid_at (set xs n (Some d)) (with_types structs n ts) (structs_set xs n d)
    (λ s. kept_by 0 counted_all refl counted_looks cells_kept xs structs n d ts l o2 m.cells (cells_over xs h) h.closed c s (same_place s n))
    (λ s. kept_by no_extent extent_rule refl extent_looks extent_kept xs structs n d ts l o2 m.extent (extents_over xs h) h.closed c s (same_place s n))
    (are_closed structs n ts o2 h.closed known)

-- ## What it tells

pub cells_told : (xs : List (Option Defined)) → AreLaid xs → (t : CType) → counted (λ s. cells_kept (slice_get xs s)) t ≡ cells (structs_in xs) t
cells_told xs h t = counted_is (λ s. cells_kept (slice_get xs s)) (struct_cells (structs_in xs)) h.cells t

pub cells_of_all_told : (xs : List (Option Defined)) → AreLaid xs → (ts : List CType) → counted_all (λ s. cells_kept (slice_get xs s)) ts ≡ cells_of_all (structs_in xs) ts
cells_of_all_told xs h ts = counted_all_is (λ s. cells_kept (slice_get xs s)) (struct_cells (structs_in xs)) h.cells ts

-- a struct with a definition has the cells of its members
pub whole_struct : (xs : List (Option Defined)) → AreLaid xs → (s : ℕ) (ts : List CType) → slice_get (structs_in xs) s ≡ Some (Some ts) → cells_kept (slice_get xs s) ≡ cells_of_all (structs_in xs) ts
whole_struct xs h s ts q =
    let structs = structs_in xs in
    let top = length structs in
    let closed = closed_at structs (count_defined structs) top s (count_below structs) (h.closed s (ts, q)) in
    let inner : over 0 counted_all structs (suc top) s ≡ counted_all (over 0 counted_all structs top) ts = ap (counted_all (over 0 counted_all structs top)) (members_are structs s ts q) in
    let kept : counted_all (over 0 counted_all structs top) ts ≡ cells_of_all structs ts = counted_all_is (over 0 counted_all structs top) (struct_cells structs) (λ r. sym (layout_count structs top r)) ts in
    cells_over xs h s ∙ (over_step 0 counted_all counted_looks structs top s closed ∙ (inner ∙ kept))

pub extent_told : (xs : List (Option Defined)) → AreLaid xs → (t : CType) → extent_with (λ s. extent_kept (slice_get xs s)) t ≡ extent (structs_in xs) t
extent_told xs h t = ap (λ f. extent_with f t) (λ i s. h.extents s i)

-- ## Structs without definitions

abbrev no_definition : Option Defined
no_definition = None

none_at : (n s : ℕ) → (slice_get (replicate n no_definition) s ≡ None) ⊎ (slice_get (replicate n no_definition) s ≡ Some None)
none_at zero s = inl refl
none_at (suc n) zero = inr refl
none_at (suc n) (suc s) = none_at n s

abbrev HasNone : List (Option Defined) → Type 0
HasNone xs = (s : ℕ) → (slice_get xs s ≡ None) ⊎ (slice_get xs s ≡ Some None)

no_types_at : (o : Option (Option Defined)) → (o ≡ None) ⊎ (o ≡ Some None) → or_none (option_map types_in o) ≡ []
no_types_at o (inl q) = ap (λ p. or_none (option_map types_in p)) q
no_types_at o (inr q) = ap (λ p. or_none (option_map types_in p)) q

no_members : (xs : List (Option Defined)) → HasNone xs → (s : ℕ) → members_of (structs_in xs) s ≡ []
no_members xs h s = ap or_none (get_in xs s) ∙ no_types_at (slice_get xs s) (h s)

kept_none : {R : Type 0} (K : Option (Option Defined) → R) (r : R) (o : Option (Option Defined)) → K None ≡ r → K (Some None) ≡ r → (o ≡ None) ⊎ (o ≡ Some None) → K o ≡ r
kept_none K r o a b (inl q) = ap K q ∙ a
kept_none K r o a b (inr q) = ap K q ∙ b

none_is_some : (ts : List CType) → None ≡ Some (Some ts) → ⊥
none_is_some ts q = cc

not_defined : (o : Option (Option Defined)) (ts : List CType) → (o ≡ None) ⊎ (o ≡ Some None) → option_map types_in o ≡ Some (Some ts) → ⊥
not_defined o ts (inl q) e = none_is_some ts (sym (ap (option_map types_in) q) ∙ e)
not_defined o ts (inr q) e = none_is_no_list ts (sym (ap (option_map types_in) q) ∙ e)

laid_by : (xs : List (Option Defined)) → HasNone xs → AreLaid xs
laid_by xs h = laid_at xs (structs_in xs) refl
    (λ s. kept_none cells_kept 0 (slice_get xs s) refl refl (h s) ∙ sym (over_none 0 counted_all (structs_in xs) (length (structs_in xs)) s refl counted_looks (no_members xs h s)))
    (λ s. kept_none extent_kept no_extent (slice_get xs s) refl refl (h s) ∙ sym (over_none no_extent extent_rule (structs_in xs) (length (structs_in xs)) s refl extent_looks (no_members xs h s)))
    (λ s w. absurd (not_defined (slice_get xs s) w.0 (h s) (sym (get_in xs s) ∙ w.1)))

pub laid_none : (n : ℕ) (xs : List (Option Defined)) → xs ≡ replicate n None → AreLaid xs
laid_none n xs q = subst AreLaid (sym q) (laid_by (replicate n None) (none_at n))

none_shown : (n : ℕ) → shown (replicate n None) ≡ replicate n None
none_shown zero = refl
none_shown (suc n) = ap (λ ys. None ∷ ys) (none_shown n)

pub shown_none : (n : ℕ) (xs : List (Option Defined)) → xs ≡ replicate n None → shown xs ≡ replicate n None
shown_none n xs q = ap shown q ∙ none_shown n
