-- Structs that hold others with definitions alone: what is computed of them stays the same at greater depths, and when another
-- struct gets its definition.
use Rattle.std.proofs.Common.{◌≡◌, ℕ, zero, suc, ◌+◌, ◌-◌, ◌≤◌, List, [], ◌∷◌, length, Option, Some, None, slice_get, set, refl, ap, sym, subst, ◌∙◌, arith}
use Rattle.c_tree.specs.Tree.{CType, void, integer, pointer, array, struct, function}
use Rattle.c_tree.specs.Layout.{Structs, members_of, or_none}
use Rattle.c_check_scopes.specs.Held.{AllIn, AllInAll}
use Rattle.c_check_scopes.specs.Laid.{IsClosed, count_defined}
use Rattle.c_rules.proofs.EntryLemmas.{no_entry}
pub use Rattle.c_rules.proofs.EntryLemmas.{none_is_no_list, get_set, get_other}

pub all_map : (P Q : ℕ → Type 0) → ((s : ℕ) → P s → Q s) → (t : CType) → AllIn P t → AllIn Q t
all_map P Q f void h = tt
all_map P Q f (integer i) h = tt
all_map P Q f (pointer t) h = tt
all_map P Q f (array t n) h = all_map P Q f t h
all_map P Q f (struct s) h = f s h
all_map P Q f (function t ts) h = tt

pub all_map_all : (P Q : ℕ → Type 0) → ((s : ℕ) → P s → Q s) → (ts : List CType) → AllInAll P ts → AllInAll Q ts
all_map_all P Q f [] h = tt
all_map_all P Q f (t ∷ ts) h = (all_map P Q f t h.0, all_map_all P Q f ts h.1)

-- ## What is computed over structs that are held

-- by a rule over what the held structs give
abbrev pub over : {R : Type 0} → R → ((ℕ → R) → List CType → R) → Structs → ℕ → ℕ → R
over base rule structs zero s = base
over base rule structs (suc depth) s = rule (over base rule structs depth) (members_of structs s)

-- the rule looks at the structs that are held alone
abbrev pub Looks : {R : Type 0} → ((ℕ → R) → List CType → R) → Type 0
Looks {R} rule = (f g : ℕ → R) (ts : List CType) → AllInAll (λ s. f s ≡ g s) ts → rule f ts ≡ rule g ts

pub members_are : (structs : Structs) (s : ℕ) (ts : List CType) → slice_get structs s ≡ Some (Some ts) → members_of structs s ≡ ts
members_are structs s ts q = ap or_none q

-- one level deeper
pub over_step : {R : Type 0} (base : R) (rule : (ℕ → R) → List CType → R) → Looks rule → (structs : Structs) (depth s : ℕ) → IsClosed structs depth s → over base rule structs depth s ≡ over base rule structs (suc depth) s
over_step base rule looks structs zero s h = absurd h
over_step base rule looks structs (suc depth) s h =
    let q = members_are structs s h.0 h.1 in
    looks (over base rule structs depth) (over base rule structs (suc depth)) (members_of structs s)
    (all_map_all (IsClosed structs depth) (λ r. over base rule structs depth r ≡ over base rule structs (suc depth) r) (over_step base rule looks structs depth) (members_of structs s) (subst (AllInAll (IsClosed structs depth)) (sym q) h.2))

pub closed_step : (structs : Structs) (depth s : ℕ) → IsClosed structs depth s → IsClosed structs (suc depth) s
closed_step structs zero s h = absurd h
closed_step structs (suc depth) s h = (h.0, h.1, all_map_all (IsClosed structs depth) (IsClosed structs (suc depth)) (closed_step structs depth) h.0 h.2)

-- levels deeper
abbrev deeper : ℕ → ℕ → ℕ
deeper zero n = n
deeper (suc k) n = suc (deeper k n)

deeper_is : (k n : ℕ) → deeper k n ≡ k + n
deeper_is zero n = omega arith
deeper_is (suc k) n = omega (arith, deeper_is k n)

closed_deeper : (structs : Structs) (k depth s : ℕ) → IsClosed structs depth s → IsClosed structs (deeper k depth) s
closed_deeper structs zero depth s h = h
closed_deeper structs (suc k) depth s h = closed_step structs (deeper k depth) s (closed_deeper structs k depth s h)

over_deeper : {R : Type 0} (base : R) (rule : (ℕ → R) → List CType → R) → Looks rule → (structs : Structs) (k depth s : ℕ) → IsClosed structs depth s → (over base rule structs depth s ≡ over base rule structs (deeper k depth) s) × IsClosed structs (deeper k depth) s
over_deeper base rule looks structs zero depth s h = (refl, h)
over_deeper base rule looks structs (suc k) depth s h =
    let r = over_deeper base rule looks structs k depth s h in
    (r.0 ∙ over_step base rule looks structs (deeper k depth) s r.1, closed_step structs (deeper k depth) s r.1)

pub over_at : {R : Type 0} (base : R) (rule : (ℕ → R) → List CType → R) → Looks rule → (structs : Structs) (depth most s : ℕ) → depth ≤ most → IsClosed structs depth s → over base rule structs depth s ≡ over base rule structs most s
over_at base rule looks structs depth most s h c =
    let q : deeper (most - depth) depth ≡ most = omega (arith, deeper_is (most - depth) depth) in
    (over_deeper base rule looks structs (most - depth) depth s c).0 ∙ ap (λ n. over base rule structs n s) q

pub closed_at : (structs : Structs) (depth most s : ℕ) → depth ≤ most → IsClosed structs depth s → IsClosed structs most s
closed_at structs depth most s h c =
    let q : deeper (most - depth) depth ≡ most = omega (arith, deeper_is (most - depth) depth) in
    subst (λ n. IsClosed structs n s) q (closed_deeper structs (most - depth) depth s c)

-- a struct without a definition
pub over_none : {R : Type 0} (base : R) (rule : (ℕ → R) → List CType → R) (structs : Structs) (depth s : ℕ) → rule (λ _. base) [] ≡ base → Looks rule → members_of structs s ≡ [] → over base rule structs depth s ≡ base
over_none base rule structs zero s e looks q = refl
over_none base rule structs (suc depth) s e looks q = ap (rule (over base rule structs depth)) q ∙ (looks (over base rule structs depth) (λ _. base) [] tt ∙ e)

-- ## Another definition

-- a struct with a definition is another one than one without
other_place : (structs : Structs) (n s : ℕ) (ts : List CType) → slice_get structs n ≡ Some None → slice_get structs s ≡ Some (Some ts) → s ≡ n → ⊥
other_place structs n s ts o q e = none_is_no_list ts (sym o ∙ (ap (slice_get structs) (sym e) ∙ q))

stays : (structs : Structs) (n s : ℕ) (v : Option (List CType)) (ts : List CType) → slice_get structs n ≡ Some None → slice_get structs s ≡ Some (Some ts) → slice_get (set structs n v) s ≡ Some (Some ts)
stays structs n s v ts o q = get_other structs n s v (other_place structs n s ts o q) ∙ q

pub closed_set : (structs : Structs) (n : ℕ) (v : Option (List CType)) → slice_get structs n ≡ Some None → (depth s : ℕ) → IsClosed structs depth s → IsClosed (set structs n v) depth s
closed_set structs n v o zero s h = absurd h
closed_set structs n v o (suc depth) s h =
    (h.0, stays structs n s v h.0 o h.1, all_map_all (IsClosed structs depth) (IsClosed (set structs n v) depth) (closed_set structs n v o depth) h.0 h.2)

pub over_set : {R : Type 0} (base : R) (rule : (ℕ → R) → List CType → R) → Looks rule → (structs : Structs) (n : ℕ) (v : Option (List CType)) → slice_get structs n ≡ Some None → (depth s : ℕ) → IsClosed structs depth s → over base rule (set structs n v) depth s ≡ over base rule structs depth s
over_set base rule looks structs n v o zero s h = absurd h
over_set base rule looks structs n v o (suc depth) s h =
    let q : members_of (set structs n v) s ≡ members_of structs s = members_are (set structs n v) s h.0 (stays structs n s v h.0 o h.1) ∙ sym (members_are structs s h.0 h.1) in
    ap (rule (over base rule (set structs n v) depth)) q
    ∙ looks (over base rule (set structs n v) depth) (over base rule structs depth) (members_of structs s)
    (all_map_all (IsClosed structs depth) (λ r. over base rule (set structs n v) depth r ≡ over base rule structs depth r) (over_set base rule looks structs n v o depth) (members_of structs s)
    (subst (AllInAll (IsClosed structs depth)) (sym (members_are structs s h.0 h.1)) h.2))

-- ## How many have definitions

pub count_below : (structs : Structs) → count_defined structs ≤ length structs
count_below [] = omega arith
count_below (None ∷ structs) = omega (arith, count_below structs)
count_below (Some ts ∷ structs) = omega (arith, count_below structs)

pub count_set : (structs : Structs) (n : ℕ) (ts : List CType) → slice_get structs n ≡ Some None → count_defined (set structs n (Some ts)) ≡ suc (count_defined structs)
count_set [] n ts o = absurd (no_entry None o)
count_set (None ∷ structs) zero ts o = refl
count_set (Some us ∷ structs) zero ts o = absurd (none_is_no_list us (sym o))
count_set (None ∷ structs) (suc n) ts o = count_set structs n ts o
count_set (Some us ∷ structs) (suc n) ts o = ap suc (count_set structs n ts o)
