-- Structs stay sound where one more is defined.
use Rattle.std.proofs.Common.{◌≡◌, ◌⊎◌, inl, inr, ℕ, zero, suc, ◌≤◌, ◌<◌, if◌then◌else◌, nat_eq, List, [], ◌∷◌, ◌++◌, All, length, Some, None, slice_get, set, refl, ap, ap₂, sym, subst, ◌∙◌, arith}
use Rattle.std.specs.Cmp.{nat_eq_equiv}
use Rattle.std.proofs.lemmas.List.{length-set}
use Rattle.std.proofs.lemmas.Bool.Decides.{eqb_tells}
use Rattle.std.proofs.lemmas.List.Elements.{All-head, All-tail}
use Rattle.c_tree.specs.Tree.{CType, integer, pointer, array, struct}
use Rattle.c_tree.specs.Layout.{Structs, or_none, repeat, flat_with, flat_all_with, layout, struct_cells, flat, flat_all, cells, cells_of_all}
use Rattle.c_tree.specs.Operands.{IsComplete, IsObject}
use Rattle.c_tree.specs.Program.{IsBelow, AreStructs}
use Rattle.c_meaning.proofs.Places.{struct_is}
use Rattle.c_rules_laws.specs.MadeTypes.{NotArray, Made}
use Rattle.c_rules_laws.specs.SoundStructs.{defined_among, AreSound, Grows}
use Rattle.c_rules_laws.proofs.MadeTypes.{complete_kept, made_kept}
use Rattle.c_rules.proofs.EntryLemmas.{none_is_no_list, no_entry, get_set, get_other}

-- ## Lists of structs

count_below : (structs : Structs) → defined_among structs ≤ length structs
count_below [] = omega arith
count_below (None ∷ structs) = omega (arith, count_below structs)
count_below (Some ts ∷ structs) = omega (arith, count_below structs)

count_set : (structs : Structs) (n : ℕ) (ts : List CType) → slice_get structs n ≡ Some None → defined_among (set structs n (Some ts)) ≡ suc (defined_among structs)
count_set [] n ts o = absurd (no_entry None o)
count_set (None ∷ structs) zero ts o = refl
count_set (Some us ∷ structs) zero ts o = absurd (none_is_no_list us (sym o))
count_set (None ∷ structs) (suc n) ts o = count_set structs n ts o
count_set (Some us ∷ structs) (suc n) ts o = ap suc (count_set structs n ts o)

pub are_structs : (structs : Structs) → AreSound structs → AreStructs structs
are_structs structs h = record {
  rank = h.rank;
  ranked = λ s ts e. (let r = h.ranked s ts e in let c = count_below structs in omega (arith, r, c));
  below = h.below;
  complete = h.complete;
  members = h.members;
}

pub struct_few : (structs : Structs) → AreSound structs → (s : ℕ) (ts : List CType) → slice_get structs s ≡ Some (Some ts) → cells structs (struct s) ≤ 65536
struct_few structs h s ts e = subst (λ xs. length xs ≤ 65536) (sym (struct_is structs (are_structs structs h) s ts e)) (h.few s ts e)

-- what is complete, and no array, is an object
pub object_is : (structs : Structs) → AreSound structs → (t : CType) → NotArray t → IsComplete structs t → IsObject structs t
object_is structs h (integer i) n c = record { complete = tt; few = omega arith }
object_is structs h (pointer t) n c = record { complete = tt; few = omega arith }
object_is structs h (array t k) n c = absurd n
object_is structs h (struct s) n c = record { complete = c; few = struct_few structs h s c.0 c.1 }
object_is structs h t n c = absurd c

pub grows_same : (structs : Structs) → Grows structs structs
grows_same structs = record { kept = λ s ts e. e; long = refl }

pub grows_on : (a b c : Structs) → Grows a b → Grows b c → Grows a c
grows_on a b c h k = record { kept = λ s ts e. k.kept s ts (h.kept s ts e); long = k.long ∙ h.long }

-- ## The cells of what is complete stay

module _ (old new : Structs) (sound : AreSound old) (kept : (s : ℕ) (ts : List CType) → slice_get old s ≡ Some (Some ts) → slice_get new s ≡ Some (Some ts)) where
  same_with : (f g : ℕ → List CType) → ((s : ℕ) (ts : List CType) → slice_get old s ≡ Some (Some ts) → g s ≡ f s) → (t : CType) → IsComplete old t → flat_with g t ≡ flat_with f t
  same_with f g h (integer i) c = refl
  same_with f g h (pointer t) c = refl
  same_with f g h (array t n) c = ap (repeat n) (same_with f g h t c.1)
  same_with f g h (struct s) c = h s c.0 c.1
  same_with f g h t c = absurd c

  same_all_with : (f g : ℕ → List CType) → ((s : ℕ) (ts : List CType) → slice_get old s ≡ Some (Some ts) → g s ≡ f s) → (ts : List CType) → All (IsComplete old) ts → flat_all_with g ts ≡ flat_all_with f ts
  same_all_with f g h [] c = refl
  same_all_with f g h (t ∷ ts) c = ap₂ (λ x y. x ++ y) (same_with f g h t (All-head (IsComplete old) t ts c)) (same_all_with f g h ts (All-tail (IsComplete old) t ts c))

  same_layout : (depth s : ℕ) (ts : List CType) → slice_get old s ≡ Some (Some ts) → layout new depth s ≡ layout old depth s
  same_layout zero s ts e = refl
  same_layout (suc depth) s ts e =
      ap (λ o. flat_all_with (layout new depth) (or_none o)) (kept s ts e)
      ∙ (same_all_with (layout old depth) (layout new depth) (same_layout depth) ts (sound.complete s ts e)
      ∙ sym (ap (λ o. flat_all_with (layout old depth) (or_none o)) e))

  module _ (long : length new ≡ length old) where
    same_cells : (s : ℕ) (ts : List CType) → slice_get old s ≡ Some (Some ts) → struct_cells new s ≡ struct_cells old s
    same_cells s ts e = ap (λ n. layout new n s) long ∙ same_layout (length old) s ts e

    same_flat_at : (t : CType) → IsComplete old t → flat new t ≡ flat old t
    same_flat_at t c = same_with (struct_cells old) (struct_cells new) same_cells t c

    same_flat_all_at : (ts : List CType) → All (IsComplete old) ts → flat_all new ts ≡ flat_all old ts
    same_flat_all_at ts c = same_all_with (struct_cells old) (struct_cells new) same_cells ts c

pub same_flat : (old new : Structs) → AreSound old → Grows old new → (t : CType) → IsComplete old t → flat new t ≡ flat old t
same_flat old new s g t c = same_flat_at old new s g.kept g.long t c

pub same_flat_all : (old new : Structs) → AreSound old → Grows old new → (ts : List CType) → All (IsComplete old) ts → flat_all new ts ≡ flat_all old ts
same_flat_all old new s g ts c = same_flat_all_at old new s g.kept g.long ts c

-- ## One more definition

pub all_map : {A : Type 0} (P Q : A → Type 0) → ((a : A) → P a → Q a) → (xs : List A) → All P xs → All Q xs
all_map P Q f xs h k d l = f _ (h k d l)

same_place : (s n : ℕ) → (s ≡ n) ⊎ (s ≡ n → ⊥)
same_place s n = elim (eqb_tells s n) as (λ k. (s ≡ n) ⊎ (s ≡ n → ⊥)) [ inl k ↦ inl k.1 | inr k ↦ inr k.1 ]

module _ (old : Structs) (sound : AreSound old) (n : ℕ) (ts : List CType) (empty : slice_get old n ≡ Some None) (fits : n < length old)
    (complete : All (IsComplete old) ts) (made : All (Made old) ts) (some : 1 ≤ length ts) (few : cells_of_all old ts ≤ 65536) where
  abbrev new : Structs
  new = set old n (Some ts)

  other_place : (s : ℕ) (us : List CType) → slice_get old s ≡ Some (Some us) → s ≡ n → ⊥
  other_place s us q e = none_is_no_list us (sym empty ∙ (ap (slice_get old) (sym e) ∙ q))

  kept : (s : ℕ) (us : List CType) → slice_get old s ≡ Some (Some us) → slice_get new s ≡ Some (Some us)
  kept s us q = get_other old n s (Some ts) (other_place s us q) ∙ q

  long : length new ≡ length old
  long = length-set old n (Some ts)

  pub set_grows : Grows old new
  set_grows = record { kept = kept; long = long }

  abbrev new_rank : ℕ → ℕ
  new_rank s = if nat_eq s n then defined_among old else sound.rank s

  rank_here : new_rank n ≡ defined_among old
  rank_here = ap (λ b. if b then defined_among old else sound.rank n) (nat_eq_equiv.refl n)

  rank_there : (s : ℕ) → (s ≡ n → ⊥) → new_rank s ≡ sound.rank s
  rank_there s h = elim (eqb_tells s n) as (λ k. new_rank s ≡ sound.rank s) [ inl k ↦ absurd (h k.1) | inr k ↦ ap (λ b. if b then defined_among old else sound.rank s) k.0 ]

  -- what was there, or what is new
  was : (s : ℕ) (us : List CType) → slice_get new s ≡ Some (Some us) → ((s ≡ n) × (us ≡ ts)) ⊎ ((s ≡ n → ⊥) × (slice_get old s ≡ Some (Some us)))
  was s us q = elim (same_place s n) as (λ k. ((s ≡ n) × (us ≡ ts)) ⊎ ((s ≡ n → ⊥) × (slice_get old s ≡ Some (Some us)))) [
    | inl k ↦ inl (k, (let e : Some (Some us) ≡ Some (Some ts) = sym q ∙ (ap (slice_get new) k ∙ get_set old n (Some ts) fits) in cc))
    | inr k ↦ inr (k, sym (get_other old n s (Some ts) k) ∙ q)
  ]

  by_case : (P : ℕ → List CType → Type 0) → P n ts → ((s : ℕ) (us : List CType) → (s ≡ n → ⊥) → slice_get old s ≡ Some (Some us) → P s us) → (s : ℕ) (us : List CType) → slice_get new s ≡ Some (Some us) → P s us
  by_case P h k s us q = elim (was s us q) as (λ _. P s us) [
    | inl w ↦ subst (λ x. P x us) (sym w.0) (subst (λ y. P n y) (sym w.1) h)
    | inr w ↦ k s us w.0 w.1
  ]

  below_count : (t : CType) → IsComplete old t → IsBelow new_rank (defined_among old) t
  below_count (integer i) c = tt
  below_count (pointer t) c = tt
  below_count (array t k) c = below_count t c.1
  below_count (struct s) c = subst (λ k. k < defined_among old) (sym (rank_there s (other_place s c.0 c.1))) (sound.ranked s c.0 c.1)
  below_count t c = absurd c

  below_rank : (r : ℕ) (t : CType) → IsComplete old t × IsBelow sound.rank r t → IsBelow new_rank r t
  below_rank r (integer i) c = tt
  below_rank r (pointer t) c = tt
  below_rank r (array t k) c = below_rank r t (c.0.1, c.1)
  below_rank r (struct s) c = subst (λ k. k < r) (sym (rank_there s (other_place s c.0.0 c.0.1))) c.1
  below_rank r t c = absurd c.0

  old_below : (s : ℕ) (us : List CType) → (s ≡ n → ⊥) → slice_get old s ≡ Some (Some us) → All (IsBelow new_rank (new_rank s)) us
  old_below s us h q = subst (λ r. All (IsBelow new_rank r) us) (sym (rank_there s h)) (all_map (λ t. IsComplete old t × IsBelow sound.rank (sound.rank s) t) (IsBelow new_rank (sound.rank s)) (below_rank (sound.rank s)) us (λ k d l. (sound.complete s us q k d l, sound.below s us q k d l)))

  count_is : defined_among new ≡ suc (defined_among old)
  count_is = count_set old n ts empty

  pub set_sound : AreSound new
  set_sound = record {
    rank = new_rank;
    ranked = by_case (λ s us. new_rank s < defined_among new) (let c = count_is in let r = rank_here in omega (arith, c, r)) (λ s us h q. (let c = count_is in let r = rank_there s h in let l = sound.ranked s us q in omega (arith, c, r, l)));
    below = by_case (λ s us. All (IsBelow new_rank (new_rank s)) us) (subst (λ r. All (IsBelow new_rank r) ts) (sym rank_here) (all_map (IsComplete old) (IsBelow new_rank (defined_among old)) below_count ts complete)) old_below;
    complete = by_case (λ s us. All (IsComplete new) us) (all_map (IsComplete old) (IsComplete new) (complete_kept old new kept) ts complete) (λ s us h q. all_map (IsComplete old) (IsComplete new) (complete_kept old new kept) us (sound.complete s us q));
    members = by_case (λ s us. 1 ≤ length us) some (λ s us h q. sound.members s us q);
    made = by_case (λ s us. All (Made new) us) (all_map (Made old) (Made new) (made_kept old new kept) ts made) (λ s us h q. all_map (Made old) (Made new) (made_kept old new kept) us (sound.made s us q));
    few = by_case (λ s us. cells_of_all new us ≤ 65536) (subst (λ xs. length xs ≤ 65536) (sym (same_flat_all old new sound set_grows ts complete)) few) (λ s us h q. subst (λ xs. length xs ≤ 65536) (sym (same_flat_all old new sound set_grows us (sound.complete s us q))) (sound.few s us q));
  }
