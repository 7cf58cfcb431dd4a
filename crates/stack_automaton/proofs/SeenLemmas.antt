-- A slab of states as a finite map.
use Rattle.std.proofs.Common.{◌≡◌, ℕ, zero, suc, ◌+◌, ◌<◌, ◌≢◌, ◌⊎◌, ◌↔◌, Bool, true, false, cond, List, [], ◌∷◌, length, get_or, Contains, Option, Some, None, refl, sym, ◌∙◌, ap, subst, inl, inr, arith}
use Rattle.std.proofs.lemmas.Bool.{cases_eq}
use Rattle.std.specs.Prelude.{T, ◌&&◌}
use Rattle.std.specs.Ordering.{nat_cmp, is_lt, is_eq}
use Rattle.std.specs.declared.cmp.Ordering.TheVariants.{Less, Equal, Greater}
use Rattle.std.specs.Cmp.{nat_cmp_is}
use Rattle.std.specs.FinMap as map
use Rattle.std.specs.FinMap.{from_sorted, get-from_sorted, len-entries, entries-from_sorted}
use Rattle.std.specs.FinMap.Entries.{is_sorted, below_all, find}
use Rattle.slab.specs.Slab.{Slab, get, entries, entries_from, slab_len}
use Rattle.slab.proofs.SlabLemmas.{length-entries}
use Rattle.stack_automaton.specs.declared.place.Edge.{Edge}
use Rattle.stack_automaton.specs.Held.{States, IsThere, HasEdge, Leads}
use Rattle.stack_automaton.specs.Seen.{Contents, Memory, edges_at}
use Rattle.stack_automaton.specs.Standing.{IsPool}

less_is : (x y : ℕ) → x < y → nat_cmp x y ≡ Less
less_is x y lt = sym (nat_cmp_is x y Less lt)

equal_is : (x y : ℕ) → x ≡ y → nat_cmp x y ≡ Equal
equal_is x y e = sym (nat_cmp_is x y Equal e)

greater_is : (x y : ℕ) → y < x → nat_cmp x y ≡ Greater
greater_is x y lt = sym (nat_cmp_is x y Greater lt)

both : (a b : Bool) → T a → T b → T (a && b)
both true b p q = q
both false b p q = absurd p

module _ {X : Type 0} where
  below : (j k : ℕ) (slots : List (Option X)) → j < k → T (below_all nat_cmp j (entries_from k slots))
  below j k [] lt = tt
  below j k (None ∷ rest) lt = below j (k + 1) rest (omega arith)
  below j k (Some v ∷ rest) lt = both _ _ (subst (λ r. T (is_lt r)) (sym (less_is j k lt)) tt) (below j (k + 1) rest (omega arith))

  rises : (k : ℕ) (slots : List (Option X)) → T (is_sorted nat_cmp (entries_from k slots))
  rises k [] = tt
  rises k (None ∷ rest) = rises (k + 1) rest
  rises k (Some v ∷ rest) = both _ _ (below k (k + 1) rest (omega arith)) (rises (k + 1) rest)

  find_below : (q k : ℕ) (slots : List (Option X)) → q < k → find nat_cmp q (entries_from k slots) ≡ None
  find_below q k [] lt = refl
  find_below q k (None ∷ rest) lt = find_below q (k + 1) rest (omega arith)
  find_below q k (Some v ∷ rest) lt =
      subst (λ r. cond (is_eq r) (Some v) (find nat_cmp q (entries_from (k + 1) rest)) ≡ None) (sym (less_is q k lt)) (find_below q (k + 1) rest (omega arith))

  find_at : (slots : List (Option X)) (i k : ℕ) → find nat_cmp (k + i) (entries_from k slots) ≡ get_or slots i None
  find_at [] i k = refl
  find_at (None ∷ rest) zero k = find_below (k + 0) (k + 1) rest (omega arith)
  find_at (None ∷ rest) (suc i) k = let e : k + suc i ≡ (k + 1) + i = omega arith in ap (λ q. find nat_cmp q (entries_from (k + 1) rest)) e ∙ find_at rest i (k + 1)
  find_at (Some v ∷ rest) zero k =
      subst (λ r. cond (is_eq r) (Some v) (find nat_cmp (k + 0) (entries_from (k + 1) rest)) ≡ Some v) (sym (equal_is (k + 0) k (omega arith))) refl
  find_at (Some v ∷ rest) (suc i) k =
      let e : k + suc i ≡ (k + 1) + i = omega arith in
      subst (λ r. cond (is_eq r) (Some v) (find nat_cmp (k + suc i) (entries_from (k + 1) rest)) ≡ get_or rest i None) (sym (greater_is (k + suc i) k (omega arith)))
      (ap (λ q. find nat_cmp q (entries_from (k + 1) rest)) e ∙ find_at rest i (k + 1))

  look_at : (s : Slab X) (q : ℕ) → map.get (from_sorted {R = nat_cmp} (entries s)) q ≡ get s q
  look_at s q =
      let e : q ≡ 0 + q = omega arith in
      get-from_sorted nat_cmp (entries s) q (rises 0 s.slots) ∙ ap (λ n. find nat_cmp n (entries s)) e ∙ find_at s.slots q 0

  -- at each key the map has what the slab has
  pub look : (s : Slab X) → map.get (from_sorted {R = nat_cmp} (entries s)) ≡ get s
  look s = λ i q. look_at s q i

  -- and as many entries
  pub look_len : (s : Slab X) → slab_len s ≡ map.len (from_sorted {R = nat_cmp} (entries s))
  look_len s = sym (len-entries (from_sorted {R = nat_cmp} (entries s)) ∙ ap length (entries-from_sorted nat_cmp (entries s) (rises 0 s.slots)) ∙ length-entries s)

-- what is said of the slab of a pool, said of the pool
module _ (p : Contents) (s : Slab (List Edge)) (last : ℕ) (notes : List ℕ) (ms : List Memory) (is : ◌≡◌ {A = Contents} (record { entries = from_sorted (entries s); final = last; noted = notes; remembered = ms }) p) where
  pub seen : edges_at p ≡ get s
  seen = ap edges_at (sym is) ∙ look s

  -- the state at a key, and that there is none
  pub there_seen : (key : ℕ) (state edges : List Edge) → get s key ≡ Some state → edges_at p key ≡ Some edges → state ≡ edges
  there_seen key state edges here found =
      let both : Some state ≡ Some edges = sym here ∙ ap (λ (t : States). t key) (sym seen) ∙ found in
      cc

  pub none_seen : (key : ℕ) (state : List Edge) → get s key ≡ Some state → edges_at p key ≡ None → ⊥
  none_seen key state here found =
      let both : Some state ≡ None = sym here ∙ ap (λ (t : States). t key) (sym seen) ∙ found in
      absurd cc

  pub missing_seen : (key : ℕ) (edges : List Edge) → get s key ≡ None → edges_at p key ≡ Some edges → ⊥
  missing_seen key edges here found =
      let both : ◌≡◌ {A = Option (List Edge)} None (Some edges) = sym here ∙ ap (λ (t : States). t key) (sym seen) ∙ found in
      absurd cc

  pub one_seen : (P : States → Type 0) → P (edges_at p) → P (get s)
  one_seen P holds = subst P seen holds

  pub seen_one : (P : States → Type 0) → P (get s) → P (edges_at p)
  seen_one P holds = subst P (sym seen) holds

  pub both_seen : (R : States → States → Type 0) (s' : Slab (List Edge)) → R (get s) (get s') → R (edges_at p) (map.get (from_sorted {R = nat_cmp} (entries s')))
  both_seen R s' holds = subst (R (edges_at p)) (sym (look s')) (subst (λ t. R t (get s')) (sym seen) holds)

  pub at_pool : (Q : Contents → Type 0) → Q (record { entries = from_sorted (entries s); final = last; noted = notes; remembered = ms }) → Q p
  at_pool Q holds = subst Q is holds

  pub noted_seen : (noted' : List ℕ) (key : ℕ) → ((k : ℕ) → Contains noted' k ↔ ((j : ℕ) × (Contains notes j ⊎ (j ≡ key)) × Leads (HasEdge (get s)) j k))
      → (k : ℕ) → Contains noted' k ↔ ((j : ℕ) × (Contains p.noted j ⊎ (j ≡ key)) × Leads (HasEdge (edges_at p)) j k)
  noted_seen noted' key holds =
      at_pool (λ q. (k : ℕ) → Contains noted' k ↔ ((j : ℕ) × (Contains q.noted j ⊎ (j ≡ key)) × Leads (HasEdge (edges_at q)) j k))
      (subst (λ t. (k : ℕ) → Contains noted' k ↔ ((j : ℕ) × (Contains notes j ⊎ (j ≡ key)) × Leads (HasEdge t) j k)) (sym (look s)) holds)

  pub kept_seen : (s' : Slab (List Edge)) → ((k : ℕ) → Contains notes k ⊎ (k ≡ last) → get s' k ≡ get s k)
      → (k : ℕ) → Contains p.noted k ⊎ (k ≡ p.final) → map.get (from_sorted {R = nat_cmp} (entries s')) k ≡ edges_at p k
  kept_seen s' holds = at_pool (λ q. (k : ℕ) → Contains q.noted k ⊎ (k ≡ q.final) → map.get (from_sorted {R = nat_cmp} (entries s')) k ≡ edges_at q k) (λ k is. look_at s' k ∙ holds k is ∙ sym (look_at s k))

  pub gone_seen : (s' : Slab (List Edge)) → ((k : ℕ) → (Contains notes k → ⊥) → k ≢ last → get s' k ≡ None)
      → (k : ℕ) → (Contains p.noted k → ⊥) → k ≢ p.final → map.get (from_sorted {R = nat_cmp} (entries s')) k ≡ None
  gone_seen s' holds = at_pool (λ q. (k : ℕ) → (Contains q.noted k → ⊥) → k ≢ q.final → map.get (from_sorted {R = nat_cmp} (entries s')) k ≡ None) (λ k not other. look_at s' k ∙ holds k not other)

none_at : (s0 : Slab (List Edge)) (k : ℕ) → s0.slots ≡ [] → get s0 k ≡ None
none_at s0 k empty = ap (λ xs. get_or xs k None) empty

-- a slab with one state, which has no edges
pub pool_seen : (s0 s : Slab (List Edge)) (key : ℕ) (state : List Edge) (notes : List ℕ) (ms : List Memory) → s0.slots ≡ [] → get s key ≡ Some state → ((k : ℕ) → k ≢ key → get s k ≡ get s0 k) → state ≡ []
    → IsPool (record { entries = from_sorted (entries s); final = key; noted = notes; remembered = ms })
pool_seen s0 s key state notes ms empty here others none = record {
  closed = λ k edges e found has. elim (cases_eq k key) as (λ _. IsThere (map.get (from_sorted {R = nat_cmp} (entries s))) e.to) [
    | inl same ↦
        let both : Some edges ≡ Some state = sym found ∙ look_at s k ∙ ap (get s) same ∙ here in
        let equal : edges ≡ state = cc in
        absurd (let inside : Contains [] e = subst (λ es. Contains es e) (equal ∙ none) has in omega (arith, inside.1))
    | inr other ↦ let both : Some edges ≡ None = sym found ∙ look_at s k ∙ others k other ∙ none_at s0 k empty in absurd cc
  ];
  empty = look_at s key ∙ here ∙ ap Some none;
}
