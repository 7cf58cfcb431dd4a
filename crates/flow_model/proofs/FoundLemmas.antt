-- Nodes that were found: the list of them, and the set beside it.
use Rattle.std.proofs.Common.{◌≡◌, ◌≢◌, ℕ, ◌<◌, ◌≤◌, ◌⊎◌, Bool, true, false, ◌||◌, List, [], ◌∷◌, ◌++◌, length, get_or, All, AllPairs, Contains, eqb, refl, sym, ap, ◌∙◌, subst, inl, inr, arith}
use Prim.Native.Nat.{suc}
use Rattle.std.specs.List.{list_any}
use Rattle.std.specs.Cmp.{nat_cmp_total, unsigned_tied}
use Rattle.std.specs.Ordering.{nat_cmp, eq_by_cmp}
use Rattle.std.specs.FinSet.{empty, insert, contains, contains-empty, contains-insert}
use Rattle.std.proofs.lemmas.Bool.{cases_Bool, or_cases, eqb-true, eq-eqb, false≢true}
use Rattle.std.proofs.lemmas.Bool.Decides.{Decides-eqb}
use Rattle.std.proofs.lemmas.List.Elements.{All-contains, All-push, Contains-push, Contains-push_cases, Contains-append_left, Contains-get_or}
use Rattle.std.proofs.lemmas.List.{length_push}
use Rattle.std.proofs.lemmas.List.Quantifiers.{all_pairs_push}
use Rattle.std.proofs.lemmas.Map.Made.{IsDistinct-from_AllPairs}
use Rattle.std.proofs.lemmas.Map.Steps.{length-le_from_distinct_below}
use Rattle.dm_sets.specs.Nodes.{Nodes, Has}
use Rattle.flow_model.specs.Found.{AreFound}
use Rattle.flow_model.specs.Members.{IsSetOf}

-- the members of a set with one number more
pub has_insert : (s : Nodes) (k q : ℕ) → Has (record s { members = insert s.members k }) q → (q ≡ k) ⊎ Has s q
has_insert s k q has = elim (or_cases (eq_by_cmp nat_cmp q k) (contains s.members q) (sym (contains-insert nat_cmp_total s.members k q) ∙ has)) [
  | inl tied ↦ inl (eqb-true q k (sym (unsigned_tied q k) ∙ tied))
  | inr old ↦ inr old
]

pub has_inserted : (s : Nodes) (k : ℕ) → Has (record s { members = insert s.members k }) k
has_inserted s k = contains-insert nat_cmp_total s.members k k ∙ ap (λ b. b || contains s.members k) (unsigned_tied k k ∙ eq-eqb k k refl)

pub has_still : (s : Nodes) (k q : ℕ) → Has s q → Has (record s { members = insert s.members k }) q
has_still s k q has = contains-insert nat_cmp_total s.members k q ∙ ap (λ b. eq_by_cmp nat_cmp q k || b) has ∙ (grind arith)

-- the empty set has no member
pub has_none : (size q : ℕ) → Has (record { size = size; members = empty }) q → ⊥
has_none size q has = false≢true (sym (contains-empty nat_cmp q) ∙ has)

any-contains : (q : ℕ) (xs : List ℕ) → list_any (eqb q) xs ≡ true → Contains xs q
any-contains q [] any = absurd (false≢true any)
any-contains q (x ∷ xs) any = elim (or_cases (eqb q x) (list_any (eqb q) xs) any) [
  | inl here ↦ (0, omega arith, sym (eqb-true q x here))
  | inr later ↦ (let there = any-contains q xs later in (suc there.0, omega (arith, there.1), there.2))
]

-- different numbers below a size are no more than that
pub few_below : (xs : List ℕ) (n : ℕ) → AllPairs (λ a b. a ≢ b) xs → All (λ a. a < n) xs → length xs ≤ n
few_below xs n differ below = length-le_from_distinct_below xs n (IsDistinct-from_AllPairs Decides-eqb xs differ) (λ q any. All-contains (λ a. a < n) xs q below (any-contains q xs any))

pub found_of_set : (s : Nodes) (xs : List ℕ) → IsSetOf s xs → AreFound (record { size = s.size; nodes = xs })
found_of_set s xs set = record { differ = set.differ; below = set.below; few = few_below xs s.size set.differ set.below }

-- nothing was found
pub set_of_none : (size : ℕ) → IsSetOf (record { size = size; members = empty }) []
set_of_none size = record {
  listed = λ a has. absurd (has_none size a has);
  has = λ a there. absurd (omega (arith, there.1));
  differ = λ i j d lt within. absurd (omega arith);
  below = λ k d lt. absurd (omega arith);
}

-- one node more was found
pub set_of_more : (s : Nodes) (xs : List ℕ) (k : ℕ) → IsSetOf s xs → k < s.size → (Has s k → ⊥) → IsSetOf (record s { members = insert s.members k }) (xs ++ k ∷ [])
set_of_more s xs k set lt new = record {
  listed = λ a has. elim (has_insert s k a has) [
    | inl same ↦ subst (Contains (xs ++ k ∷ [])) (sym same) (Contains-push xs k)
    | inr old ↦ Contains-append_left xs (k ∷ []) a (set.listed a old)
  ];
  has = λ a there. elim (Contains-push_cases xs k a there) [
    | inl old ↦ has_still s k a (set.has a old)
    | inr same ↦ subst (Has (record s { members = insert s.members k })) same (has_inserted s k)
  ];
  differ = all_pairs_push (λ a b. a ≢ b) xs k set.differ (λ i d within same. new (subst (Has s) same (set.has (get_or xs i d) (Contains-get_or xs i d within))));
  below = All-push (λ a. a < s.size) xs k set.below lt;
}

-- a node that was found before
pub set_of_same : (s : Nodes) (xs : List ℕ) (k : ℕ) → IsSetOf s xs → Contains xs k → IsSetOf (record s { members = insert s.members k }) xs
set_of_same s xs k set in_list = record {
  listed = λ a has. elim (has_insert s k a has) [
    | inl same ↦ subst (Contains xs) (sym same) in_list
    | inr old ↦ set.listed a old
  ];
  has = λ a there. has_still s k a (set.has a there);
  differ = set.differ;
  below = set.below;
}

-- what `insert` tells where it does not say that the number was new
pub has_unless_new : (s : Nodes) (k : ℕ) (r : Bool) → ((Has s k → ⊥) → r ≡ true) → r ≡ false → Has s k
has_unless_new s k r new old = elim (cases_Bool (contains s.members k)) [
  | inl has ↦ has
  | inr off ↦ absurd (false≢true (sym old ∙ new (λ has. false≢true (sym off ∙ has))))
]

-- there is room for one node more
pub room_for : (s : Nodes) (xs : List ℕ) (k : ℕ) → IsSetOf s xs → k < s.size → (Has s k → ⊥) → length xs < s.size
room_for s xs k set lt new =
    let more = set_of_more s xs k set lt new in
    let few : length (xs ++ k ∷ []) ≤ s.size = few_below (xs ++ k ∷ []) s.size more.differ more.below in
    omega (arith, length_push xs k)
