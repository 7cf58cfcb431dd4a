-- How a list of different nodes grows, step by step.
use Rattle.std.proofs.Common.{Bool, true, false, IsTrue, ◌≡◌, ◌≢◌, ◌↔◌, ◌⊎◌, ℕ, ◌+◌, ◌<◌, ◌≤◌, List, [], ◌∷◌, ◌++◌, length, take, get_or, Contains, refl, sym, ◌∙◌, ap, subst, inl, inr, append-nil, append_assoc, arith}
use Rattle.std.proofs.lemmas.Bool.{false≢true}
use Rattle.std.proofs.lemmas.List.{take_all, take_more}
use Rattle.std.proofs.lemmas.List.Elements.{All-push, Contains-get_or, Contains-push, Contains-append_left, Contains-push_cases}
use Rattle.std.proofs.lemmas.List.Quantifiers.{all_pairs_push}
use Rattle.dyck_monitor.specs.Adding.{Adds, IsOfOne}
use Rattle.flow_model.proofs.FoundLemmas.{few_below}
use Rattle.flow_model.specs.Found.{Found, AreFound}

-- nothing is added
pub adds_nothing : (P : ℕ → Type 0) (w : Found) → ((b : ℕ) → P b → Contains w.nodes b) → Adds P w w
adds_nothing P w none = record {
  size = refl;
  front = ([], sym (append-nil w.nodes));
  members = λ b. (λ has. inl has, λ s. elim s as (λ _. Contains w.nodes b) [ inl has ↦ has | inr is ↦ none b is ]);
  found = λ found. found;
}

-- one new node is added
pub adds_one : (node : ℕ) (w v : Found) → node < w.size → (Contains w.nodes node → ⊥) → v ≡ record w { nodes = w.nodes ++ node ∷ [] } → Adds (λ b. node ≡ b) w v
adds_one node w v inside none is = subst (Adds (λ b. node ≡ b) w) (sym is) (record {
  size = refl;
  front = (node ∷ [], refl);
  members = λ b. (
    λ has. Contains-push_cases w.nodes node b has,
    λ s. elim s as (λ _. Contains (w.nodes ++ node ∷ []) b) [
      | inl has ↦ Contains-append_left w.nodes (node ∷ []) b has
      | inr same ↦ subst (Contains (w.nodes ++ node ∷ [])) same (Contains-push w.nodes node)
    ],
  );
  found = λ found.
      let differ = all_pairs_push (λ a b. a ≢ b) w.nodes node found.differ (λ k d lt same. none (subst (Contains w.nodes) same (Contains-get_or w.nodes k d lt))) in
      let below = All-push (λ a. a < w.size) w.nodes node found.below inside in
      record { differ = differ; below = below; few = few_below (w.nodes ++ node ∷ []) w.size differ below };
})

-- a node is noted, if it is new
pub adds_noted : (node : ℕ) (w v : Found) (added : Bool) → node < w.size → (IsTrue added ↔ (Contains w.nodes node → ⊥)) → (IsTrue added → v ≡ record w { nodes = w.nodes ++ node ∷ [] }) → ((IsTrue added → ⊥) → Contains w.nodes node) → ((IsTrue added → ⊥) → v ≡ w) → Adds (λ b. node ≡ b) w v
adds_noted node w v true inside new is had same = adds_one node w v inside (new.0 refl) (is refl)
adds_noted node w v false inside new is had same =
    subst (Adds (λ b. node ≡ b) w) (sym (same (λ e. false≢true e))) (adds_nothing (λ b. node ≡ b) w (λ b at. subst (Contains w.nodes) at (had (λ e. false≢true e))))

-- something is added, and then something else
pub adds_then : (P Q R : ℕ → Type 0) (w u v : Found) → ((b : ℕ) → R b ↔ (P b ⊎ Q b)) → Adds P w u → Adds Q u v → Adds R w v
adds_then P Q R w u v both first next = record {
  size = next.size ∙ first.size;
  front = (first.front.0 ++ next.front.0, next.front.1 ∙ ap (λ xs. xs ++ next.front.0) first.front.1 ∙ append_assoc w.nodes first.front.0 next.front.0);
  members = λ b. (
    λ has. elim ((next.members b).0 has) as (λ _. Contains w.nodes b ⊎ R b) [
      | inl was ↦ elim ((first.members b).0 was) as (λ _. Contains w.nodes b ⊎ R b) [
        | inl old ↦ inl old
        | inr is ↦ inr ((both b).1 (inl is))
      ]
      | inr is ↦ inr ((both b).1 (inr is))
    ],
    λ s. (next.members b).1 (elim s as (λ _. Contains u.nodes b ⊎ Q b) [
      | inl old ↦ inl ((first.members b).1 (inl old))
      | inr is ↦ elim ((both b).0 is) as (λ _. Contains u.nodes b ⊎ Q b) [
        | inl p ↦ inl ((first.members b).1 (inr p))
        | inr q ↦ inr q
      ]
    ]),
  );
  found = λ found. next.found (first.found found);
}

-- the same, said otherwise
pub adds_as : (P Q : ℕ → Type 0) (w v : Found) → ((b : ℕ) → P b ↔ Q b) → Adds P w v → Adds Q w v
adds_as P Q w v same adds = record {
  size = adds.size;
  front = adds.front;
  members = λ b. (
    λ has. elim ((adds.members b).0 has) as (λ _. Contains w.nodes b ⊎ Q b) [ inl old ↦ inl old | inr is ↦ inr ((same b).0 is) ],
    λ s. (adds.members b).1 (elim s as (λ _. Contains w.nodes b ⊎ P b) [ inl old ↦ inl old | inr is ↦ inr ((same b).1 is) ]),
  );
  found = adds.found;
}

-- to a list without nodes
pub adds_to_none : (P : ℕ → Type 0) (w v : Found) → w.nodes ≡ [] → Adds P w v → (b : ℕ) → Contains v.nodes b ↔ P b
adds_to_none P w v none adds b = (
  λ has. elim ((adds.members b).0 has) as (λ _. P b) [ inl old ↦ let h = subst (λ xs. Contains xs b) none old in absurd (omega (arith, h.1)) | inr is ↦ is ],
  λ is. (adds.members b).1 (inr is),
)

-- what holds at one of the items, item by item
module _ {X : Type 0} (P : X → ℕ → Type 0) (xs : List X) where
  pub of_none : (b : ℕ) → IsOfOne (take 0 xs) P b → ⊥
  of_none b (x, has, is) = absurd (omega (arith, has.1))

  pub of_one_more : (i : ℕ) (x : X) → i < length xs → x ≡ get_or xs i x → (b : ℕ) → IsOfOne (take (i + 1) xs) P b ↔ (IsOfOne (take i xs) P b ⊎ P x b)
  of_one_more i x lt is_it b =
      let more : take (i + 1) xs ≡ take i xs ++ x ∷ [] = take_more xs i x lt ∙ ap (λ y. take i xs ++ y ∷ []) (sym is_it) in
      subst (λ ys. IsOfOne ys P b ↔ (IsOfOne (take i xs) P b ⊎ P x b)) (sym more) (
        λ (y, has, holds). elim (Contains-push_cases (take i xs) x y has) as (λ _. IsOfOne (take i xs) P b ⊎ P x b) [
          | inl old ↦ inl (y, old, holds)
          | inr same ↦ inr (subst (λ z. P z b) (sym same) holds)
        ],
        λ s. elim s as (λ _. IsOfOne (take i xs ++ x ∷ []) P b) [
          | inl (y, old, holds) ↦ (y, Contains-append_left (take i xs) (x ∷ []) y old, holds)
          | inr holds ↦ (x, Contains-push (take i xs) x, holds)
        ],
      )

  pub adds_start : (w : Found) → Adds (IsOfOne (take 0 xs) P) w w
  adds_start w = adds_nothing (IsOfOne (take 0 xs) P) w (λ b is. absurd (of_none b is))

  pub adds_more : (i : ℕ) (x : X) (w u v : Found) → i < length xs → x ≡ get_or xs i x → Adds (IsOfOne (take i xs) P) w u → Adds (P x) u v → Adds (IsOfOne (take (i + 1) xs) P) w v
  adds_more i x w u v lt is_it first next = adds_then (IsOfOne (take i xs) P) (P x) (IsOfOne (take (i + 1) xs) P) w u v (of_one_more i x lt is_it) first next

  pub adds_all : (Q : ℕ → Type 0) (i : ℕ) (w v : Found) → length xs ≤ i → ((b : ℕ) → IsOfOne xs P b ↔ Q b) → Adds (IsOfOne (take i xs) P) w v → Adds Q w v
  adds_all Q i w v over same adds = adds_as (IsOfOne xs P) Q w v same (subst (λ ys. Adds (IsOfOne ys P) w v) (take_all i xs over) adds)

-- a list without nodes
pub found_none : (w : Found) → w.nodes ≡ [] → AreFound w
found_none w none = record {
  differ = λ i j d before within. absurd (omega (arith, ap length none));
  below = λ k d within. absurd (omega (arith, ap length none));
  few = omega (arith, ap length none);
}

pub some_found : (xs : List ℕ) → (length xs ≡ 0 → ⊥) → (b : ℕ) × Contains xs b
some_found [] some = absurd (some refl)
some_found (x ∷ xs) some = (x, (0, omega arith, refl))

pub none_found : (xs : List ℕ) → length xs ≡ 0 → (b : ℕ) → Contains xs b → ⊥
none_found xs none b has = omega (arith, has.1)
