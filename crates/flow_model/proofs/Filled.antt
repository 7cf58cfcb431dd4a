-- A set that is filled from a list.
use Rattle.std.proofs.Common.{◌≡◌, ℕ, ◌+◌, ◌<◌, List, [], ◌∷◌, ◌++◌, length, take, get_or, Contains, sym, subst, inl, inr}
use Rattle.std.specs.FinSet.{insert}
use Rattle.std.proofs.lemmas.List.{take_more}
use Rattle.std.proofs.lemmas.List.Elements.{Contains-append_left, Contains-push, Contains-push_cases}
use Rattle.dm_sets.specs.Nodes.{Nodes, Has}
use Rattle.flow_model.proofs.FoundLemmas.{has_insert, has_inserted, has_still}

-- The k-th number of the list is added.
module _ (old new : Nodes) (items : List ℕ) (k : ℕ) (lt : k < length items) (added : new ≡ record old { members = insert old.members (get_or items k 0) }) where
  taken : take (k + 1) items ≡ take k items ++ get_or items k 0 ∷ []
  taken = take_more items k 0 lt

  pub filled_only : ((a : ℕ) → Has old a → Contains (take k items) a) → (a : ℕ) → Has new a → Contains (take (k + 1) items) a
  filled_only only a has = subst (λ xs. Contains xs a) (sym taken) (elim (has_insert old (get_or items k 0) a (subst (λ s. Has s a) added has)) [
    | inl same ↦ subst (Contains (take k items ++ get_or items k 0 ∷ [])) (sym same) (Contains-push (take k items) (get_or items k 0))
    | inr before ↦ Contains-append_left (take k items) (get_or items k 0 ∷ []) a (only a before)
  ])

  pub filled_has : ((a : ℕ) → Contains (take k items) a → Has old a) → (a : ℕ) → Contains (take (k + 1) items) a → Has new a
  filled_has has a there = subst (λ s. Has s a) (sym added) (elim (Contains-push_cases (take k items) (get_or items k 0) a (subst (λ xs. Contains xs a) taken there)) [
    | inl before ↦ has_still old (get_or items k 0) a (has a before)
    | inr same ↦ subst (Has (record old { members = insert old.members (get_or items k 0) })) same (has_inserted old (get_or items k 0))
  ])
