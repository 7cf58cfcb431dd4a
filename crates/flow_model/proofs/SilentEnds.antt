-- Where the silent edges of a node lead, and the candidates of a call.
use Rattle.std.proofs.Common.{◌≡◌, ℕ, Bool, true, false, nat_eq, List, [], ◌∷◌, filter, Contains, refl, subst, inl, inr, arith}
use Prim.Native.Nat.{suc}
use Rattle.std.specs.List.{list_any}
use Rattle.std.proofs.lemmas.Bool.{eqb-true, eq-eqb, or_cases, false≢true}
use Rattle.flow_model.specs.declared.records.SilentEdge.{SilentEdge}
use Rattle.flow_model.specs.Graph.{Graph, HasSilent}
use Rattle.flow_model.specs.Growth.{HasOne}
use Rattle.flow_model.proofs.Items.{filter-contains, filter-pass, contains-filter}

-- The silent edges that leave a node.
module _ (g : Graph) (node : ℕ) where
  abbrev leaves : SilentEdge → Bool
  leaves e = nat_eq e.from node

  pub silent_end : (b : ℕ) → HasOne (λ e n. e.to ≡ n) (filter leaves g.silent) b → HasSilent g node b
  silent_end b (e, has, to) =
      let from : e.from ≡ node = eqb-true e.from node (filter-pass leaves g.silent e has) in
      let same : e ≡ record { from = node; to = b } = λ i. record { from = from i; to = to i } in
      subst (Contains g.silent) same (filter-contains leaves g.silent e has)

  pub end_of_silent : (b : ℕ) → HasSilent g node b → HasOne (λ e n. e.to ≡ n) (filter leaves g.silent) b
  end_of_silent b has = (record { from = node; to = b }, contains-filter leaves g.silent (record { from = node; to = b }) has.0 has.1 has.2 (eq-eqb node node refl), refl)

pub contains_of_any : (f : ℕ) (fs : List ℕ) → list_any (λ h. nat_eq h f) fs ≡ true → Contains fs f
contains_of_any f [] any = absurd (false≢true any)
contains_of_any f (h ∷ fs) any = elim (or_cases (nat_eq h f) (list_any (λ k. nat_eq k f) fs) any) [
  | inl here ↦ (0, omega arith, eqb-true h f here)
  | inr later ↦ (let there = contains_of_any f fs later in (suc there.0, omega (arith, there.1), there.2))
]
