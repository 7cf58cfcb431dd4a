-- Lists of nodes that are closed under the steps that read nothing.
use Rattle.std.proofs.Common.{◌≡◌, ℕ, ◌+◌, ◌<◌, ◌≤◌, List, [], ◌∷◌, ◌++◌, length, take, sum_by, Contains, Some, sym, ap, ◌∙◌, subst, inl, inr, arith}
use Rattle.std.specs.Prelude.{slice_get}
use Rattle.std.proofs.lemmas.List.{take_more, take-append-le, length-append}
use Rattle.std.proofs.lemmas.List.Elements.{Contains-get_or, Contains-push_cases}
use Rattle.std.proofs.lemmas.List.Sums.{sum_by_push}
use Rattle.std.proofs.lemmas.Option.{slice_get_within, get_or_from_slice_get}
use Rattle.dm_base.specs.declared.event.Event.{Event}
use Rattle.flow_model.specs.Found.{Found}
use Rattle.flow_model.specs.Graph.{Graph}
use Rattle.flow_model.specs.Language.{Quiet, Walk}
use Rattle.flow_model.specs.Language.Walk.{over, quiet, calls}
use Rattle.flow_model.proofs.Walks.{walk-append}
use Rattle.flow_model.specs.Growth.{Adds}
use Rattle.callgraph_monitor.specs.Visits.{visit_cost}
use Rattle.flow_model.proofs.Grown.{adds-still, adds-cases}

-- a walk that reads nothing stays in the list
pub closed_walk : (g : Graph) (xs : List ℕ) → ((b c : ℕ) → Contains xs b → Quiet g b c → Contains xs c) → {b c : ℕ} {t : List Event} → Contains xs b → Walk g b t c → t ≡ [] → Contains xs c
closed_walk g xs closed has over none = has
closed_walk g xs closed has (quiet {a = a} {b = b} step rest) none = closed_walk g xs closed (closed a b has step) rest none
closed_walk g xs closed has (calls edge fits rest) none = absurd (cc)

-- The turn of the i-th node of the list.
module _ (g : Graph) (old new : Found) (i node : ℕ) (is : slice_get old.nodes i ≡ Some node) (adds : Adds old new (Quiet g node)) where
  pub turn_within : i < length old.nodes
  turn_within = slice_get_within old.nodes i node is

  here : Contains old.nodes node
  here = subst (Contains old.nodes) (get_or_from_slice_get old.nodes i node node is) (Contains-get_or old.nodes i node turn_within)

  pub turn_long : i + 1 ≤ length new.nodes
  turn_long = omega (arith, turn_within, ap length adds.grown, length-append old.nodes adds.more)

  -- the nodes that had their turn
  taken : take (i + 1) new.nodes ≡ take i old.nodes ++ node ∷ []
  taken =
      let within : i + 1 ≤ length old.nodes = omega (arith, turn_within) in
      ap (take (i + 1)) adds.grown
      ∙ take-append-le (i + 1) old.nodes adds.more within
      ∙ take_more old.nodes i node turn_within
      ∙ ap (λ n. take i old.nodes ++ n ∷ []) (get_or_from_slice_get old.nodes i node node is)

  pub turn_reached : (first : List ℕ) → ((c : ℕ) → Contains old.nodes c → (b : ℕ) × Contains first b × Walk g b [] c) → (c : ℕ) → Contains new.nodes c → (b : ℕ) × Contains first b × Walk g b [] c
  turn_reached first reached c has = elim (adds-cases old new adds c has) [
    | inl before ↦ reached c before
    | inr step ↦ (let there = reached node here in (there.0, there.1, walk-append there.2 (quiet step over)))
  ]

  pub turn_closed : ((b c : ℕ) → Contains (take i old.nodes) b → Quiet g b c → Contains old.nodes c) → (b c : ℕ) → Contains (take (i + 1) new.nodes) b → Quiet g b c → Contains new.nodes c
  turn_closed closed b c has step = elim (Contains-push_cases (take i old.nodes) node b (subst (λ xs. Contains xs b) taken has)) [
    | inl before ↦ adds-still old new adds c (closed b c before step)
    | inr same ↦ adds.all c (subst (λ n. Quiet g n c) (sym same) step)
  ]

  pub turn_cost : sum_by (visit_cost g) (take (i + 1) new.nodes) ≡ sum_by (visit_cost g) (take i old.nodes) + visit_cost g node
  turn_cost = ap (sum_by (visit_cost g)) taken ∙ sum_by_push (visit_cost g) (take i old.nodes) node
