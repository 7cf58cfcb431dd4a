-- The list of nodes with which a run begins.
use Rattle.std.proofs.Common.{◌≡◌, ◌↔◌, ℕ, ◌<◌, List, [], ◌∷◌, ◌++◌, length, get_or, Contains, Some, refl, sym, subst, inl, inr, arith}
use Rattle.std.specs.Prelude.{slice_get}
use Rattle.std.proofs.lemmas.List.Elements.{Contains-push, Contains-push_cases}
use Rattle.std.proofs.lemmas.Option.{slice_get-get_or}
use Rattle.flow_model.specs.declared.records.ModelFunction.{ModelFunction}
use Rattle.flow_model.specs.Found.{Found}
use Rattle.flow_model.specs.Graph.{Graph, HasFunction}

-- the start function, as it stands in a list that is that of the functions
pub starts_at : (g : Graph) (functions : List ModelFunction) (f : ℕ) (d : ModelFunction) → functions ≡ g.functions → f ≡ g.start → f < length g.functions → HasFunction g g.start (get_or functions f d).entry (get_or functions f d).exit
starts_at g functions f d same is lt = record {
  one = get_or functions f d;
  has = subst (λ n. slice_get g.functions n ≡ Some (get_or functions f d)) is (subst (λ xs. slice_get g.functions f ≡ Some (get_or xs f d)) (sym same) (slice_get-get_or g.functions f d lt));
  begins = refl;
  ends = refl;
}

-- nothing is in an empty list
pub none_in : (xs : List ℕ) (a : ℕ) → xs ≡ [] → Contains xs a → ⊥
none_in xs a empty has = let none = subst (λ ys. Contains ys a) empty has in omega (arith, none.1)

-- a list of one node has just that
pub alone_in : (old new : Found) (n : ℕ) → old.nodes ≡ [] → new ≡ record old { nodes = old.nodes ++ n ∷ [] } → (a : ℕ) → Contains new.nodes a ↔ (a ≡ n)
alone_in old new n empty added a = (
  λ has. elim (Contains-push_cases old.nodes n a (subst (λ (f : Found). Contains f.nodes a) added has)) [
    | inl before ↦ absurd (none_in old.nodes a empty before)
    | inr same ↦ sym same
  ],
  λ same. subst (Contains new.nodes) (sym same) (subst (λ (f : Found). Contains f.nodes n) (sym added) (Contains-push old.nodes n)),
)
