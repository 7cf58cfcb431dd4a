-- For private contracts and proofs alone: how a map and entries make scopes.
use Rattle.std.specs.Prelude.{◌≡◌, ℕ, List, [], ◌∷◌, Option, Some, None, bytes_eq}
use Rattle.std.specs.Borrow.{Bor}
use Rattle.std.specs.HashMap.{HashMap, get_by}
use Rattle.c_check_scopes.specs.declared.scopes.Entry.{Entry}
use Rattle.c_check_scopes.specs.Bound.{Bound, bound, place}

abbrev pub bound_of : Entry → Bound
bound_of e = bound e.name.now e.depth e.means

-- the names of entries, the newest first, before those of bs
abbrev pub onto : List Entry → List Bound → List Bound
onto [] bs = bs
onto (e ∷ es) bs = onto es (bound_of e ∷ bs)

-- each entry has the number of the one that it hides
abbrev pub Hides : List Bound → List Entry → Type 0
Hides bs [] = Unit {0}
Hides bs (e ∷ es) = (e.hidden ≡ place bs e.name.now) × Hides (bound_of e ∷ bs) es

abbrev pub joined : {A : Type 0} → Option (Option A) → Option A
joined None = None
joined (Some x) = x

-- the map has the number of the newest entry of each name, or None
pub record IsIndex {S : Type 0} (newest : HashMap (Bor (List ℕ)) (Option ℕ) S) (entries : List Entry) : Type 0 where
  pub finds : (x : List ℕ) → joined (get_by (λ k. bytes_eq x k.now) newest) ≡ place (onto entries []) x
  pub hides : Hides [] entries
