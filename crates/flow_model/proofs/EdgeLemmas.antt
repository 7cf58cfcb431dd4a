-- Lemmas that several crates above use.
use Rattle.std.proofs.Common.{Bool, List, [], arith, false, get_or, length, map, nat_eq, refl, sym, true, ℕ, ◌<◌, ◌||◌, ◌∷◌, ◌≡◌}
use Rattle.std.proofs.lemmas.Bool.{eq-eqb}
use Rattle.std.proofs.lemmas.List.{get_or-map}
use Rattle.std.specs.List.{list_any}
use Prim.Native.Nat.{suc, zero}
use Rattle.flow_model.specs.Call.{Call}

pub or_true : (b : Bool) → (b || true) ≡ true
or_true true = refl
or_true false = refl

pub any_of_contains : (f : ℕ) (fs : List ℕ) (k : ℕ) → k < length fs → get_or fs k f ≡ f → list_any (λ h. nat_eq h f) fs ≡ true
any_of_contains f [] k lt is = absurd (omega arith)
any_of_contains f (h ∷ fs) zero lt is = rw (eq-eqb h f is) refl
any_of_contains f (h ∷ fs) (suc k) lt is = let later = any_of_contains f fs k (omega arith) is in rw later (or_true (nat_eq h f))

-- the k-th site is that of the k-th call
pub site_at : (calls : List Call) (k : ℕ) (d : Call) → k < length calls → (get_or calls k d).site ≡ get_or (map (λ c. c.site) calls) k 0
site_at calls k d lt = sym (get_or-map (λ (c : Call). c.site) calls k d 0 lt)
