use Rattle.std.proofs.Common.{ℕ, ◌<◌, ◌≤◌, Option, Some, None, length, ap, sym, subst, arith}
use Rattle.std.specs.Prelude.{IfSome, MatchOption}
use Rattle.std.specs.Option.{option_copied}
use denote.Bor.{Bor}
use Rattle.flow_model.specs.Found.{Found}
use Rattle.flow_model.proofs.FoundLemmas.{found_of_set}
use Rattle.flow_model.proofs.scratch.Scratch.get.Goals as goal

-- what holds where there is an element holds where there is a copy of it
copied_within : (n i : ℕ) (r : Option (Bor ℕ)) (Q : Bor ℕ → Type 0) → MatchOption r (n ≤ i) (λ x. (i < n) × Q x) → IfSome (option_copied r) (λ a. i < n)
copied_within n i None Q told = tt
copied_within n i (Some x) Q told = told.0

wider : (n m i : ℕ) (q : Option ℕ) → n ≤ m → IfSome q (λ a. i < n) → IfSome q (λ a. i < m)
wider n m i None le within = tt
wider n m i (Some a) le within = omega arith

pub returns-clause-within : goal.returns-clause-within
returns-clause-within c =
    let few = (found_of_set c.self.inside.members c.self.inside.found.items c.self.invariant.0).few in
    let le : length c.deref.result.now ≤ c.args.self.now.size = omega (arith, few, ap length c.deref.ensures.value, ap (λ (f : Found). f.size) c.self.view_is) in
    wider _ _ c.args.i c.copied.result le (subst (λ o. IfSome o (λ a. c.args.i < length c.deref.result.now)) (sym c.copied.ensures) (copied_within _ c.args.i c.get.result _ c.get.ensures.lookup.3))
