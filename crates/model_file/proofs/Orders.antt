-- Orders of numbers one after the other.
use Rattle.std.proofs.Common.{◌≡◌, ℕ, ◌<◌, refl, sym, ◌∙◌, ap, inl, inr}
use Rattle.std.specs.Prelude.{◌⊎◌}
use Rattle.std.specs.Cmp.{nat_cmp_is}
use Rattle.std.specs.Ordering.{nat_cmp, ordering_then}
use Rattle.std.specs.declared.cmp.Ordering.{Ordering}
use Rattle.std.specs.declared.cmp.Ordering.TheVariants.{Less, Equal}
use Rattle.std.proofs.lemmas.Cmp.{ranked, by_ranked}
pub use Rattle.flow_model.proofs.LessLemmas.{less_from_lt}
pub use Rattle.flow_model.proofs.OrderLemmas.{lt_from_less}

pub less_first : (a b : ℕ) (o : Ordering) → a < b → ordering_then (nat_cmp a b) o ≡ Less
less_first a b o lt = ap (λ p. ordering_then p o) (less_from_lt a b lt)

pub less_next : (a b : ℕ) (o : Ordering) → a ≡ b → o ≡ Less → ordering_then (nat_cmp a b) o ≡ Less
less_next a b o same less = ap (λ p. ordering_then p o) (sym (nat_cmp_is a b Equal same)) ∙ less

pub less_cases : (a b : ℕ) (o : Ordering) → ordering_then (nat_cmp a b) o ≡ Less → (a < b) ⊎ ((a ≡ b) × (o ≡ Less))
less_cases a b o less = by_ranked _ _ _ (nat_cmp a b) (ranked a b (nat_cmp a b) refl)
    (λ is lt. inl lt)
    (λ is same. inr (same, sym (ap (λ p. ordering_then p o) is) ∙ less))
    (λ is gt. absurd (cc))
