-- Lemmas that several crates above use.
use Rattle.std.proofs.Common.{arith, inl, inr, max, ℕ, ◌≡◌, ◌⊎◌}

pub greater : (a b : ℕ) → (a ≡ 1) ⊎ (a ≡ 4) → (b ≡ 1) ⊎ (b ≡ 4) → (max a b ≡ 1) ⊎ (max a b ≡ 4)
greater a b (inl e) (inl f) = inl (omega (arith, e, f))
greater a b (inl e) (inr f) = inr (omega (arith, e, f))
greater a b (inr e) (inl f) = inr (omega (arith, e, f))
greater a b (inr e) (inr f) = inr (omega (arith, e, f))
