-- Lemmas that several crates above use.
use Rattle.std.proofs.Common.{Contains, [], arith, inl, inr, refl, suc, zero, ℕ, ◌∷◌}
use Rattle.line_text.specs.Words.{IsEnd}

pub no_feed_space : Contains {X = ℕ} (32 ∷ []) 10 → ⊥
no_feed_space (zero, within, is) = omega (arith, is)
no_feed_space (suc k, within, is) = omega (arith, within)

pub space : IsEnd 32
space = inl refl

pub feed : IsEnd 10
feed = inr refl
