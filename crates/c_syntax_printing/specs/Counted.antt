-- For private contracts and proofs alone: how the length of a text grows while its tokens are counted.
use Rattle.std.specs.Prelude.{◌≡◌, ℕ, ◌+◌, ◌-◌, ◌^◌, ◌∷◌, length, min}
use Rattle.c_lexer.specs.declared.token.TokenKind.{TokenKind}
use Rattle.c_syntax.specs.Print.{Kinds}
use Rattle.c_syntax.specs.Text.{kinds_text}

-- a number, or the greatest that a total can be
unfoldable pub capped : ℕ → ℕ
capped n = min n (2 ^ 64 - 1)

-- the total once the tokens are counted too
unfoldable pub reached : ℕ → Kinds → ℕ
reached total k = capped (total + length (kinds_text k))

-- the total grew by n, whatever is added later
pub record Rises (old n new : ℕ) : Type 0 where
  pub same : (m : ℕ) → capped (old + (n + m)) ≡ capped (new + m)

-- At the total `old` the tokens of f were to come, and at the total `new` those of g are to come: whatever follows, as much is reached.
pub record Leaves (old : ℕ) (f : Kinds → Kinds) (new : ℕ) (g : Kinds → Kinds) : Type 0 where
  pub same : (k : Kinds) → reached new (g k) ≡ reached old (f k)

-- the tokens of f were counted
abbrev pub Counts : ℕ → (Kinds → Kinds) → ℕ → Type 0
Counts old f new = Leaves old f new (λ k. k)

-- one token was counted
abbrev pub CountsToken : ℕ → TokenKind → ℕ → Type 0
CountsToken old kind new = Counts old (λ k. kind ∷ k) new
