-- For private contracts and proofs alone: how long the run of bytes of one class at the front of a text is.
use Rattle.std.specs.Prelude.{◌≡◌, ◌≢◌, ◌≤◌, ℕ, List, ◌∷◌, All, length, take, drop}
use Rattle.dm_base.specs.Name.{IsDigit}
use Rattle.c_lexer.specs.declared.run.ByteClass.{ByteClass}
use Rattle.c_lexer.specs.declared.run.ByteClass.TheVariants.{Word, Number, Digit, Line}
use Rattle.c_lexer.specs.Words.{IsWordByte, IsNumberByte}

-- the byte is of the class
abbrev pub IsOf : ByteClass → ℕ → Type 0
IsOf Word = IsWordByte
IsOf Number = IsNumberByte
IsOf Digit = IsDigit
IsOf Line = λ b. b ≢ 10

-- the first n bytes of the text are those at its front that P has
pub record IsRunLength (P : ℕ → Type 0) (i : List ℕ) (n : ℕ) : Type 0 where
  pub within : n ≤ length i
  pub each : All P (take n i)
  pub ends : (b : ℕ) (rest : List ℕ) → drop n i ≡ b ∷ rest → P b → ⊥
