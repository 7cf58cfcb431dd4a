-- What stands first among the tokens that are left, and what was taken of them.
use Rattle.std.specs.Prelude.{◌≡◌, ◌≤◌, ℕ, Bool, true, false, List, [], ◌∷◌, ◌++◌, Result, Ok, Err}
use Rattle.c_lexer.specs.declared.token.Token.{Token}
use Rattle.c_syntax.specs.declared.tree.Ident.{Ident as Named}
use Rattle.c_syntax.specs.Tokens.{Is, IsKeyword, IsStr}
use Rattle.c_syntax.specs.Grammar.{ReadsStrings}
use Rattle.dm_base.specs.declared.memory.OutOfMemory.{OutOfMemory}
use Rattle.c_syntax.specs.Specifiers.{Names}
use Rattle.c_syntax.specs.View.{ident_of}
use Rattle.c_syntax_printing.specs.Ranks.{rank}

-- the punctuator stands first
abbrev pub IsAt : ℕ → List Token → Type 0
IsAt code [] = ⊥
IsAt code (t ∷ ts) = Is code t

-- the keyword stands first
abbrev pub IsAtKeyword : ℕ → List Token → Type 0
IsAtKeyword code [] = ⊥
IsAtKeyword code (t ∷ ts) = IsKeyword code t

-- the punctuator stood first and is taken, or it doesn't stand there and nothing changes
abbrev pub Took : ℕ → Bool → List Token → List Token → Type 0
Took code true i j = (t : Token) × Is code t × (i ≡ t ∷ j)
Took code false i j = (IsAt code i → ⊥) × (j ≡ i)

-- the keyword stood first and is taken, or it doesn't stand there and nothing changes
abbrev pub TookKeyword : ℕ → Bool → List Token → List Token → Type 0
TookKeyword code true i j = (t : Token) × IsKeyword code t × (i ≡ t ∷ j)
TookKeyword code false i j = (IsAtKeyword code i → ⊥) × (j ≡ i)

-- the name stood first and is taken
pub record TookName (x : Named) (i j : List Token) : Type 0 where
  pub token : Token
  pub names : Names (ident_of x) token
  pub stood : i ≡ token ∷ j

-- the string stood first, is taken and stands after the bytes, or none stands there and nothing changes
abbrev pub TookString : Result Bool OutOfMemory → List ℕ → List ℕ → List Token → List Token → Type 0
TookString (Ok true) a b i j = (t : Token) × (part : List ℕ) × IsStr part t × (i ≡ t ∷ j) × (b ≡ a ++ part)
TookString (Ok false) a b i j = (b ≡ a) × (j ≡ i) × (1 ≤ rank i)
TookString (Err e) a b i j = Unit {0}

-- after a string of the bytes a, the strings that stood first make the bytes b
abbrev pub TookStrings : List ℕ → List ℕ → List Token → List Token → Type 0
TookStrings a b i j = (t : Token) → IsStr a t → ReadsStrings b (t ∷ i) j
