-- Names of the C profile (C99 6.4.2.1), and the keywords, which are no names (6.4.1).
use Rattle.std.specs.Prelude.{◌≡◌, ◌⊎◌, ℕ, ◌≤◌, List, [], ◌∷◌, length, All, Contains, codes}

-- a digit, 0 to 9
abbrev pub IsDigit : ℕ → Type 0
IsDigit b = (48 ≤ b) × (b ≤ 57)

-- a nondigit of C99 6.4.2.1: a letter, A to Z or a to z, or an underscore
abbrev pub IsLetter : ℕ → Type 0
IsLetter b = ((65 ≤ b) × (b ≤ 90)) ⊎ ((97 ≤ b) × (b ≤ 122)) ⊎ (b ≡ 95)

-- the keywords of C99 6.4.1, in its order
abbrev pub keywords : List (List ℕ)
keywords =
    codes "auto" ∷ codes "break" ∷ codes "case" ∷ codes "char" ∷ codes "const" ∷ codes "continue"
    ∷ codes "default" ∷ codes "do" ∷ codes "double" ∷ codes "else" ∷ codes "enum" ∷ codes "extern"
    ∷ codes "float" ∷ codes "for" ∷ codes "goto" ∷ codes "if" ∷ codes "inline" ∷ codes "int"
    ∷ codes "long" ∷ codes "register" ∷ codes "restrict" ∷ codes "return" ∷ codes "short" ∷ codes "signed"
    ∷ codes "sizeof" ∷ codes "static" ∷ codes "struct" ∷ codes "switch" ∷ codes "typedef" ∷ codes "union"
    ∷ codes "unsigned" ∷ codes "void" ∷ codes "volatile" ∷ codes "while" ∷ codes "_Bool" ∷ codes "_Complex"
    ∷ codes "_Imaginary" ∷ []

-- 1 to 63 letters, digits and underscores, a digit not first, and no keyword
pub record IsName (text : List ℕ) : Type 0 where
  pub some : 1 ≤ length text
  pub short : length text ≤ 63
  pub begins : (b : ℕ) (rest : List ℕ) → text ≡ b ∷ rest → IsLetter b
  pub bytes : All (λ b. IsLetter b ⊎ IsDigit b) text
  pub free : Contains keywords text → ⊥
