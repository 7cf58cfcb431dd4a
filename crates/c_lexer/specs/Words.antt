-- The fixed words of the C profile, in the order of their numbers, and the runs of bytes that are taken whole.
use Rattle.std.specs.Prelude.{◌≡◌, ◌⊎◌, ℕ, List, [], ◌∷◌, All, codes}
use Rattle.dm_base.specs.Name.{IsLetter, IsDigit}

-- the keywords of the profile (C99 6.4.1), by their numbers from 0 to 21
unfoldable pub keywords : List (List ℕ)
keywords =
    codes "break" ∷ codes "case" ∷ codes "char" ∷ codes "const" ∷ codes "continue" ∷ codes "default"
    ∷ codes "do" ∷ codes "else" ∷ codes "enum" ∷ codes "extern" ∷ codes "for" ∷ codes "if"
    ∷ codes "int" ∷ codes "return" ∷ codes "signed" ∷ codes "sizeof" ∷ codes "static" ∷ codes "struct"
    ∷ codes "switch" ∷ codes "unsigned" ∷ codes "void" ∷ codes "while" ∷ []

-- the keywords of C99 6.4.1 that the profile leaves out
unfoldable pub excluded_keywords : List (List ℕ)
excluded_keywords =
    codes "auto" ∷ codes "double" ∷ codes "float" ∷ codes "goto" ∷ codes "inline" ∷ codes "long"
    ∷ codes "register" ∷ codes "restrict" ∷ codes "short" ∷ codes "typedef" ∷ codes "union" ∷ codes "volatile"
    ∷ codes "_Bool" ∷ codes "_Complex" ∷ codes "_Imaginary" ∷ []

-- the punctuators of the profile (C99 6.4.6), by their numbers from 0 to 44
unfoldable pub punctuators : List (List ℕ)
punctuators =
    codes "[" ∷ codes "]" ∷ codes "(" ∷ codes ")" ∷ codes "{" ∷ codes "}" ∷ codes "." ∷ codes "->"
    ∷ codes "++" ∷ codes "--" ∷ codes "&" ∷ codes "*" ∷ codes "+" ∷ codes "-" ∷ codes "~" ∷ codes "!"
    ∷ codes "/" ∷ codes "%" ∷ codes "<<" ∷ codes ">>" ∷ codes "<" ∷ codes ">" ∷ codes "<=" ∷ codes ">="
    ∷ codes "==" ∷ codes "!=" ∷ codes "^" ∷ codes "|" ∷ codes "&&" ∷ codes "||" ∷ codes "?" ∷ codes ":"
    ∷ codes ";" ∷ codes "=" ∷ codes "*=" ∷ codes "/=" ∷ codes "%=" ∷ codes "+=" ∷ codes "-=" ∷ codes "<<="
    ∷ codes ">>=" ∷ codes "&=" ∷ codes "^=" ∷ codes "|=" ∷ codes "," ∷ []

-- a letter or a digit of a name (C99 6.4.2.1)
abbrev pub IsWordByte : ℕ → Type 0
IsWordByte b = IsLetter b ⊎ IsDigit b

-- what may follow the first digit of a constant
abbrev pub IsNumberByte : ℕ → Type 0
IsNumberByte b = IsWordByte b ⊎ (b ≡ 46)

-- a first byte that First has, and then bytes that Later has
abbrev pub IsRun : (ℕ → Type 0) → (ℕ → Type 0) → List ℕ → Type 0
IsRun First Later [] = ⊥
IsRun First Later (b ∷ w) = First b × All Later w

-- what is taken whole as a name or a keyword
abbrev pub IsWord : List ℕ → Type 0
IsWord = IsRun IsLetter IsWordByte

-- what is taken whole as an integer constant
abbrev pub IsNumber : List ℕ → Type 0
IsNumber = IsRun IsDigit IsNumberByte
