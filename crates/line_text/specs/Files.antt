-- Lines of a text, and how a text that is not formed is refused. `Formed` says of each text whether it has the form.
use Rattle.std.specs.Prelude.{◌≡◌, ◌≢◌, ◌⊎◌, ◌^◌, ℕ, suc, zero, ◌<◌, List, [], ◌∷◌, ◌++◌, Contains, nat_eq, if◌then◌else◌, decimal}

-- the text through its line k, counted from 1, with its line feed; the whole text where it has no more lines
abbrev pub through : ℕ → List ℕ → List ℕ
through zero text = []
through (suc k) [] = []
through (suc k) (b ∷ text) = b ∷ (if nat_eq b 10 then through k text else through (suc k) text)

-- a line, and what follows it: the line has one line feed, at its end, or it is all that is left and has none
pub data IsFirstLine (text : List ℕ) (line rest : List ℕ) : Type 0 where
  ended : (front : List ℕ) → (Contains front 10 → ⊥) → line ≡ front ++ 10 ∷ [] → text ≡ line ++ rest → IsFirstLine text line rest
  unended : (Contains line 10 → ⊥) → rest ≡ [] → text ≡ line → IsFirstLine text line rest

-- the text begins a formed text, or is one
abbrev pub BeginsFormed : (List ℕ → Type 0) → List ℕ → Type 0
BeginsFormed Formed text = (rest : List ℕ) × Formed (text ++ rest)

-- the text begins a longer formed text
abbrev pub IsProperPrefix : (List ℕ → Type 0) → List ℕ → Type 0
IsProperPrefix Formed text = (rest : List ℕ) × (rest ≢ []) × Formed (text ++ rest)

-- k is the least number such that the text through line k begins no formed text
pub record IsBadLine (Formed : List ℕ → Type 0) (text : List ℕ) (k : ℕ) : Type 0 where
  pub bad : BeginsFormed Formed (through k text) → ⊥
  pub least : (j : ℕ) → j < k → BeginsFormed Formed (through j text)

-- the line is the word and the canonical decimal of the number, with its line feed or without it
abbrev pub IsVersionLine : List ℕ → ℕ → List ℕ → Type 0
IsVersionLine word number line = (line ≡ word ++ decimal number) ⊎ (line ≡ word ++ decimal number ++ 10 ∷ [])

-- the first line is the word and the canonical decimal of a number below 2 ^ 32 that is no version; its line feed may be missing at the end of the text
pub record HasOtherVersion (word : List ℕ) (IsVersion : ℕ → Type 0) (text : List ℕ) : Type 0 where
  pub line : List ℕ
  pub rest : List ℕ
  pub first : IsFirstLine text line rest
  pub number : ℕ
  pub small : number < 2 ^ 32
  pub other : IsVersion number → ⊥
  pub stands : IsVersionLine word number line
