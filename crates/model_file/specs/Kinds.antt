-- For private contracts and proofs alone: which kind a line has, by its first bytes.
use Rattle.std.specs.Prelude.{◌≡◌, ◌≢◌, ◌⊎◌, ℕ, List, [], ◌∷◌, Option, Some, None}
use Rattle.model_file.specs.declared.lines.Kind.{Kind}
use Rattle.model_file.specs.declared.lines.Kind.TheVariants as kinds
use Rattle.model_file.specs.declared.lines.Section.{Section}
use Rattle.model_file.specs.declared.lines.Section.TheVariants as sections

-- the byte is no first byte of a line of an edge, or it is `s` and what follows it is not a space
abbrev pub IsOther : ℕ → List ℕ → Type 0
IsOther first [] = (first ≢ 101) × (first ≢ 99) × (first ≢ 115)
IsOther first (second ∷ rest) = (first ≢ 101) × (first ≢ 99) × (first ≡ 115 → second ≢ 32)

-- `e` begins a line of a silent edge, `c` one of a call edge, `s` and a space one of a system-call edge; no bytes, and `s` alone, leave it open
abbrev pub HasKind : Kind → List ℕ → Type 0
HasKind kinds.Silent text = (rest : List ℕ) × (text ≡ 101 ∷ rest)
HasKind kinds.Sys text = (rest : List ℕ) × (text ≡ 115 ∷ 32 ∷ rest)
HasKind kinds.Call text = (rest : List ℕ) × (text ≡ 99 ∷ rest)
HasKind kinds.Start text = (first : ℕ) × (rest : List ℕ) × (text ≡ first ∷ rest) × IsOther first rest
HasKind kinds.Open text = (text ≡ []) ⊎ (text ≡ 115 ∷ [])

-- the last site of a section
abbrev pub site_of : Section → Option ℕ
site_of (sections.Silent last) = None
site_of (sections.Sys last) = None
site_of (sections.Call last) = last
