-- For private contracts and proofs alone: how a text that comes in pieces is read line by line.
use Rattle.std.specs.Prelude.{◌≡◌, ◌≤◌, ℕ, List, [], ◌∷◌, ◌++◌, Contains, length}
use Rattle.trace_file.specs.declared.error.TraceError.{TraceError}
use Rattle.trace_file.specs.Trace.{longest}

-- a line with its line feed, and no other in it
pub record IsWhole (line : List ℕ) : Type 0 where
  pub front : List ℕ
  pub plain : Contains front 10 → ⊥
  pub ends : line ≡ front ++ 10 ∷ []

-- the text's first line, with its line feed, and what follows it
pub record IsCut (text line rest : List ℕ) : Type 0 where
  pub line_whole : IsWhole line
  pub parts : text ≡ line ++ rest

-- however the text goes on within the longest length, this is why it is refused
abbrev pub IsShown : (TraceError → List ℕ → Type 0) → TraceError → List ℕ → Type 0
IsShown IsRefusal error text = (more : List ℕ) → length (text ++ more) ≤ longest → IsRefusal error (text ++ more)

-- from the old place, wherever it stands, the lines give the items and lead to the new place
abbrev pub Takes : {P I : Type 0} → (P → List ℕ → List I → Type 0) → P → List ℕ → List I → P → Type 0
Takes {P} {I} Reaches old lines given new = (done : List ℕ) (items : List I) → Reaches old done items → Reaches new (done ++ lines) (items ++ given)

-- from the old place, wherever it stands, the text shows the refusal
abbrev pub Shows : {P I : Type 0} → (P → List ℕ → List I → Type 0) → (TraceError → List ℕ → Type 0) → P → TraceError → List ℕ → Type 0
Shows {P} {I} Reaches IsRefusal old error text = (done : List ℕ) (items : List I) → Reaches old done items → IsShown IsRefusal error (done ++ text)

-- the text was taken up to the rest: its lines gave what the items grew by
pub record HasTaken {P I : Type 0} (Reaches : P → List ℕ → List I → Type 0) (old : P) (text rest : List ℕ) (before after : List I) (new : P) : Type 0 where
  pub lines : List ℕ
  pub given : List I
  pub parts : text ≡ lines ++ rest
  pub grown : after ≡ before ++ given
  pub takes : Takes Reaches old lines given new
