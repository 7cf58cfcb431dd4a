-- Lemmas that several crates above use.
use Rattle.std.proofs.Common.{Contains, List, [], subst, ℕ, ◌++◌, ◌∷◌, ◌≡◌}
use Rattle.std.specs.Prelude.{Err, Ok, Result}
use Rattle.line_text.proofs.FilesLemmas.{ends_line}
use Rattle.line_text.specs.OneLine.{IsLine}
use Rattle.line_text.specs.Reading.{Reads, StandsFirst}
use Rattle.line_text.specs.declared.miss.Miss.{Miss}
use Rattle.line_text.specs.declared.miss.Miss.TheVariants.{OutOfMemory, Short, Wrong}

-- what is read of the values that are left is read of all
pub record Leads {V : Type 0} (Fits : V → Type 0) (text : V → List ℕ) (old : List ℕ) (Left : V → Type 0) (left : V → List ℕ) (mid : List ℕ) : Type 0 where
  pub err : (new : List ℕ) (miss : Miss) → Reads Left left mid new (Err miss) → Reads Fits text old new (Err miss)
  pub ok : (new : List ℕ) (v : V) → StandsFirst Left left mid new v → StandsFirst Fits text old new v

-- the values that fit and have the part
abbrev pub With : {V A : Type 0} → (V → Type 0) → (V → A) → A → V → Type 0
With Fits part a v = Fits v × (part v ≡ a)

-- The text of each value is that of its part and a rest; the parts that stand first are those of the values; they have no line feed.
pub record IsPart {V A : Type 0} (Fits : V → Type 0) (text : V → List ℕ) (part : V → A) (First : A → Type 0) (first : A → List ℕ) (rest : V → List ℕ) : Type 0 where
  pub into : (v : V) → Fits v → First (part v)
  pub some : (a : A) → First a → (v : V) × Fits v × (part v ≡ a)
  pub splits : (v : V) → Fits v → text v ≡ first (part v) ++ rest v
  pub plain : (a : A) → First a → Contains (first a) 10 → ⊥

-- Each value is one part.
pub record IsWhole {V A : Type 0} (Fits : V → Type 0) (text : V → List ℕ) (First : A → Type 0) (first : A → List ℕ) (make : A → V) : Type 0 where
  pub made : (a : A) → First a → Fits (make a) × (text (make a) ≡ first a)
  pub only : (v : V) → Fits v → (a : A) × First a × (v ≡ make a)

pub leads_start : {V : Type 0} {Fits : V → Type 0} {text : V → List ℕ} (old : List ℕ) → Leads Fits text old Fits text old
leads_start old = record { err = λ new miss reads. reads; ok = λ new v stands. stands }

-- a value whose text ends with its line feed is read of a whole line
pub whole_line : {V : Type 0} (Fits : V → Type 0) (text : V → List ℕ) (line new : List ℕ) → IsLine line → ((v : V) → (front : List ℕ) × (text v ≡ front ++ 10 ∷ [])) → (r : Result V Miss) → Reads Fits text line new r → Reads Fits text line [] r
whole_line Fits text line new is_line ends (Ok v) stands =
    let end = ends v in
    let none : new ≡ [] = ends_line (text v) end.0 is_line.0 line new (line ++ is_line.0) end.1 stands.stands is_line.1 in
    subst (λ t. StandsFirst Fits text line t v) none stands
whole_line Fits text line new is_line ends (Err OutOfMemory) reads = tt
whole_line Fits text line new is_line ends (Err Short) reads = reads
whole_line Fits text line new is_line ends (Err Wrong) reads = reads
