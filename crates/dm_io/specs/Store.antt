-- What a store tells of its files, and what its reads give where it tells them.
use Rattle.std.specs.Prelude.{◌≡◌, ℕ, ◌-◌, ◌≤◌, ◌↔◌, List, [], length, take, drop, Option, Some, None, unwrap_or}
use Rattle.std.specs.Ordering.{nat_cmp}
use Rattle.std.specs.Cmp.Lexicographic.{slice_cmp}
use Rattle.std.specs.FinMap.{FinMap, get}

-- the bytes of each file, by the bytes of its name
abbrev pub Files : Type 0
Files = FinMap (slice_cmp nat_cmp) (List ℕ)

-- the bytes of the file; none where there is no file with this name
abbrev pub file_at : Files → List ℕ → List ℕ
file_at files name = unwrap_or (get files name) []

-- how many bytes the file has from this place on
abbrev pub bytes_left : Files → List ℕ → ℕ → ℕ
bytes_left files name from = length (file_at files name) - from

-- the first k bytes of `into` are those of the file from a place on, and k is 0 exactly where the file has no byte from there on
pub record IsPart (file : List ℕ) (from k : ℕ) (into : List ℕ) : Type 0 where
  pub bytes : take k into ≡ take k (drop from file)
  pub end : (k ≡ 0) ↔ (length file ≤ from)

-- a read gave k bytes of the file with this name, where the files are told
abbrev pub ReadsPart : Option Files → List ℕ → ℕ → ℕ → List ℕ → Type 0
ReadsPart None name from k into = Unit {0}
ReadsPart (Some files) name from k into = IsPart (file_at files name) from k into

-- the files are told, and none has this name
abbrev pub IsMissing : Option Files → List ℕ → Type 0
IsMissing None name = ⊥
IsMissing (Some files) name = get files name ≡ None

-- the text is the file, cut after `most` bytes, where the files are told
abbrev pub ReadsWhole : Option Files → List ℕ → ℕ → List ℕ → Type 0
ReadsWhole None name most text = Unit {0}
ReadsWhole (Some files) name most text = text ≡ take most (file_at files name)
