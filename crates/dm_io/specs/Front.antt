-- For private contracts and proofs alone: a file that is being read, from its start, where the files are told.
use Rattle.std.specs.Prelude.{◌≡◌, ℕ, ◌≤◌, List, length, take, Option, Some, None}
use Rattle.dm_io.specs.Store.{Files, file_at}

-- the text is the front of the file with this name
abbrev pub ReadsFront : Option Files → List ℕ → List ℕ → Type 0
ReadsFront None name text = Unit {0}
ReadsFront (Some files) name text = text ≡ take (length text) (file_at files name)

-- the file has no byte from this place on
abbrev pub IsAtEnd : Option Files → List ℕ → ℕ → Type 0
IsAtEnd None name at = Unit {0}
IsAtEnd (Some files) name at = length (file_at files name) ≤ at
