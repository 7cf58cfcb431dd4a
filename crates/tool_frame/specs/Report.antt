-- What err has got of a line.
use Rattle.std.specs.Prelude.{◌⊎◌, ℕ, List, take, Option}
use Rattle.dm_io.specs.Faults.{Rose}
use Rattle.dm_io.specs.Sink.{Takes}

-- the line has been written, or a part of it from its front where err's count of faults rose
abbrev pub TakesLine : ℕ → ℕ → Option (List ℕ) → Option (List ℕ) → List ℕ → Type 0
TakesLine before after old new line = Takes old new line ⊎ ((n : ℕ) × Rose before after × Takes old new (take n line))
