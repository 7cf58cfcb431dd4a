-- For private contracts and proofs alone: slices that may be there, as their bytes.
use Rattle.std.specs.Prelude.{ℕ, List, Option, Some, None}
use Rattle.std.specs.Borrow.{Bor}

abbrev pub option_seen : Option (Bor (List ℕ)) → Option (List ℕ)
option_seen None = None
option_seen (Some b) = Some b.now
