-- What a sink tells of the bytes that it took.
use Rattle.std.specs.Prelude.{◌≡◌, ℕ, List, ◌++◌, Option, Some, None, IsSomeAnd}

-- where the bytes are told after, they were told before, and just these were appended
abbrev pub Takes : Option (List ℕ) → Option (List ℕ) → List ℕ → Type 0
Takes before None bytes = Unit {0}
Takes before (Some after) bytes = IsSomeAnd before (λ b. after ≡ b ++ bytes)
