-- For private contracts and proofs alone: a text that is one line.
use Rattle.std.specs.Prelude.{ℕ, List, ◌++◌}
use Rattle.line_text.specs.Files.{IsFirstLine}

-- one line: it has no line feed but at its end
abbrev pub IsLine : List ℕ → Type 0
IsLine line = (rest : List ℕ) × IsFirstLine (line ++ rest) line rest
