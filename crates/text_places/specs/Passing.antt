-- For private contracts and proofs alone: how far a text has been passed.
use Rattle.std.specs.Prelude.{◌≡◌, ℕ, ◌+◌, ◌^◌, ◌≤◌, List, length, take, drop}
use Rattle.text_places.specs.Lines.{ended_lines, last_line}
use Rattle.text_places.specs.Locations.{line_behind}

-- of the text the bytes before `seen` have been passed: their last line begins at `begin`, and is this line of this file
pub record HasPassed (first text file : List ℕ) (line begin seen : ℕ) : Type 0 where
  pub within : seen ≤ length text
  pub begun : begin ≤ seen
  pub last : last_line (take seen text) ≡ drop begin (take seen text)
  pub told : line_behind first (ended_lines (take seen text)) ≡ record { file = file; line = line }
  pub small : line ≤ 2 ^ 32 + seen

-- a text of a file, and the place before which its bytes have been passed
pub record Passage : Type 0 where
  pub file : List ℕ
  pub text : List ℕ
  pub passed : ℕ
