-- Where a place of a text stands, by the line marker lines before it: the file, the line and the column.
use Rattle.std.specs.Prelude.{◌≡◌, ℕ, ◌+◌, ◌≤◌, List, ◌∷◌, ◌++◌, length, take, Option, Some, None, decimal, Contains, fold}
use Rattle.text_places.specs.Lines.{ended_lines, last_line, shown}
use Rattle.text_places.specs.Markers.{FileLine, marker_of}

-- the told line, and where none is told the next one of the same file
abbrev pub told_or_next : FileLine → Option FileLine → FileLine
told_or_next here (Some told) = told
told_or_next here None = record { file = here.file; line = here.line + 1 }

-- the line behind this line: the one that it tells where it is a line marker line, else the next one of the same file
abbrev pub next_line : FileLine → List ℕ → FileLine
next_line here line = told_or_next here (marker_of line)

-- the line behind these lines, of which the first is line 1 of the file
abbrev pub line_behind : List ℕ → List (List ℕ) → FileLine
line_behind file lines = fold next_line (record { file = file; line = 1 }) lines

-- a line of a file and a column, both counted from 1
pub record SourceLocation : Type 0 where
  pub file : List ℕ
  pub line : ℕ
  pub column : ℕ

-- Where the place p of the text stands: its line begins behind the last line feed before it, and its column is p minus that
-- beginning plus 1. A place past the text's end stands where the text ends.
abbrev pub located : List ℕ → List ℕ → ℕ → SourceLocation
located file text p = record {
  file = (line_behind file (ended_lines (take p text))).file;
  line = (line_behind file (ended_lines (take p text))).line;
  column = length (last_line (take p text)) + 1;
}

-- how a location is written
abbrev pub location_text : SourceLocation → List ℕ
location_text location = shown location.file ++ 58 ∷ decimal location.line ++ 58 ∷ decimal location.column

-- no line of the text that a line feed ends is a line marker line
abbrev pub HasNoMarker : List ℕ → Type 0
HasNoMarker text = (line : List ℕ) → Contains (ended_lines text) line → marker_of line ≡ None

-- where the text has no line marker line, two places with one location are one place
abbrev pub LocationsArePlaces : Type 0
LocationsArePlaces = (file text : List ℕ) (p q : ℕ) → HasNoMarker text → p ≤ length text → q ≤ length text → located file text p ≡ located file text q → p ≡ q
