-- The lines of a text, the part of a line round a place, and how bytes are shown.
use Rattle.std.specs.Prelude.{ℕ, ◌-◌, Bool, nat_eq, nat_le, ◌&&◌, if◌then◌else◌, List, [], ◌∷◌, take, drop, map}
use Rattle.std.specs.List.{list_any}

-- a line feed
abbrev pub is_feed : ℕ → Bool
is_feed b = nat_eq b 10

-- the lines with this byte before the first of them
abbrev pub begun_with : ℕ → List (List ℕ) → List (List ℕ)
begun_with b [] = []
begun_with b (line ∷ lines) = (b ∷ line) ∷ lines

-- the lines that a line feed ends, each without its line feed
abbrev pub ended_lines : List ℕ → List (List ℕ)
ended_lines [] = []
ended_lines (b ∷ bytes) = if is_feed b then [] ∷ ended_lines bytes else begun_with b (ended_lines bytes)

-- what stands behind the last line feed; all of it where there is none
abbrev pub last_line : List ℕ → List ℕ
last_line [] = []
last_line (b ∷ bytes) = if list_any is_feed (b ∷ bytes) then last_line bytes else b ∷ bytes

-- what stands before the first line feed; all of it where there is none
abbrev pub first_line : List ℕ → List ℕ
first_line [] = []
first_line (b ∷ bytes) = if is_feed b then [] else b ∷ first_line bytes

-- of the 60 bytes before the place p of the text those on the line of p
abbrev pub part_before : List ℕ → ℕ → List ℕ
part_before text p = last_line (drop (p - 60) (take p text))

-- of the 60 bytes from the place p on, its own counted, those on the line of p
abbrev pub part_from : List ℕ → ℕ → List ℕ
part_from text p = first_line (take 60 (drop p text))

-- a byte as it is shown: a blank where it is outside 32 to 126
abbrev pub shown_byte : ℕ → ℕ
shown_byte b = if nat_le 32 b && nat_le b 126 then b else 32

-- bytes as they are shown
abbrev pub shown : List ℕ → List ℕ
shown bytes = map shown_byte bytes
