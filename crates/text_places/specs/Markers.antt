-- Line marker lines, by which a preprocessor tells from which line of which file the next line comes.
use Rattle.std.specs.Prelude.{◌≡◌, ◌↔◌, ℕ, ◌+◌, ◌<◌, ◌^◌, Bool, true, ◌||◌, ◌&&◌, nat_eq, nat_lt, nat_le, if◌then◌else◌, IsTrue, List, [], ◌∷◌, ◌++◌, length, take, drop, Option, Some, None, codes, decimal, flat_map}
use Rattle.std.specs.List.{list_all, position}
use Rattle.std.specs.Option.{option_and_then}
use Rattle.std.specs.Str.{bytes_eq}
use Rattle.std.specs.Str.Parse.{digits_value}

-- a line of a file, counted from 1
pub record FileLine : Type 0 where
  pub file : List ℕ
  pub line : ℕ

-- a blank or a tab
abbrev pub is_blank : ℕ → Bool
is_blank b = nat_eq b 32 || nat_eq b 9

-- a blank, a tab or a carriage return
abbrev pub is_tail : ℕ → Bool
is_tail b = is_blank b || nat_eq b 13

-- a flag of a line marker, 1 to 4, as a digit
abbrev pub is_flag : ℕ → Bool
is_flag b = nat_le 49 b && nat_le b 52

-- the flags, each behind one blank
abbrev pub flags_text : List ℕ → List ℕ
flags_text flags = flat_map (λ flag. 32 ∷ flag ∷ []) flags

-- The line is `# N "NAME"` with blanks or tabs before it, flags after it, and blanks, tabs or carriage returns at the end; N is
-- the canonical decimal of a number below 2 ^ 32. The next line is then line N of NAME.
pub record IsMarkerLine (line : List ℕ) (next : FileLine) : Type 0 where
  pub margin : List ℕ
  pub flags : List ℕ
  pub tail : List ℕ
  pub is : line ≡ margin ++ codes "# " ++ decimal next.line ++ codes " \"" ++ next.file ++ codes "\"" ++ flags_text flags ++ tail
  pub blank : IsTrue (list_all is_blank margin)
  pub small : next.line < 2 ^ 32
  pub are_flags : IsTrue (list_all is_flag flags)
  pub ends : IsTrue (list_all is_tail tail)

-- The same as a function: what each part of the line is read as.

-- what stands behind the blanks and tabs at the front
abbrev pub behind_margin : List ℕ → List ℕ
behind_margin [] = []
behind_margin (b ∷ bytes) = if is_blank b then behind_margin bytes else b ∷ bytes

-- what stands behind the word, where the bytes begin with it
abbrev pub behind : List ℕ → List ℕ → Option (List ℕ)
behind word bytes = if bytes_eq (take (length word) bytes) word then Some (drop (length word) bytes) else None

-- the number below 2 ^ 32 whose canonical decimal the bytes are
abbrev pub number_of : List ℕ → Option ℕ
number_of digits = if bytes_eq (decimal (digits_value 10 digits)) digits && nat_lt (digits_value 10 digits) 4294967296 then Some (digits_value 10 digits) else None

-- the place of the last double quote behind a byte, or of the byte itself where it is one and none stands behind it
abbrev pub later_or_first : ℕ → Option ℕ → Option ℕ
later_or_first b (Some i) = Some (i + 1)
later_or_first b None = if nat_eq b 34 then Some 0 else None

-- where the last double quote stands
abbrev pub last_quote : List ℕ → Option ℕ
last_quote [] = None
last_quote (b ∷ bytes) = later_or_first b (last_quote bytes)

-- the bytes are flags, each behind one blank, and then blanks, tabs and carriage returns
abbrev pub ends_marker : List ℕ → Bool
ends_marker [] = true
ends_marker (b ∷ []) = is_tail b
ends_marker (b ∷ flag ∷ bytes) = if nat_eq b 32 && is_flag flag then ends_marker bytes else list_all is_tail (b ∷ flag ∷ bytes)

-- the next line, where the bytes behind the first double quote end a line marker with this number
abbrev pub quoted_line : ℕ → List ℕ → Option FileLine
quoted_line number bytes = option_and_then (λ i. if ends_marker (drop (i + 1) bytes) then Some (record { file = take i bytes; line = number }) else None) (last_quote bytes)

-- the next line, where the bytes begin with a double quote behind a blank, and end a line marker with this number
abbrev pub spaced_line : ℕ → List ℕ → Option FileLine
spaced_line number bytes = option_and_then (λ quoted. quoted_line number quoted) (behind (codes " \"") bytes)

-- the next line, where the bytes before the place are the number, and those from it on end the line marker
abbrev pub split_line : List ℕ → ℕ → Option FileLine
split_line bytes place = option_and_then (λ number. spaced_line number (drop place bytes)) (number_of (take place bytes))

-- where the first blank stands
abbrev pub first_blank : List ℕ → Option ℕ
first_blank bytes = position (λ b. nat_eq b 32) bytes

-- the next line, where the bytes behind the `# ` are a number, a double quote behind a blank, and so on
abbrev pub numbered_line : List ℕ → Option FileLine
numbered_line bytes = option_and_then (λ place. split_line bytes place) (first_blank bytes)

-- the next line as the line marker line tells it; none where the line is no line marker line
abbrev pub marker_of : List ℕ → Option FileLine
marker_of line = option_and_then (λ bytes. numbered_line bytes) (behind (codes "# ") (behind_margin line))

-- a line tells a next line exactly where it is a line marker line with that next line
abbrev pub MarkersAreTold : Type 0
MarkersAreTold = (line : List ℕ) (next : FileLine) → (marker_of line ≡ Some next) ↔ IsMarkerLine line next
