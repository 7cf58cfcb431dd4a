-- Why `explain FILE` refuses its file, and what it says of it; where it accepts it, it makes what `check FILE` makes.
use Rattle.std.specs.Prelude.{◌≡◌, ◌≢◌, ℕ, List, [], ◌++◌, length, replicate, Option, Some, IfSome, codes, decimal}
use Rattle.code_reasons.specs.Reasons.{reason_of}
use Rattle.dm_base.specs.declared.mode.Mode.TheVariants.{Plain}
use Rattle.dm_base.specs.declared.verdict.Status.{Status}
use Rattle.dm_base.specs.declared.verdict.Status.TheVariants as statuses
use Rattle.dm_io.specs.Store.{Files, file_at}
use Rattle.c_rules.specs.Accepted.{IsAcceptedAs}
use Rattle.c_tree.specs.Tree.{Program}
use Rattle.text_places.specs.Lines.{part_before, part_from, shown}
use Rattle.text_places.specs.Locations.{located, location_text}
use Rattle.tool_texts.specs.SourceError.{SourceError}
use Rattle.tool_texts.specs.SourceError.TheVariants.{OutOfMemory, Lexical, Syntax, Nesting, Rule}
use Rattle.tool_texts.specs.Sources.{IsSourceCause, RefusesSource, source_refusal}

-- the code of an error
abbrev pub code_text : SourceError → List ℕ
code_text OutOfMemory = []
code_text (Lexical code place) = codes "L" ++ decimal code
code_text (Syntax place) = codes "P1"
code_text (Nesting place) = codes "P2"
code_text (Rule code place) = codes "C" ++ decimal code

-- the place of an error
abbrev pub place_of : SourceError → ℕ
place_of OutOfMemory = 0
place_of (Lexical code place) = place
place_of (Syntax place) = place
place_of (Nesting place) = place
place_of (Rule code place) = place

-- The lines that explain a refusal: the location of the place with the code and its reason; the part of the line, from the 60th
-- byte before the place to the 60th byte from it on; and a `^` below the place.
abbrev pub explanation : List ℕ → List ℕ → SourceError → List ℕ
explanation name text error =
    location_text (located name text (place_of error)) ++ codes ": " ++ code_text error ++ codes ": " ++ reason_of (code_text error) ++ codes "\n"
    ++ shown (part_before text (place_of error)) ++ shown (part_from text (place_of error)) ++ codes "\n"
    ++ replicate (length (part_before text (place_of error))) 32 ++ codes "^\n"

-- the text in the file is refused, with this status and these lines: the explanation of an error that is one of the text
abbrev pub RefusesToExplain : Option Files → List ℕ → Status → List ℕ → Type 0
RefusesToExplain files name status lines =
    (error : SourceError) × (error ≢ OutOfMemory) × (status ≡ statuses.SourceRefused) × ((text : List ℕ) × (lines ≡ explanation name text error))
    × IfSome files (λ told. (lines ≡ explanation name (file_at told name) error) × IsSourceCause error (file_at told name) Plain × ((p : Program) → IsAcceptedAs (file_at told name) Plain p → ⊥))

-- the lines explain the error of the refusal that has the other line
abbrev pub ExplainsRefusal : List ℕ → List ℕ → List ℕ → List ℕ → Type 0
ExplainsRefusal name text lines line = (error : SourceError) × (lines ≡ explanation name text error) × (line ≡ source_refusal error)

-- `explain` may refuse a file exactly where `check` may, and with the explanation of what `check` may answer
abbrev pub ExplainsWhatChecks : Type 0
ExplainsWhatChecks =
    (told : Files) (name : List ℕ) (status : Status)
    → ((lines : List ℕ) → RefusesToExplain (Some told) name status lines → (line : List ℕ) × RefusesSource Plain (Some told) name status line × ExplainsRefusal name (file_at told name) lines line)
    × ((line : List ℕ) → RefusesSource Plain (Some told) name status line → (lines : List ℕ) × RefusesToExplain (Some told) name status lines × ExplainsRefusal name (file_at told name) lines line)
