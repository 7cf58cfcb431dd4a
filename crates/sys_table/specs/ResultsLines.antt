-- For private contracts and proofs alone: the lines of a file of results, and how each part of it is refused.
use Rattle.std.specs.Prelude.{◌≡◌, ◌≢◌, ℕ, ◌+◌, ◌<◌, ◌^◌, List, [], codes}
use Rattle.sys_table.specs.declared.sys_result.SysResult.{SysResult}
use Rattle.line_text.specs.declared.miss.Miss.{Miss}
use Rattle.line_text.specs.declared.miss.Miss.TheVariants as misses
use Rattle.line_text.specs.Files.{IsProperPrefix, IsBadLine, IsVersionLine}
use Rattle.line_text.specs.Reading.{Agree, IsCutShort}
use Rattle.sys_table.specs.declared.results_error.ResultsError.{ResultsError}
use Rattle.sys_table.specs.declared.results_error.ResultsError.TheVariants.{OutOfMemory, BadLine, NoEnd, TooLong, Version}
use Rattle.sys_table.specs.declared.results_line.ResultsLine.{ResultsLine}
use Rattle.sys_table.specs.declared.results_line.ResultsLine.TheVariants.{Record, End}
use Rattle.sys_table.specs.ResultsText.{result_line, results_head, IsRightResult, AreFormedResults, HasTooManyResults}

-- a right record with data
abbrev pub HasData : SysResult → Type 0
HasData r = IsRightResult r × (r.bytes ≢ [])

-- a right record without data
abbrev pub HasNoData : SysResult → Type 0
HasNoData r = IsRightResult r × (r.bytes ≡ [])

-- a line after the first
abbrev pub results_line : ResultsLine → List ℕ
results_line (Record r) = result_line r
results_line End = codes "end\n"

abbrev pub IsResultsLine : ResultsLine → Type 0
IsResultsLine (Record r) = IsRightResult r
IsResultsLine End = Unit {0}

-- the first line has the word, and the number of another version
abbrev pub HasOtherNumber : List ℕ → Type 0
HasOtherNumber line = (n : ℕ) × (n < 2 ^ 32) × (n ≡ 1 → ⊥) × IsVersionLine (codes "dyckmon-results ") n line

-- why the first line is refused
abbrev pub IsHeadRefusal : ResultsError → List ℕ → Type 0
IsHeadRefusal OutOfMemory line = ⊥
IsHeadRefusal TooLong line = ⊥
IsHeadRefusal Version line = HasOtherNumber line
IsHeadRefusal (BadLine k) line = (k ≡ 1) × (HasOtherNumber line → ⊥) × (Agree results_head line → ⊥)
IsHeadRefusal NoEnd line = (HasOtherNumber line → ⊥) × IsCutShort {V = Unit {0}} (λ u. Unit {0}) (λ u. results_head) line

-- why a text with the right first line is refused for the lines after it
abbrev pub IsLinesRefusal : ResultsError → List ℕ → Type 0
IsLinesRefusal OutOfMemory text = Unit {0}
IsLinesRefusal TooLong text = HasTooManyResults text
IsLinesRefusal Version text = ⊥
IsLinesRefusal (BadLine k) text = (HasTooManyResults text → ⊥) × IsBadLine AreFormedResults text k
IsLinesRefusal NoEnd text = (HasTooManyResults text → ⊥) × IsProperPrefix AreFormedResults text

-- the refusal of the first line
abbrev pub head_refusal_of : Miss → ResultsError
head_refusal_of misses.OutOfMemory = OutOfMemory
head_refusal_of misses.Short = NoEnd
head_refusal_of misses.Wrong = BadLine 1

-- the refusal of the line after so many records
abbrev pub refusal_of : Miss → ℕ → ResultsError
refusal_of misses.OutOfMemory records = OutOfMemory
refusal_of misses.Short records = NoEnd
refusal_of misses.Wrong records = BadLine (records + 2)
