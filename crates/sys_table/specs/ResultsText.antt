-- The file of recorded results, and why a text is none.
use Rattle.std.specs.Prelude.{◌≡◌, ◌⊎◌, ℕ, ◌<◌, ◌≤◌, pos, negsuc, ◌≤ℤ◌, List, [], ◌∷◌, ◌++◌, All, length, flat_map, codes}
use Rattle.std.specs.Fmt.{signed_decimal}
use Rattle.hex.specs.Hex.{IsBytes, encode_lower}
use Rattle.line_text.specs.Files.{IsProperPrefix, IsBadLine, HasOtherVersion}
use Rattle.sys_table.specs.declared.results_error.ResultsError.{ResultsError}
use Rattle.sys_table.specs.declared.results_error.ResultsError.TheVariants.{OutOfMemory, BadLine, NoEnd, TooLong, Version}
use Rattle.sys_table.specs.declared.sys_result.SysResult.{SysResult}

-- the greatest length of a file of results, in bytes: 64 MiB
abbrev pub longest : ℕ
longest = 67108864

-- the greatest number of records
abbrev pub most : ℕ
most = 1000000

-- the value is from −2^31 to 2^32 − 1
abbrev pub IsValueInRange : SysResult → Type 0
IsValueInRange r = (negsuc 2147483647 ≤ℤ r.value) × (r.value ≤ℤ pos 4294967295)

-- a record that a file may hold: its value is from −2^31 to 2^32 − 1, and its data are bytes
pub record IsRightResult (r : SysResult) : Type 0 where
  pub low : negsuc 2147483647 ≤ℤ r.value
  pub high : r.value ≤ℤ pos 4294967295
  pub are_bytes : IsBytes r.bytes

-- a space and the data in hexadecimal, or nothing for none
abbrev pub data_text : List ℕ → List ℕ
data_text [] = []
data_text (b ∷ bytes) = 32 ∷ encode_lower (b ∷ bytes)

-- `VALUE` or `VALUE HEX`, and the line feed
abbrev pub result_text : SysResult → List ℕ
result_text r = signed_decimal r.value ++ (data_text r.bytes ++ 10 ∷ [])

-- `R VALUE` or `R VALUE HEX`, and the line feed
abbrev pub result_line : SysResult → List ℕ
result_line r = codes "R " ++ result_text r

abbrev pub results_head : List ℕ
results_head = codes "dyckmon-results 1\n"

-- the first line, a line for each record, and the end line
abbrev pub results_text : List SysResult → List ℕ
results_text records = results_head ++ (flat_map result_line records ++ codes "end\n")

-- the text is that of the records
pub record AreResults (text : List ℕ) (records : List SysResult) : Type 0 where
  pub right : All IsRightResult records
  pub is : text ≡ results_text records

abbrev pub AreFormedResults : List ℕ → Type 0
AreFormedResults text = (records : List SysResult) × AreResults text records

-- results within the limits
pub record AreResultsWithin (text : List ℕ) (records : List SysResult) : Type 0 where
  pub results : AreResults text records
  pub few : length records ≤ most
  pub short : length text ≤ longest

-- the lines of one record too many stand first
pub record HasTooManyResults (text : List ℕ) : Type 0 where
  pub records : List SysResult
  pub rest : List ℕ
  pub many : length records ≡ 1000001
  pub right : All IsRightResult records
  pub is : text ≡ results_head ++ (flat_map result_line records ++ rest)

abbrev pub HasOtherResultsVersion : List ℕ → Type 0
HasOtherResultsVersion text = HasOtherVersion (codes "dyckmon-results ") (λ n. n ≡ 1) text

-- why a text is refused: its length comes first, then another version, then the first line that shows that there are too many records or that is bad, then that it ends too early
abbrev pub IsResultsRefusal : ResultsError → List ℕ → Type 0
IsResultsRefusal OutOfMemory text = Unit {0}
IsResultsRefusal TooLong text = (longest < length text) ⊎ HasTooManyResults text
IsResultsRefusal Version text = (length text ≤ longest) × HasOtherResultsVersion text
IsResultsRefusal (BadLine k) text = (length text ≤ longest) × (HasOtherResultsVersion text → ⊥) × (HasTooManyResults text → ⊥) × IsBadLine AreFormedResults text k
IsResultsRefusal NoEnd text = (length text ≤ longest) × (HasOtherResultsVersion text → ⊥) × (HasTooManyResults text → ⊥) × IsProperPrefix AreFormedResults text
