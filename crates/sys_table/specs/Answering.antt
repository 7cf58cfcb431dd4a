-- Which record answers which system call.
use Rattle.std.specs.Prelude.{◌≡◌, ◌⊎◌, ℕ, suc, zero, pos, negsuc, ◌≤◌, ◌≤ℤ◌, [], length, FitsSigned}
use Rattle.std.specs.Int.{w32}
use Rattle.sys_table.specs.declared.sys_result.SysResult.{SysResult}
use Rattle.sys_table.specs.Table.{result_of, FitsResult}

-- the record answers `read` of this many bytes: −1 without data, or as many as its data, which are no more than asked and fit an int
abbrev pub AnswersRead : ℕ → SysResult → Type 0
AnswersRead asked r = ((r.value ≡ negsuc 0) × (r.bytes ≡ [])) ⊎ ((r.value ≡ pos (length r.bytes)) × (length r.bytes ≤ asked) × FitsSigned w32 r.value)

-- the record answers `write` of this many bytes: −1 to as many as asked, within an int, without data
pub record AnswersWrite (asked : ℕ) (r : SysResult) : Type 0 where
  pub none : r.bytes ≡ []
  pub low : negsuc 0 ≤ℤ r.value
  pub high : r.value ≤ℤ pos asked
  pub fits : FitsSigned w32 r.value

-- the record answers another call: a value in the range of its result, without data
abbrev pub AnswersOther : ℕ → SysResult → Type 0
AnswersOther name r = (r.bytes ≡ []) × FitsResult (result_of name) r.value

-- the record answers the call with this number, which asked for so many bytes where it is `read`, number 0, or `write`, number 1
abbrev pub Answers : ℕ → ℕ → SysResult → Type 0
Answers zero asked r = AnswersRead asked r
Answers (suc zero) asked r = AnswersWrite asked r
Answers (suc (suc name)) asked r = AnswersOther (suc (suc name)) r
