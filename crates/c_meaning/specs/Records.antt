-- Which recorded results answer which system calls.
use Rattle.std.specs.Prelude.{ℕ}
use Rattle.std.specs.Bool.{Decides}
use Rattle.sys_table.specs.declared.sys_result.SysResult.{SysResult}
use Rattle.sys_table.specs.Answering.{Answers}
use Rattle.c_meaning.specs.SystemCalls.{does_answer}

-- a run takes a recorded result for a system call exactly where the table says that it answers the call
abbrev pub RecordsAreJudged : Type 0
RecordsAreJudged = (call asked : ℕ) (r : SysResult) → Decides (does_answer call asked r) (Answers call asked r)
