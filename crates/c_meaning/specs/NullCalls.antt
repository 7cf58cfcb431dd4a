-- Null calls round calls: what they leave of a run as it was.
use Rattle.std.specs.Prelude.{◌≡◌, ℕ, List, []}
use Rattle.dm_base.specs.Trace.{erase, output}
use Rattle.sys_table.specs.declared.sys_result.SysResult.{SysResult}
use Rattle.c_tree.specs.Tree.{Program}
use Rattle.c_meaning.specs.Meaning.{Marks}
use Rattle.c_meaning.specs.Runs.{Run, run, run_with}
use Rattle.c_meaning.specs.WithoutNullCalls.{MakesNoNullCall}

-- no event before or after a call is a system call
abbrev pub AreNullCalls : Marks → Type 0
AreNullCalls marks = (site : ℕ) → (erase ((marks site).0) ≡ []) × (erase ((marks site).1) ≡ [])

-- two runs that differ in null calls alone: they end alike, make the same system calls, and write the same bytes
pub record DifferInNullCalls (a b : Run) : Type 0 where
  pub outcome : a.outcome ≡ b.outcome
  pub system_calls : erase a.trace ≡ erase b.trace
  pub written : output a.trace ≡ output b.trace

-- with null calls round its calls a program runs as it does without
abbrev pub NullCallsChangeNothing : Type 0
NullCallsChangeNothing =
    (p : Program) (marks : Marks) → AreNullCalls marks → (records : List SysResult) (turns : ℕ) → DifferInNullCalls (run_with p marks records turns) (run p records turns)

-- a program that makes no null calls has none in its runs
abbrev pub NullCallsAreMade : Type 0
NullCallsAreMade =
    (p : Program) → MakesNoNullCall p → (records : List SysResult) (turns : ℕ) → erase (run p records turns).trace ≡ (run p records turns).trace
