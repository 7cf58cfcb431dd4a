-- What a program does doesn't depend on the numbers of its sites.
use Rattle.std.specs.Prelude.{◌≡◌, ℕ, List}
use Rattle.sys_table.specs.declared.sys_result.SysResult.{SysResult}
use Rattle.c_meaning.specs.Tree.{Program}
use Rattle.c_meaning.specs.Runs.{run}
use Rattle.null_calls_laws.specs.IsWithNullCalls.{IsWithNullCalls}
use Rattle.null_calls_laws.specs.InstrumentedPrograms.{instrumented_program}
use Rattle.null_calls_laws.specs.WithoutSites.{without_sites}

abbrev pub SitesChangeNothing : Type 0
SitesChangeNothing = (p : Program) (records : List SysResult) (turns : ℕ) → run (without_sites p) records turns ≡ run p records turns

-- two programs that are one program with null calls round its marked calls do the same
abbrev pub InstrumentedRunsAreOne : Type 0
InstrumentedRunsAreOne =
    (p q : Program) (records : List SysResult) (turns : ℕ) → IsWithNullCalls p q → run q records turns ≡ run (instrumented_program p) records turns
