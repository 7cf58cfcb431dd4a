-- Which recorded result a run names as bad.
use Rattle.std.specs.Prelude.{◌≡◌, ℕ, ◌≤◌, List, length}
use Rattle.dm_base.specs.declared.outcome.Outcome.TheVariants.{BadResult}
use Rattle.sys_table.specs.declared.sys_result.SysResult.{SysResult}
use Rattle.c_tree.specs.Tree.{Program}
use Rattle.c_meaning.specs.Meaning.{Marks}
use Rattle.c_meaning.specs.Runs.{run_with}

-- the number of a bad result, counted from 1, is that of one of the recorded results
abbrev pub BadResultsAreRecorded : Type 0
BadResultsAreRecorded =
    (p : Program) (marks : Marks) (records : List SysResult) (turns k : ℕ) → (run_with p marks records turns).outcome ≡ BadResult k → (1 ≤ k) × (k ≤ length records)
