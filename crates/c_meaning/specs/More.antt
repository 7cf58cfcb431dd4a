-- More recorded results, and more turns, than a run came to want.
use Rattle.std.specs.Prelude.{◌≡◌, ◌≢◌, ℕ, ◌+◌, List, ◌++◌}
use Rattle.dm_base.specs.declared.outcome.Outcome.TheVariants.{Results, Turns}
use Rattle.sys_table.specs.declared.sys_result.SysResult.{SysResult}
use Rattle.c_tree.specs.Tree.{Program}
use Rattle.c_meaning.specs.Meaning.{Marks}
use Rattle.c_meaning.specs.Runs.{run_with}

-- a run that did not end for want of a recorded result is the same with more of them
abbrev pub MoreRecordsChangeNothing : Type 0
MoreRecordsChangeNothing =
    (p : Program) (marks : Marks) (records : List SysResult) (turns : ℕ) → (run_with p marks records turns).outcome ≢ Results → (more : List SysResult) → run_with p marks (records ++ more) turns ≡ run_with p marks records turns

-- a run that did not end for want of turns is the same with more of them
abbrev pub MoreTurnsChangeNothing : Type 0
MoreTurnsChangeNothing =
    (p : Program) (marks : Marks) (records : List SysResult) (turns : ℕ) → (run_with p marks records turns).outcome ≢ Turns → (more : ℕ) → run_with p marks records (turns + more) ≡ run_with p marks records turns
