-- The groups and processes of a fleet.
use Rattle.std.specs.Prelude.{ℕ, ◌+◌, Bool, true, false, List}
use Rattle.sys_table.specs.declared.sys_result.SysResult.{SysResult}
use Rattle.c_tree.specs.Tree.{Program}
use Rattle.c_meaning.specs.Runs.{Run, run}
use Rattle.flow_model.specs.Graph.{Graph}

-- a group of processes that are judged by one model: the model, and how many calls may be open at once in the Dyck model
pub record Group : Type 0 where
  pub model : Graph
  pub bound : ℕ

-- a process: its number, its group, its program with the recorded results and turns of its run, how often it was advanced, and whether memory was refused to it
pub record Member : Type 0 where
  pub pid : ℕ
  pub group : ℕ
  pub program : Program
  pub results : List SysResult
  pub turns : ℕ
  pub advances : ℕ
  pub failed : Bool

-- its run alone
abbrev pub run_of : Member → Run
run_of m = run m.program m.results m.turns

-- the same process after one advance more
abbrev pub one_more : Member → Member
one_more m = record m { advances = m.advances + 1 }

-- the same process once memory was refused to it
abbrev pub refused_to : Member → Member
refused_to m = record m { failed = true }

-- a process that was not advanced yet
abbrev pub new_member : ℕ → ℕ → Program → List SysResult → ℕ → Member
new_member pid group program results turns = record { pid = pid; group = group; program = program; results = results; turns = turns; advances = 0; failed = false }
