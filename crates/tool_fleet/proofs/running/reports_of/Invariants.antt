use Rattle.std.proofs.Common.{ℕ, List, map, take, All}
use Rattle.std.specs.List.{AllZip}
use Rattle.fleet.specs.Fleets.{StandsFor}
use Rattle.tool_fleet.specs.declared.inputs.GroupModel.{GroupModel}
use Rattle.tool_fleet.specs.Inputs.{IsReported, IsTellableReport, group_of, member_after}
use Rattle.tool_fleet.proofs.running.reports_of.Given as goal

-- the processes so far are reported
abbrev pub invariant-loop-one : goal.invariant-loop-one
invariant-loop-one g l = record {
  reported : (groups : List GroupModel) (order : List ℕ) → StandsFor g.M.Monitor l.fleet (map group_of groups) (map (member_after order) l.processes) → AllZip (IsReported g.M.Monitor.WHICH groups order) (take l.one-index l.processes) l.reports.items;
  tellable : All IsTellableReport l.reports.items;
}
