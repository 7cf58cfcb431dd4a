use Rattle.std.proofs.Common.{◌≡◌, ◌≤◌, take}
use Rattle.tool_fleet.specs.Inputs.{AreRead}
use Rattle.tool_fleet.proofs.processes.inputs_in.Given as goal

-- the files of the lines so far were read
abbrev pub invariant-loop-line : goal.invariant-loop-line
invariant-loop-line g l = record {
  same : g.S.Store.files l.store ≡ g.S.Store.files l.fn.store;
  falls : g.S.Store.faults l.fn.store ≤ g.S.Store.faults l.store;
  read : AreRead (g.S.Store.files l.fn.store) (take l.line-index l.lines) l.inputs.groups.items l.inputs.processes.items;
}
