use Rattle.std.proofs.Common.{◌≡◌, [], map, take}
use Rattle.fleet.specs.Fleets.{StandsFor, steps_of}
use Rattle.tool_fleet.specs.Inputs.{group_of}
use Rattle.tool_fleet.proofs.running.add_groups.Given as goal

-- the groups so far were added
abbrev pub invariant-loop-one : goal.invariant-loop-one
invariant-loop-one g l = record {
  stands : StandsFor g.M.Monitor l.fleet (map group_of (take l.one-index l.groups)) [];
  counted : steps_of l.fleet ≡ steps_of l.fn.fleet;
}
