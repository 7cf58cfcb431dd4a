use Rattle.std.proofs.Common.{◌≡◌, List, [], map, take}
use Rattle.fleet.specs.Fleets.{StandsFor, steps_of}
use Rattle.fleet.specs.Members.{Group}
use Rattle.tool_fleet.specs.Inputs.{member_after}
use Rattle.tool_fleet.proofs.running.add_processes.Given as goal

-- the processes so far were added
abbrev pub invariant-loop-one : goal.invariant-loop-one
invariant-loop-one g l = record {
  stands : (groups : List Group) → StandsFor g.M.Monitor l.fn.fleet groups [] → StandsFor g.M.Monitor l.fleet groups (map (member_after []) (take l.one-index l.processes));
  counted : steps_of l.fleet ≡ steps_of l.fn.fleet;
}
