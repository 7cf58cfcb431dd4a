use Rattle.std.proofs.Common.{◌≡◌, ◌+◌, List, [], map, take}
use Rattle.fleet.specs.Fleets.{StandsFor, steps_of}
use Rattle.fleet.specs.Members.{Group}
use Rattle.tool_fleet.specs.declared.inputs.ProcessInput.{ProcessInput}
use Rattle.tool_fleet.specs.Inputs.{member_after}
use Rattle.tool_fleet.proofs.running.advance_all.Given as goal

-- the processes were advanced in the order so far
abbrev pub invariant-loop-pid : goal.invariant-loop-pid
invariant-loop-pid g l = record {
  stands : (groups : List Group) (processes : List ProcessInput) → StandsFor g.M.Monitor l.fn.fleet groups (map (member_after []) processes) → StandsFor g.M.Monitor l.fleet groups (map (member_after (take l.pid-index l.order)) processes);
  counted : steps_of l.fleet ≡ steps_of l.fn.fleet + l.pid-index;
}
