use Rattle.std.proofs.Common.{Contains, take}
use Rattle.flow_model.specs.Graph.{Graph}
use Rattle.inline_model.specs.Entries.{AreEntries}
use Rattle.inline_model.specs.Searching.{AreHeights, Completes, StayLow}
use Rattle.inline_model.proofs.reading.complete_each.Given as goal

abbrev pub invariant-loop-function : goal.invariant-loop-function
invariant-loop-function l = record {
  completes : (g : Graph) → AreEntries g l.entries → AreHeights g l.fn.heights → Completes g l.fn.heights l.heights (Contains (take l.function-index l.functions));
  stays : StayLow l.fn.heights l.heights;
}
