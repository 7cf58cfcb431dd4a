use Rattle.std.proofs.Common.{Contains, take}
use Rattle.flow_model.specs.Graph.{Graph}
use Rattle.inline_model.specs.Entries.{AreEntries}
use Rattle.inline_model.specs.Searching.{IsNext}
use Rattle.inline_model.proofs.reading.next_among.Given as goal

abbrev pub invariant-loop-function : goal.invariant-loop-function
invariant-loop-function l = (g : Graph) → AreEntries g l.entries → IsNext g l.heights (Contains (take l.function-index l.functions)) l.from l.least
