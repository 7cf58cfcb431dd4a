use Rattle.std.proofs.Common.{take}
use Rattle.inline_model.specs.Searching.{IsGreatestAbove}
use Rattle.inline_model.proofs.reading.height_of.Given as goal

abbrev pub invariant-loop-entry : goal.invariant-loop-entry
invariant-loop-entry l = IsGreatestAbove (take l.entry-index l.entries) l.heights l.greatest
