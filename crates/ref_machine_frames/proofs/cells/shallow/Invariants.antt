use Rattle.std.proofs.Common.{[]}
use Rattle.ref_machine_frames.specs.Cells.{AreCounted}
use Rattle.ref_machine_frames.proofs.cells.shallow.Given as goal

abbrev pub invariant-loop-members : goal.invariant-loop-members
invariant-loop-members l = AreCounted (λ s. []) l.counts.items
