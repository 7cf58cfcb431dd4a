use Rattle.std.proofs.Common.{length}
use Rattle.trace_file.specs.Pieces.{HasTaken}
use Rattle.trace_file.proofs.pieces.take_lines.Given as goal

abbrev pub invariant-loop-line : goal.invariant-loop-line
invariant-loop-line g l = record {
  taken : HasTaken g.P.Place.reaches l.fn.place l.text l.rest l.initial.items.items l.items.items l.place;
  marks : (mark : g.row.P-Mark.Denot) (first : g.row.P.Denot) → g.P.Place.marks mark first l.fn.place → g.P.Place.marks mark first l.place;
}

abbrev pub decreases-loop-line : goal.decreases-loop-line
decreases-loop-line g l = length l.rest
