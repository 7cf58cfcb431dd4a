use Rattle.std.proofs.Common.{◌≡◌, take, flat_map}
use Rattle.code_reasons.specs.Rows.{row_line}
use Rattle.code_reasons.proofs.reasons.lines_of.Given as goal

abbrev pub invariant-loop-row : goal.invariant-loop-row
invariant-loop-row l = l.text.items ≡ flat_map row_line (take l.row-index l.rows)
