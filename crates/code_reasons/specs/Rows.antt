-- For private contracts and proofs alone: the rows of the table in the code.
use Rattle.std.specs.Prelude.{ℕ, List}
use Rattle.code_reasons.specs.declared.reasons.Row.{Row}
use Rattle.code_reasons.specs.Reasons.{CodeReason, reads, reason_line}

-- what a row says
abbrev pub said : Row → CodeReason
said row = reads row.code.now row.reason.now

-- the line of a row
abbrev pub row_line : Row → List ℕ
row_line row = reason_line row.code.now row.reason.now
