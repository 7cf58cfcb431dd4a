use Rattle.line_text.specs.Words.{integer_word}
use Rattle.trace_file.proofs.Parts.{reads_same}
use Rattle.trace_file.proofs.Ranges.{zero_from_ends, ends_from_zero}
use Rattle.trace_file.proofs.call.take_value.Goals as goal

pub returns-in-Void : goal.returns-in-Void
returns-in-Void c =
    rw c.in-Void.is (reads_same _ _ (integer_word 10) zero_from_ends ends_from_zero _ _ _ c.integer.ensures.reads)
