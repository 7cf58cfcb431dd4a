use Rattle.line_text.specs.Words.{integer_word}
use Rattle.trace_file.proofs.Parts.{reads_same}
use Rattle.trace_file.proofs.Ranges.{unsigned_from_ends, ends_from_unsigned}
use Rattle.trace_file.proofs.call.take_unsigned.Goals as goal

pub returns : goal.returns
returns c =
    reads_same _ _ (integer_word c.args.end) unsigned_from_ends ends_from_unsigned _ _ _ c.integer.ensures.reads
