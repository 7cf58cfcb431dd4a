use Rattle.line_text.specs.Words.{integer_word}
use Rattle.trace_file.proofs.Parts.{reads_same}
use Rattle.trace_file.proofs.Ranges.{signed_from_ends, ends_from_signed}
use Rattle.trace_file.proofs.call.take_signed.Goals as goal

pub returns : goal.returns
returns c =
    reads_same _ _ (integer_word c.args.end) signed_from_ends ends_from_signed _ _ _ c.integer.ensures.reads
