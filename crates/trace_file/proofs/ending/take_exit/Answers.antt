use Rattle.line_text.proofs.Splits.{err_first}
use Rattle.trace_file.proofs.Parts.{reads_err}
use Rattle.trace_file.proofs.EndLemmas.{exit_split}
use Rattle.trace_file.proofs.ending.take_exit.Goals as goal

pub returns-in_err-take : goal.returns-in_err-take
returns-in_err-take c =
    let rest = c.take.new.self.rest.now in
    reads_err _ _ _ _ _ c.from_residual.result c.from_residual.ensures.1 (err_first exit_split _ rest rest _ c.in_err-take.ensures.reads)
