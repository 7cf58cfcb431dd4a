use Rattle.line_text.proofs.Splits.{err_first}
use Rattle.trace_file.proofs.EndLemmas.{end_split}
use Rattle.trace_file.proofs.Parts.{then_next, reads_err}
use Rattle.trace_file.proofs.ending.take_end.Goals as goal

pub returns-in_err-take : goal.returns-in_err-take
returns-in_err-take c =
    let rest = c.take.new.self.rest.now in
    reads_err _ _ _ _ _ c.from_residual.result c.from_residual.ensures.1 (err_first end_split _ rest rest _ c.in_err-take.ensures.reads)

pub returns : goal.returns
returns c = then_next end_split _ _ _ tt c.in_ok-take.ensures.reads _ c.take_ending.ensures
