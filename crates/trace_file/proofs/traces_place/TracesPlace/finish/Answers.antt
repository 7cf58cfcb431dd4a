use Rattle.std.proofs.Common.{◌+◌, sym, ◌∙◌, ap}
use Rattle.std.proofs.lemmas.Result.{err_from_is_err_and}
use Rattle.trace_file.proofs.TraceLemmas.{length_some}
use Rattle.trace_file.proofs.TracesLemmas.{start_refused, line_refused, end_refused, no_head, none_stands}
use Rattle.trace_file.proofs.traces_place.TracesPlace.finish.Goals as goal

pub returns-in_err-read_head-in-Start-clause-refused : goal.returns-in_err-read_head-in-Start-clause-refused
returns-in_err-read_head-in-Start-clause-refused c =
    let p = err_from_is_err_and c.from_residual.result c.from_residual.ensures.1 in
    rw (p.1, p.2) (start_refused c.args.self.now.stage c.args.self.now.known c.in_err-read_head-in-Start.field-0.0 c.args.tail.now c.in-Start.is c.requires c.in_err-read_head-in-Start.ensures.refused)

pub returns-in_err-read_next-in-Records-clause-refused : goal.returns-in_err-read_next-in-Records-clause-refused
returns-in_err-read_next-in-Records-clause-refused c =
    let p = err_from_is_err_and c.from_residual-in_err-read_next-in-Records.result c.from_residual-in_err-read_next-in-Records.ensures.1 in
    rw (p.1, p.2) (line_refused c.args.self.now.stage c.args.self.now.known c.in-Records.field-0 c.in-Records.count c.in_err-read_next-in-Records.field-0.0 c.args.tail.now c.in-Records.is c.requires c.in_err-read_next-in-Records.ensures.refused)

pub returns-in_ok-read_head-in-Start-clause-refused : goal.returns-in_ok-read_head-in-Start-clause-refused
returns-in_ok-read_head-in-Start-clause-refused c =
    absurd (no_head c.in_ok-read_head-in-Start.field-0 c.args.tail.now c.in_ok-read_head-in-Start.ensures.head.0 c.requires c.in_ok-read_head-in-Start.ensures.head.1)

pub returns-in_ok-read_next-in-Records-clause-refused : goal.returns-in_ok-read_next-in-Records-clause-refused
returns-in_ok-read_next-in-Records-clause-refused c =
    absurd (none_stands c.args.tail.now _ c.in_ok-read_next-in-Records.field-0 c.requires c.in_ok-read_next-in-Records.ensures.read.stands)

pub returns-else-is_empty-clause-refused : goal.returns-else-is_empty-clause-refused
returns-else-is_empty-clause-refused c =
    end_refused c.args.self.now.stage c.args.self.now.known c.in-End.field-0 c.in-End.count (c.from.result + 3) c.args.tail.now c.in-End.is c.requires (length_some c.args.tail.now (sym c.is_empty.ensures ∙ c.if-is_empty.false)) (ap (λ n. n + 3) c.from.ensures)
