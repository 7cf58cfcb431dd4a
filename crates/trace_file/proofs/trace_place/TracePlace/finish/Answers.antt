use Rattle.std.proofs.Common.{◌+◌, sym, ◌∙◌, ap}
use Rattle.std.proofs.lemmas.Result.{err_from_is_err_and}
use Rattle.trace_file.proofs.TraceLemmas.{start_refused, line_refused, end_refused, no_head, none_stands, length_some}
use Rattle.trace_file.proofs.trace_place.TracePlace.finish.Goals as goal

pub returns-in_err-read_head-in-Start-clause-refused : goal.returns-in_err-read_head-in-Start-clause-refused
returns-in_err-read_head-in-Start-clause-refused c =
    let p = err_from_is_err_and c.from_residual.result c.from_residual.ensures.1 in
    rw (p.1, p.2) (start_refused c.args.self c.in_err-read_head-in-Start.field-0.0 c.args.tail.now c.in-Start.is c.requires c.in_err-read_head-in-Start.ensures.refused)

pub returns-in_err-read_next-in-Events-clause-refused : goal.returns-in_err-read_next-in-Events-clause-refused
returns-in_err-read_next-in-Events-clause-refused c =
    let p = err_from_is_err_and c.from_residual-in_err-read_next-in-Events.result c.from_residual-in_err-read_next-in-Events.ensures.1 in
    rw (p.1, p.2) (line_refused c.in-Events.count c.args.self c.in_err-read_next-in-Events.field-0.0 c.args.tail.now c.in-Events.is c.requires c.in_err-read_next-in-Events.ensures.refused)

pub returns-in_ok-read_head-in-Start-clause-refused : goal.returns-in_ok-read_head-in-Start-clause-refused
returns-in_ok-read_head-in-Start-clause-refused c =
    absurd (no_head c.args.tail.now c.in_ok-read_head-in-Start.ensures.head.0 c.requires c.in_ok-read_head-in-Start.ensures.head.1)

pub returns-in_ok-read_next-in-Events-clause-refused : goal.returns-in_ok-read_next-in-Events-clause-refused
returns-in_ok-read_next-in-Events-clause-refused c =
    absurd (none_stands c.args.tail.now _ c.in_ok-read_next-in-Events.field-0 c.requires c.in_ok-read_next-in-Events.ensures.read.stands)

pub returns-else-is_empty-clause-refused : goal.returns-else-is_empty-clause-refused
returns-else-is_empty-clause-refused c =
    end_refused c.in-End.count (c.from.result + 3) c.in-End.end c.args.self c.args.tail.now c.in-End.is c.requires (length_some c.args.tail.now (sym c.is_empty.ensures ∙ c.if-is_empty.false)) (ap (λ n. n + 3) c.from.ensures)
