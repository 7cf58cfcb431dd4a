use Rattle.std.proofs.Common.{◌+◌, ap}
use Rattle.std.proofs.lemmas.Result.{err_from_is_err_and}
use Rattle.trace_file.proofs.ReachedLemmas.{whole_is_line}
use Rattle.trace_file.proofs.TraceLemmas.{start_shows, start_takes, line_shows, event_takes, end_takes, after_end_shows}
use Rattle.trace_file.proofs.trace_place.TracePlacePlace.read.Goals as goal

pub returns-in_err-read_head-in-Start-clause-shows : goal.returns-in_err-read_head-in-Start-clause-shows
returns-in_err-read_head-in-Start-clause-shows c =
    let p = err_from_is_err_and c.from_residual.result c.from_residual.ensures.1 in
    rw (p.1, p.2) (start_shows c.args.self.now c.in_err-read_head-in-Start.field-0.0 c.args.line.now c.in-Start.is c.requires c.in_err-read_head-in-Start.ensures.refused)

pub read_next-requires : goal.read_next-requires
read_next-requires c = whole_is_line c.args.line.now c.requires

pub returns-in_err-event-in-Events-clause-shows : goal.returns-in_err-event-in-Events-clause-shows
returns-in_err-event-in-Events-clause-shows c =
    let p = err_from_is_err_and c.from_residual-in_err-event-in-Events.result c.from_residual-in_err-event-in-Events.ensures.1 in
    rw (p.1, p.2) (line_shows c.in-Events.count c.args.self.now c.in_err-event-in-Events.field-0.0 c.args.line.now c.in-Events.is c.requires c.in_err-event-in-Events.ensures.refused)

pub returns-in_ok-read_head-in-Start-clause-takes : goal.returns-in_ok-read_head-in-Start-clause-takes
returns-in_ok-read_head-in-Start-clause-takes c =
    start_takes c.args.self.now c.args.line.now c.in_ok-read_head-in-Start.ensures.head.0 c.in-Start.is c.requires c.in_ok-read_head-in-Start.ensures.head.1

pub returns-in-Event-clause-takes : goal.returns-in-Event-clause-takes
returns-in-Event-clause-takes c =
    event_takes c.in-Events.count c.args.self.now c.args.line.now c.in_ok-event-in-Events.field-0 c.in-Event.event c.in-Events.is c.requires c.in_ok-event-in-Events.ensures.room c.in_ok-event-in-Events.ensures.read c.in-Event.is

pub returns-in-End-2-clause-takes : goal.returns-in-End-2-clause-takes
returns-in-End-2-clause-takes c =
    end_takes c.in-Events.count c.args.self.now c.args.line.now c.in_ok-event-in-Events.field-0 c.in-End-2.end c.in-Events.is c.requires c.in_ok-event-in-Events.ensures.read c.in-End-2.is

pub returns-in-End-clause-shows : goal.returns-in-End-clause-shows
returns-in-End-clause-shows c =
    after_end_shows c.in-End.count (c.from.result + 3) c.in-End.field-1 c.args.self.now c.args.line.now c.in-End.is c.requires (ap (λ n. n + 3) c.from.ensures)
