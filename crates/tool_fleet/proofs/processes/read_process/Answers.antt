use Rattle.std.proofs.lemmas.Result.{err_from_is_err_and}
use Rattle.tool_fleet.proofs.ReadingLemmas.{models_moved, process_read, stops_at_others, stops_at_program}
use Rattle.tool_fleet.proofs.processes.read_process.Goals as goal

pub returns-in_err-program-clause-stop : goal.returns-in_err-program-clause-stop
returns-in_err-program-clause-stop g c =
    let w = err_from_is_err_and c.from_residual.result c.from_residual.ensures.1 in
    rw (w.1, w.2) (stops_at_program (g.S.Store.files c.args.store.now) c.args.line.now c.name_of.result.now c.in_err-program.field-0.0 _ _ c.name_of.ensures c.in_err-program.ensures.stop)

pub others_in-requires-clause-models : goal.others_in-requires-clause-models
others_in-requires-clause-models g c = models_moved (g.S.Store.files c.args.store.now) _ c.args.groups.now.items c.in_ok-program.ensures.same c.requires.models

pub returns-in-Ok-clause-read : goal.returns-in-Ok-clause-read
returns-in-Ok-clause-read g c =
    process_read (g.S.Store.files c.args.store.now) _ c.args.line.now c.name_of.result.now c.in_ok-program.program c.in_ok-program.ensures.same c.name_of.ensures c.in_ok-program.ensures.read c.args.groups.now.items _ c.in-Ok.others c.process_of.result c.in-Ok.ensures.group c.in-Ok.ensures.results c.process_of.ensures

pub returns-in-Err-clause-stop : goal.returns-in-Err-clause-stop
returns-in-Err-clause-stop g c =
    stops_at_others (g.S.Store.files c.args.store.now) _ c.args.line.now c.name_of.result.now c.in_ok-program.program c.in_ok-program.ensures.same c.name_of.ensures c.in_ok-program.ensures.read c.in-Err.stop _ _ _ c.in_ok-program.ensures.never_falls c.in-Err.ensures.stop
