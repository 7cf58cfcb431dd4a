use Rattle.std.proofs.lemmas.Result.{err_from_is_err_and}
use Rattle.fleet_schedule.proofs.Narrowing.{leads_start, leads_on, leads_miss, whole_miss, whole_stands}
use Rattle.fleet_schedule.proofs.ProcessLemmas.{process_word, process_pid, process_file, process_model, process_results, process_turns, process_bound}
use Rattle.fleet_schedule.proofs.process_reading.take_process.Goals as goal

pub returns-in_err-take : goal.returns-in_err-take
returns-in_err-take c =
    let p = err_from_is_err_and c.from_residual.result c.from_residual.ensures.1 in
    rw (p.1, p.2) (leads_miss c.args.cursor.now.rest.now _ c.take.new.self.rest.now (leads_start c.args.cursor.now.rest.now) (process_word c.args.processes.now c.requires) c.in_err-take.field-0.0 c.in_err-take.ensures.reads)

pub returns-in_err-pid : goal.returns-in_err-pid
returns-in_err-pid c =
    let p = err_from_is_err_and c.from_residual-in_err-pid.result c.from_residual-in_err-pid.ensures.1 in
    let worded = leads_on c.args.cursor.now.rest.now _ c.take.new.self.rest.now (leads_start c.args.cursor.now.rest.now) (process_word c.args.processes.now c.requires) tt c.in_ok-take.ensures.reads in
    rw (p.1, p.2) (leads_miss c.args.cursor.now.rest.now _ c.take_fresh.new.cursor.rest.now worded (process_pid c.args.processes.now) c.in_err-pid.field-0.0 c.in_err-pid.ensures)

pub returns-in_err-file : goal.returns-in_err-file
returns-in_err-file c =
    let p = err_from_is_err_and c.from_residual-in_err-file.result c.from_residual-in_err-file.ensures.1 in
    let worded = leads_on c.args.cursor.now.rest.now _ c.take.new.self.rest.now (leads_start c.args.cursor.now.rest.now) (process_word c.args.processes.now c.requires) tt c.in_ok-take.ensures.reads in
    let numbered = leads_on c.args.cursor.now.rest.now _ c.take_fresh.new.cursor.rest.now worded (process_pid c.args.processes.now) c.in_ok-pid.pid c.in_ok-pid.ensures in
    let fresh = c.in_ok-pid.ensures.fits in
    rw (p.1, p.2) (leads_miss c.args.cursor.now.rest.now _ c.take_file.new.cursor.rest.now numbered (process_file c.args.processes.now c.in_ok-pid.pid fresh) c.in_err-file.field-0.0 c.in_err-file.ensures)

pub returns-in_err-model : goal.returns-in_err-model
returns-in_err-model c =
    let p = err_from_is_err_and c.from_residual-in_err-model.result c.from_residual-in_err-model.ensures.1 in
    let worded = leads_on c.args.cursor.now.rest.now _ c.take.new.self.rest.now (leads_start c.args.cursor.now.rest.now) (process_word c.args.processes.now c.requires) tt c.in_ok-take.ensures.reads in
    let numbered = leads_on c.args.cursor.now.rest.now _ c.take_fresh.new.cursor.rest.now worded (process_pid c.args.processes.now) c.in_ok-pid.pid c.in_ok-pid.ensures in
    let fresh = c.in_ok-pid.ensures.fits in
    let filed = leads_on c.args.cursor.now.rest.now _ c.take_file.new.cursor.rest.now numbered (process_file c.args.processes.now c.in_ok-pid.pid fresh) c.in_ok-file.file c.in_ok-file.ensures in
    let is_file = c.in_ok-file.ensures.fits in
    rw (p.1, p.2) (leads_miss c.args.cursor.now.rest.now _ c.take_file-2.new.cursor.rest.now filed (process_model c.args.processes.now c.in_ok-pid.pid fresh c.in_ok-file.file is_file) c.in_err-model.field-0.0 c.in_err-model.ensures)

pub returns-in_err-results : goal.returns-in_err-results
returns-in_err-results c =
    let p = err_from_is_err_and c.from_residual-in_err-results.result c.from_residual-in_err-results.ensures.1 in
    let worded = leads_on c.args.cursor.now.rest.now _ c.take.new.self.rest.now (leads_start c.args.cursor.now.rest.now) (process_word c.args.processes.now c.requires) tt c.in_ok-take.ensures.reads in
    let numbered = leads_on c.args.cursor.now.rest.now _ c.take_fresh.new.cursor.rest.now worded (process_pid c.args.processes.now) c.in_ok-pid.pid c.in_ok-pid.ensures in
    let fresh = c.in_ok-pid.ensures.fits in
    let filed = leads_on c.args.cursor.now.rest.now _ c.take_file.new.cursor.rest.now numbered (process_file c.args.processes.now c.in_ok-pid.pid fresh) c.in_ok-file.file c.in_ok-file.ensures in
    let is_file = c.in_ok-file.ensures.fits in
    let modelled = leads_on c.args.cursor.now.rest.now _ c.take_file-2.new.cursor.rest.now filed (process_model c.args.processes.now c.in_ok-pid.pid fresh c.in_ok-file.file is_file) c.in_ok-model.model c.in_ok-model.ensures in
    let is_model = c.in_ok-model.ensures.fits in
    rw (p.1, p.2) (leads_miss c.args.cursor.now.rest.now _ c.take_file-3.new.cursor.rest.now modelled (process_results c.args.processes.now c.in_ok-pid.pid fresh c.in_ok-file.file is_file c.in_ok-model.model is_model) c.in_err-results.field-0.0 c.in_err-results.ensures)

pub returns-in_err-turns : goal.returns-in_err-turns
returns-in_err-turns c =
    let p = err_from_is_err_and c.from_residual-in_err-turns.result c.from_residual-in_err-turns.ensures.1 in
    let worded = leads_on c.args.cursor.now.rest.now _ c.take.new.self.rest.now (leads_start c.args.cursor.now.rest.now) (process_word c.args.processes.now c.requires) tt c.in_ok-take.ensures.reads in
    let numbered = leads_on c.args.cursor.now.rest.now _ c.take_fresh.new.cursor.rest.now worded (process_pid c.args.processes.now) c.in_ok-pid.pid c.in_ok-pid.ensures in
    let fresh = c.in_ok-pid.ensures.fits in
    let filed = leads_on c.args.cursor.now.rest.now _ c.take_file.new.cursor.rest.now numbered (process_file c.args.processes.now c.in_ok-pid.pid fresh) c.in_ok-file.file c.in_ok-file.ensures in
    let is_file = c.in_ok-file.ensures.fits in
    let modelled = leads_on c.args.cursor.now.rest.now _ c.take_file-2.new.cursor.rest.now filed (process_model c.args.processes.now c.in_ok-pid.pid fresh c.in_ok-file.file is_file) c.in_ok-model.model c.in_ok-model.ensures in
    let is_model = c.in_ok-model.ensures.fits in
    let given = leads_on c.args.cursor.now.rest.now _ c.take_file-3.new.cursor.rest.now modelled (process_results c.args.processes.now c.in_ok-pid.pid fresh c.in_ok-file.file is_file c.in_ok-model.model is_model) c.in_ok-results.results c.in_ok-results.ensures in
    let is_results = c.in_ok-results.ensures.fits in
    rw (p.1, p.2) (leads_miss c.args.cursor.now.rest.now _ c.take_number.new.cursor.rest.now given (process_turns c.args.processes.now c.in_ok-pid.pid fresh c.in_ok-file.file is_file c.in_ok-model.model is_model c.in_ok-results.results is_results) c.in_err-turns.field-0.0 c.in_err-turns.ensures)

pub returns-in_err-bound : goal.returns-in_err-bound
returns-in_err-bound c =
    let p = err_from_is_err_and c.from_residual-in_err-bound.result c.from_residual-in_err-bound.ensures.1 in
    let worded = leads_on c.args.cursor.now.rest.now _ c.take.new.self.rest.now (leads_start c.args.cursor.now.rest.now) (process_word c.args.processes.now c.requires) tt c.in_ok-take.ensures.reads in
    let numbered = leads_on c.args.cursor.now.rest.now _ c.take_fresh.new.cursor.rest.now worded (process_pid c.args.processes.now) c.in_ok-pid.pid c.in_ok-pid.ensures in
    let fresh = c.in_ok-pid.ensures.fits in
    let filed = leads_on c.args.cursor.now.rest.now _ c.take_file.new.cursor.rest.now numbered (process_file c.args.processes.now c.in_ok-pid.pid fresh) c.in_ok-file.file c.in_ok-file.ensures in
    let is_file = c.in_ok-file.ensures.fits in
    let modelled = leads_on c.args.cursor.now.rest.now _ c.take_file-2.new.cursor.rest.now filed (process_model c.args.processes.now c.in_ok-pid.pid fresh c.in_ok-file.file is_file) c.in_ok-model.model c.in_ok-model.ensures in
    let is_model = c.in_ok-model.ensures.fits in
    let given = leads_on c.args.cursor.now.rest.now _ c.take_file-3.new.cursor.rest.now modelled (process_results c.args.processes.now c.in_ok-pid.pid fresh c.in_ok-file.file is_file c.in_ok-model.model is_model) c.in_ok-results.results c.in_ok-results.ensures in
    let is_results = c.in_ok-results.ensures.fits in
    let turned = leads_on c.args.cursor.now.rest.now _ c.take_number.new.cursor.rest.now given (process_turns c.args.processes.now c.in_ok-pid.pid fresh c.in_ok-file.file is_file c.in_ok-model.model is_model c.in_ok-results.results is_results) c.in_ok-turns.turns c.in_ok-turns.ensures in
    rw (p.1, p.2) (turned.err c.take_number-2.new.cursor.rest.now c.in_err-bound.field-0.0 (whole_miss _ c.take_number-2.new.cursor.rest.now (process_bound c.args.processes.now c.in_ok-pid.pid fresh c.in_ok-file.file is_file c.in_ok-model.model is_model c.in_ok-results.results is_results c.in_ok-turns.turns c.in_ok-turns.ensures.fits.1) c.in_err-bound.field-0.0 c.in_err-bound.ensures))

pub returns : goal.returns
returns c =
    let worded = leads_on c.args.cursor.now.rest.now _ c.take.new.self.rest.now (leads_start c.args.cursor.now.rest.now) (process_word c.args.processes.now c.requires) tt c.in_ok-take.ensures.reads in
    let numbered = leads_on c.args.cursor.now.rest.now _ c.take_fresh.new.cursor.rest.now worded (process_pid c.args.processes.now) c.in_ok-pid.pid c.in_ok-pid.ensures in
    let fresh = c.in_ok-pid.ensures.fits in
    let filed = leads_on c.args.cursor.now.rest.now _ c.take_file.new.cursor.rest.now numbered (process_file c.args.processes.now c.in_ok-pid.pid fresh) c.in_ok-file.file c.in_ok-file.ensures in
    let is_file = c.in_ok-file.ensures.fits in
    let modelled = leads_on c.args.cursor.now.rest.now _ c.take_file-2.new.cursor.rest.now filed (process_model c.args.processes.now c.in_ok-pid.pid fresh c.in_ok-file.file is_file) c.in_ok-model.model c.in_ok-model.ensures in
    let is_model = c.in_ok-model.ensures.fits in
    let given = leads_on c.args.cursor.now.rest.now _ c.take_file-3.new.cursor.rest.now modelled (process_results c.args.processes.now c.in_ok-pid.pid fresh c.in_ok-file.file is_file c.in_ok-model.model is_model) c.in_ok-results.results c.in_ok-results.ensures in
    let is_results = c.in_ok-results.ensures.fits in
    let turned = leads_on c.args.cursor.now.rest.now _ c.take_number.new.cursor.rest.now given (process_turns c.args.processes.now c.in_ok-pid.pid fresh c.in_ok-file.file is_file c.in_ok-model.model is_model c.in_ok-results.results is_results) c.in_ok-turns.turns c.in_ok-turns.ensures in
    turned.ok c.take_number-2.new.cursor.rest.now _ (whole_stands _ c.take_number-2.new.cursor.rest.now (process_bound c.args.processes.now c.in_ok-pid.pid fresh c.in_ok-file.file is_file c.in_ok-model.model is_model c.in_ok-results.results is_results c.in_ok-turns.turns c.in_ok-turns.ensures.fits.1) c.in_ok-bound.bound c.in_ok-bound.ensures)
