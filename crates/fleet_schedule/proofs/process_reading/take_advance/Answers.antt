use Rattle.std.proofs.Common.{◌≤◌, length, arith}
use Rattle.line_text.proofs.Splits.{err_first}
use Rattle.fleet_schedule.proofs.ProcessLemmas.{advance_split, no_pids, advance_read}
use Rattle.fleet_schedule.proofs.process_reading.take_advance.Goals as goal

pub returns-then-is_empty : goal.returns-then-is_empty
returns-then-is_empty c p has agree = no_pids c.args.processes.now p has (grind arith)

pub returns-in-Ok : goal.returns-in-Ok
returns-in-Ok c =
    let some : 1 ≤ length c.args.processes.now = grind arith in
    advance_read c.args.processes.now c.args.cursor.now.rest.now c.take.new.self.rest.now c.take_known.new.cursor.rest.now c.take_known.result some c.in-Ok.ensures.reads c.take_known.ensures

pub returns-in-Err : goal.returns-in-Err
returns-in-Err c =
    let some : 1 ≤ length c.args.processes.now = grind arith in
    err_first (advance_split c.args.processes.now some) c.args.cursor.now.rest.now c.take.new.self.rest.now c.take.new.self.rest.now c.in-Err.miss c.in-Err.ensures.reads
