use Rattle.std.proofs.Common.{◌≡◌, ◌≢◌, [], get_or, Ok, arith, rules}
use Rattle.std.proofs.lemmas.List.{nil_from_length}
use Rattle.line_text.proofs.Splits.{ok_case, err_case}
use Rattle.fleet_schedule.specs.declared.line_reading.ScheduleLine.TheVariants.{Process, Advance, End}
use Rattle.fleet_schedule.specs.Lines.{MayStand, schedule_line}
use Rattle.fleet_schedule.proofs.LineLemmas.{empty_line, is_process_at, is_advance_at, is_end_at, line_ends}
use Rattle.fleet_schedule.proofs.Narrowing.{whole_line}
use Rattle.fleet_schedule.proofs.line_reading.read_schedule_line.Goals as goal

pub returns-in-empty : goal.returns-in-empty
returns-in-empty c =
    let none : c.args.line.now ≡ [] = nil_from_length c.args.line.now (omega arith) in
    rw none (empty_line c.args.processes.now c.args.advancing)

pub returns-in-Ok : goal.returns-in-Ok
returns-in-Ok c =
    let first : get_or c.args.line.now 0 0 ≡ 112 = search rules in
    let one = is_process_at c.args.processes.now c.args.advancing c.args.line.now c.if-advancing.false c.in-112.len_at_least first in
    whole_line (MayStand c.args.processes.now c.args.advancing) schedule_line c.args.line.now c.take_process.new.cursor.rest.now c.requires.line line_ends (Ok (Process c.in-Ok.process)) (ok_case c.args.line.now c.take_process.new.cursor.rest.now one c.in-Ok.process c.in-Ok.ensures)

pub returns-in-Err : goal.returns-in-Err
returns-in-Err c =
    let first : get_or c.args.line.now 0 0 ≡ 112 = search rules in
    err_case c.args.line.now c.take_process.new.cursor.rest.now [] (is_process_at c.args.processes.now c.args.advancing c.args.line.now c.if-advancing.false c.in-112.len_at_least first) c.in-Err.miss c.in-Err.ensures

pub returns-in-Ok-take_advance : goal.returns-in-Ok-take_advance
returns-in-Ok-take_advance c =
    let first : get_or c.args.line.now 0 0 ≡ 97 = search rules in
    let one = is_advance_at c.args.processes.now c.args.advancing c.args.line.now c.in-97.len_at_least first in
    whole_line (MayStand c.args.processes.now c.args.advancing) schedule_line c.args.line.now c.take_advance.new.cursor.rest.now c.requires.line line_ends (Ok (Advance c.in-Ok-take_advance.pid)) (ok_case c.args.line.now c.take_advance.new.cursor.rest.now one c.in-Ok-take_advance.pid c.in-Ok-take_advance.ensures)

pub returns-in-Err-take_advance : goal.returns-in-Err-take_advance
returns-in-Err-take_advance c =
    let first : get_or c.args.line.now 0 0 ≡ 97 = search rules in
    err_case c.args.line.now c.take_advance.new.cursor.rest.now [] (is_advance_at c.args.processes.now c.args.advancing c.args.line.now c.in-97.len_at_least first) c.in-Err-take_advance.miss c.in-Err-take_advance.ensures

pub returns-in-Ok-take : goal.returns-in-Ok-take
returns-in-Ok-take c =
    let other : get_or c.args.line.now 0 0 ≢ 112 = search rules in
    let another : get_or c.args.line.now 0 0 ≢ 97 = search rules in
    whole_line (MayStand c.args.processes.now c.args.advancing) schedule_line c.args.line.now c.take.new.self.rest.now c.requires.line line_ends (Ok End)
    (ok_case c.args.line.now c.take.new.self.rest.now (is_end_at c.args.processes.now c.args.advancing c.args.line.now c.in_default.len_at_least other another) tt c.in-Ok-take.ensures.reads)

pub returns-in-Err-take : goal.returns-in-Err-take
returns-in-Err-take c =
    let other : get_or c.args.line.now 0 0 ≢ 112 = search rules in
    let another : get_or c.args.line.now 0 0 ≢ 97 = search rules in
    err_case c.args.line.now c.take.new.self.rest.now [] (is_end_at c.args.processes.now c.args.advancing c.args.line.now c.in_default.len_at_least other another) c.in-Err-take.miss c.in-Err-take.ensures.reads
