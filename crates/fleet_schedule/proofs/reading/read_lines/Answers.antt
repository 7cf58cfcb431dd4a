use Rattle.std.proofs.Common.{◌≡◌, ◌≢◌, ℕ, ◌+◌, nat_eq, List, [], ◌++◌, length, subst, sym, ap, arith, rules}
use Rattle.fleet_schedule.specs.declared.error.ScheduleError.{ScheduleError}
use Rattle.fleet_schedule.specs.declared.line.Line.{Line}
use Rattle.fleet_schedule.specs.Lines.{IsLinesRefusal}
use Rattle.fleet_schedule.specs.ScheduleText.{most_advances, most_processes, schedule_head}
use Rattle.fleet_schedule.proofs.ScheduleLemmas.{IsReading, reading_start, process_too_many, process_taken, advance_too_many, advance_taken, end_goes_on, line_missed}
use Rattle.fleet_schedule.proofs.reading.read_lines.Goals as goal

pub lines-init : goal.lines-init
lines-init c =
    subst (λ (ps : List Line). IsReading c.args.text.now ps c.new-order.result.items c.args.text.now) (sym c.new-processes.ensures.items)
    (subst (λ (order : List ℕ). IsReading c.args.text.now [] order c.args.text.now) (sym c.new-order.ensures.items) (reading_start c.args.text.now))

pub returns-then-len-eq-MOST_PROCESSES : goal.returns-then-len-eq-MOST_PROCESSES
returns-then-len-eq-MOST_PROCESSES c =
    let empty : c.is_empty.result ≡ nat_eq (length c.lines.order.items) 0 = search rules in
    let stands = rw c.in-Ok-Process.field-0-is at c.in-Ok-Process.ensures in
    let full : length c.lines.processes.items ≡ most_processes = search rules in
    process_too_many c.args.text.now c.lines.processes.items c.lines.order.items c.lines.rest.now c.first_line.result.0.now c.first_line.result.1.now c.deref.result.now c.is_empty.result c.lines.invariant c.deref.ensures.value empty c.first_line.ensures c.in-Ok-Process.process stands full

pub lines-preserved-in-Ok-Process : goal.lines-preserved-in-Ok-Process
lines-preserved-in-Ok-Process c =
    let empty : c.is_empty.result ≡ nat_eq (length c.lines.order.items) 0 = search rules in
    let stands = rw c.in-Ok-Process.field-0-is at c.in-Ok-Process.ensures in
    let room : length c.lines.processes.items ≢ most_processes = search rules in
    rw c.in_ok-push-in-Ok-Process.ensures.items (process_taken c.args.text.now c.lines.processes.items c.lines.order.items c.lines.rest.now c.first_line.result.0.now c.first_line.result.1.now c.deref.result.now c.is_empty.result c.lines.invariant c.deref.ensures.value empty c.first_line.ensures c.in-Ok-Process.process stands room)

pub returns-then-len-eq-MOST_ADVANCES : goal.returns-then-len-eq-MOST_ADVANCES
returns-then-len-eq-MOST_ADVANCES c =
    let empty : c.is_empty.result ≡ nat_eq (length c.lines.order.items) 0 = search rules in
    let stands = rw c.in-Ok-Advance.field-0-is at c.in-Ok-Advance.ensures in
    let full : length c.lines.order.items ≡ most_advances = search rules in
    advance_too_many c.args.text.now c.lines.processes.items c.lines.order.items c.lines.rest.now c.first_line.result.0.now c.first_line.result.1.now c.deref.result.now c.is_empty.result c.lines.invariant c.deref.ensures.value empty c.first_line.ensures c.in-Ok-Advance.pid stands full

pub lines-preserved : goal.lines-preserved
lines-preserved c =
    let empty : c.is_empty.result ≡ nat_eq (length c.lines.order.items) 0 = search rules in
    let stands = rw c.in-Ok-Advance.field-0-is at c.in-Ok-Advance.ensures in
    let room : length c.lines.order.items ≢ most_advances = search rules in
    rw c.in_ok-push-in-Ok-Advance.ensures.items (advance_taken c.args.text.now c.lines.processes.items c.lines.order.items c.lines.rest.now c.first_line.result.0.now c.first_line.result.1.now c.deref.result.now c.is_empty.result c.lines.invariant c.deref.ensures.value empty c.first_line.ensures c.in-Ok-Advance.pid stands room)

pub returns-in-Ok-End : goal.returns-in-Ok-End
returns-in-Ok-End c =
    let empty : c.is_empty.result ≡ nat_eq (length c.lines.order.items) 0 = search rules in
    let stands = rw c.in-Ok-End.field-0-is at c.in-Ok-End.ensures in
    let some : c.first_line.result.1.now ≢ [] = λ none. (let len : length c.first_line.result.1.now ≡ 0 = ap length none in grind arith) in
    let processes : c.len-in-Ok-End.result ≡ length c.lines.processes.items = search rules in
    let order : c.len-in-Ok-End-2.result ≡ length c.lines.order.items = search rules in
    let count : c.len-in-Ok-End.result + c.len-in-Ok-End-2.result ≡ length c.lines.processes.items + length c.lines.order.items = omega arith in
    end_goes_on c.args.text.now c.lines.processes.items c.lines.order.items c.lines.rest.now c.first_line.result.0.now c.first_line.result.1.now c.deref.result.now c.is_empty.result c.lines.invariant c.deref.ensures.value empty c.first_line.ensures stands (c.len-in-Ok-End.result + c.len-in-Ok-End-2.result) some count

pub returns-in-Err : goal.returns-in-Err
returns-in-Err c =
    let empty : c.is_empty.result ≡ nat_eq (length c.lines.order.items) 0 = search rules in
    let processes : c.len-in-Err.result ≡ length c.lines.processes.items = search rules in
    let order : c.len-in-Err-2.result ≡ length c.lines.order.items = search rules in
    let count : c.len-in-Err.result + c.len-in-Err-2.result ≡ length c.lines.processes.items + length c.lines.order.items = omega arith in
    subst (λ (error : ScheduleError). IsLinesRefusal error (schedule_head ++ c.args.text.now)) (sym c.refusal_of_line.ensures)
    (line_missed c.args.text.now c.lines.processes.items c.lines.order.items c.lines.rest.now c.first_line.result.0.now c.first_line.result.1.now c.deref.result.now c.is_empty.result c.lines.invariant c.deref.ensures.value empty c.first_line.ensures c.in-Err.miss (c.len-in-Err.result + c.len-in-Err-2.result) count c.in-Err.ensures)
