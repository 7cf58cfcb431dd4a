use Rattle.std.proofs.Common.{decimal, sym, ◌∙◌, refl, inr, Contains, rules}
use Rattle.std.proofs.lemmas.Bool.{false≢true}
use Rattle.line_text.proofs.WordLemmas.{value_stands, no_value_stands, value_is_missed, no_value_missed}
use Rattle.fleet_schedule.specs.ScheduleText.{pids}
use Rattle.fleet_schedule.proofs.ProcessLemmas.{plain_pid, one_number, known_pid}
use Rattle.fleet_schedule.proofs.PidLemmas.{pid_small}
use Rattle.fleet_schedule.proofs.process_reading.take_known.Goals as goal

pub returns-then-has_pid : goal.returns-then-has_pid
returns-then-has_pid c =
    let has = c.has_pid.ensures.0 c.if-has_pid.true in
    value_stands (Contains (pids c.args.processes.now)) decimal 10 c.args.cursor.now.rest.now c.word.new.self.rest.now c.in-Ok.digits.now c.in-Some.pid (λ p has. plain_pid c.args.processes.now p c.requires has) c.in-Ok.ensures.reads has c.in-Some.ensures.some (λ w has' is. one_number w c.in-Some.pid (pid_small c.args.processes.now w c.requires has') (pid_small c.args.processes.now c.in-Some.pid c.requires has) is)

pub returns-else-has_pid : goal.returns-else-has_pid
returns-else-has_pid c =
    no_value_stands (Contains (pids c.args.processes.now)) decimal 10 c.args.cursor.now.rest.now c.word.new.self.rest.now c.in-Ok.digits.now (λ p has. plain_pid c.args.processes.now p c.requires has) c.in-Ok.ensures.reads (λ w has is. false≢true (sym c.if-has_pid.false ∙ c.has_pid.ensures.1 (known_pid c.args.processes.now w c.in-Some.pid c.requires has (search rules) (sym is ∙ c.in-Some.ensures.some))))

pub returns-in-None : goal.returns-in-None
returns-in-None c =
    no_value_stands (Contains (pids c.args.processes.now)) decimal 10 c.args.cursor.now.rest.now c.word.new.self.rest.now c.in-Ok.digits.now (λ p has. plain_pid c.args.processes.now p c.requires has) c.in-Ok.ensures.reads (λ w has is. c.in-None.ensures.none w (pid_small c.args.processes.now w c.requires has) is)

pub returns-then-begins_known : goal.returns-then-begins_known
returns-then-begins_known c =
    value_is_missed (Contains (pids c.args.processes.now)) decimal 10 c.args.cursor.now.rest.now c.word.new.self.rest.now c.in-Err.miss (λ p has. plain_pid c.args.processes.now p c.requires has) c.in-Err.ensures.reads (c.begins_known.ensures.0 c.if-begins_known.true)

pub returns-else-begins_known : goal.returns-else-begins_known
returns-else-begins_known c =
    no_value_missed (Contains (pids c.args.processes.now)) decimal 10 c.args.cursor.now.rest.now c.word.new.self.rest.now c.in-Err.miss (inr refl) (λ p has. plain_pid c.args.processes.now p c.requires has) c.in-Err.ensures.memory c.in-Err.ensures.reads (λ begins. false≢true (sym c.if-begins_known.false ∙ c.begins_known.ensures.1 begins))
