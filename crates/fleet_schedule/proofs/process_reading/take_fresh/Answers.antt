use Rattle.std.proofs.Common.{decimal, sym, ◌∙◌, refl, inl, rules}
use Rattle.std.proofs.lemmas.Bool.{false≢true}
use Rattle.line_text.proofs.WordLemmas.{value_stands, no_value_stands, value_is_missed, no_value_missed}
use Rattle.fleet_schedule.specs.Lines.{IsFresh}
use Rattle.fleet_schedule.proofs.ProcessLemmas.{plain_fresh, one_number, known_not_fresh}
use Rattle.fleet_schedule.proofs.process_reading.take_fresh.Goals as goal

pub returns-then-has_pid : goal.returns-then-has_pid
returns-then-has_pid c =
    no_value_stands (IsFresh c.args.processes.now) decimal 32 c.args.cursor.now.rest.now c.word.new.self.rest.now c.in-Ok.digits.now (λ p fresh. plain_fresh c.args.processes.now p fresh) c.in-Ok.ensures.reads (λ w fresh is. known_not_fresh c.args.processes.now w c.in-Some.pid fresh (c.has_pid.ensures.0 c.if-has_pid.true) (search rules) (sym is ∙ c.in-Some.ensures.some))

pub returns-else-has_pid : goal.returns-else-has_pid
returns-else-has_pid c =
    let fresh : IsFresh c.args.processes.now c.in-Some.pid = record { small = search rules; new = λ has. false≢true (sym c.if-has_pid.false ∙ c.has_pid.ensures.1 has) } in
    value_stands (IsFresh c.args.processes.now) decimal 32 c.args.cursor.now.rest.now c.word.new.self.rest.now c.in-Ok.digits.now c.in-Some.pid (λ p fresh. plain_fresh c.args.processes.now p fresh) c.in-Ok.ensures.reads fresh c.in-Some.ensures.some (λ w fresh' is. one_number w c.in-Some.pid fresh'.small fresh.small is)

pub returns-in-None : goal.returns-in-None
returns-in-None c =
    no_value_stands (IsFresh c.args.processes.now) decimal 32 c.args.cursor.now.rest.now c.word.new.self.rest.now c.in-Ok.digits.now (λ p fresh. plain_fresh c.args.processes.now p fresh) c.in-Ok.ensures.reads (λ w fresh is. c.in-None.ensures.none w fresh.small is)

pub returns-then-begins_fresh : goal.returns-then-begins_fresh
returns-then-begins_fresh c =
    value_is_missed (IsFresh c.args.processes.now) decimal 32 c.args.cursor.now.rest.now c.word.new.self.rest.now c.in-Err.miss (λ p fresh. plain_fresh c.args.processes.now p fresh) c.in-Err.ensures.reads (c.begins_fresh.ensures.0 c.if-begins_fresh.true)

pub returns-else-begins_fresh : goal.returns-else-begins_fresh
returns-else-begins_fresh c =
    no_value_missed (IsFresh c.args.processes.now) decimal 32 c.args.cursor.now.rest.now c.word.new.self.rest.now c.in-Err.miss (inl refl) (λ p fresh. plain_fresh c.args.processes.now p fresh) c.in-Err.ensures.memory c.in-Err.ensures.reads (λ begins. false≢true (sym c.if-begins_fresh.false ∙ c.begins_fresh.ensures.1 begins))
