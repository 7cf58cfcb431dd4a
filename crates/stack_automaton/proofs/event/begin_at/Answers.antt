use Rattle.std.proofs.Common.{rules, ◌≡◌, Some}
use Rattle.std.proofs.lemmas.Result.{on_ok_weaker}
use Rattle.slab.specs.Slab.{get}
use Rattle.stack_automaton.proofs.StandingLemmas.{leads_by, are_held}
use Rattle.stack_automaton.proofs.event.begin_at.Goals as goal

pub returns-in-Some-clause-leads : goal.returns-in-Some-clause-leads
returns-in-Some-clause-leads c =
    let at : get c.args.states.now c.args.key ≡ Some c.edges.result.now = search rules in
    on_ok_weaker c.first_facts.result (leads_by c.args.model.now (get c.args.states.now) c.args.key c.args.event.now c.first_facts.new.facts.keys c.edges.result.now at) c.first_facts.ensures

pub returns-in-Some-clause-held : goal.returns-in-Some-clause-held
returns-in-Some-clause-held c = on_ok_weaker c.first_facts.result (are_held c.args.model.now c.args.event.now c.first_facts.new.facts.keys c.edges.result.now) c.first_facts.ensures
