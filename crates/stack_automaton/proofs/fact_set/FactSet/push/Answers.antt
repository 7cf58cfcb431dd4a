use Rattle.std.proofs.Common.{rules, ◌<◌, length}
use Rattle.stack_automaton.proofs.fact_set.FactSet.push.Goals as goal

pub add_to_both-requires : goal.add_to_both-requires
add_to_both-requires c =
    let many : 64 < length c.self.inside.list.items = search rules in
    c.self.invariant many
