use Rattle.std.proofs.Common.{sym, ◌∙◌}
use Rattle.stack_automaton.proofs.FactLemmas.{edges_exact}
use Rattle.stack_automaton.proofs.shared.are_equal.Goals as goal

pub returns : goal.returns
returns c = λ holds. edges_exact c.args.a.now c.args.b.now (sym c.eq.ensures ∙ holds)
