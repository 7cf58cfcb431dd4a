use Rattle.std.proofs.Common.{sym, ◌∙◌}
use Rattle.stack_automaton.proofs.MemoLemmas.{facts_exact}
use Rattle.stack_automaton.proofs.memo.are_same.Goals as goal

pub returns : goal.returns
returns c = λ holds. facts_exact c.args.a.now c.args.b.now (sym c.eq.ensures ∙ holds)
