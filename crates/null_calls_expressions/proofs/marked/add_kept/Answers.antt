use Rattle.null_calls_expressions.proofs.MarkedLemmas.{onto_one}
use Rattle.null_calls_expressions.proofs.marked.add_kept.Goals as goal

pub returns-clause-keeps : goal.returns-clause-keeps
returns-clause-keeps c = onto_one c.args.list.now.items c.add.new.list.items c.in_ok-kept.kept _ c.in_ok-kept.ensures c.in_ok-add.ensures
