use Rattle.std.proofs.Common.{◌≡◌, sym, subst}
use Rattle.std.proofs.lemmas.Result.{on_ok_weaker}
use Rattle.dm_base.specs.Adding.{Adds}
use Rattle.stack_automaton.proofs.MarksLemmas.{added_one, added_none}
use Rattle.stack_automaton.proofs.fact_set.FactSet.insert.Goals as goal

pub returns : goal.returns
returns c = on_ok_weaker c.push.result (λ pushed. subst (λ ks. Adds c.args.self.now.keys ks (λ x. x ≡ c.args.fact)) (sym pushed) (added_one c.args.self.now.keys c.args.fact)) c.push.ensures

pub returns-then-contains : goal.returns-then-contains
returns-then-contains c = added_none c.args.self.now.keys c.args.fact (c.contains.ensures.0 c.if-contains.true)
