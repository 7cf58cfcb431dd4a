use Rattle.std.proofs.Common.{◌≡◌, arith, sym, subst}
use Rattle.stack_automaton.proofs.MarksLemmas.{AreSame, same_more, taken_back}
use Rattle.stack_automaton.proofs.fact_set.add_to_both.Goals as goal

pub returns-in_err-push-clause-indexed : goal.returns-in_err-push-clause-indexed
returns-in_err-push-clause-indexed c = subst (AreSame c.args.index.now.keys) (sym c.in_err-push.ensures.items) c.requires

pub returns-in-Ok-clause-indexed : goal.returns-in-Ok-clause-indexed
returns-in-Ok-clause-indexed c =
    subst (AreSame c.put.new.index.keys) (sym c.in_ok-push.ensures.items)
    (same_more c.args.list.now.items c.args.index.now.keys c.put.new.index.keys c.args.fact c.requires c.in-Ok.ensures.added)

pub returns-in-Err-clause-indexed : goal.returns-in-Err-clause-indexed
returns-in-Err-clause-indexed c =
    let back : c.pop.new.self.items ≡ c.args.list.now.items =
    taken_back c.args.list.now.items c.push.new.self.items c.pop.new.self.items c.args.fact c.push.new.self.len c.in_ok-push.ensures.items (omega (arith, c.push.new.self.ok)) c.pop.ensures.rest in
    subst (λ ks. AreSame ks c.pop.new.self.items) (sym c.in-Err.ensures.kept) (subst (AreSame c.args.index.now.keys) (sym back) c.requires)
