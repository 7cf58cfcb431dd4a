use Rattle.std.proofs.lemmas.Result.{on_ok_weaker}
use Rattle.dm_base.proofs.AddingLemmas.{adds_same}
use Rattle.stack_automaton.proofs.event.read_from.Goals as goal

pub returns : goal.returns
returns c =
    let at = c.sys_from.ensures in
    on_ok_weaker c.read_each.result (adds_same c.args.facts.now.keys c.read_each.new.facts.keys _ _ (λ x. (
      λ (s, has, is). let (in_sys, from) = (at s).0 has in (s, in_sys, (from, is)),
      λ (s, has, (from, is)). (s, (at s).1 (has, from), is),
    ))) c.read_each.ensures
