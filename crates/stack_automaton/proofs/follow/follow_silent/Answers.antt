use Rattle.std.proofs.lemmas.Result.{on_ok_weaker}
use Rattle.dm_base.proofs.AddingLemmas.{adds_same}
use Rattle.stack_automaton.proofs.follow.follow_silent.Goals as goal

pub returns : goal.returns
returns c =
    let at = c.silent_from.ensures in
    on_ok_weaker c.follow_each_silent.result (adds_same c.args.facts.now.keys c.follow_each_silent.new.facts.keys _ _ (λ y. (
      λ (e, has, is). let (in_silent, from) = (at e).0 has in (e, in_silent, (from, is)),
      λ (e, has, (from, is)). (e, (at e).1 (has, from), is),
    ))) c.follow_each_silent.ensures
