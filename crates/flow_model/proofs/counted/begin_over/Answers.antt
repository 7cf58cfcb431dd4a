use Rattle.std.proofs.Common.{refl, subst}
use Rattle.flow_model.proofs.counted.begin_over.Goals as goal

pub returns-clause-begun : goal.returns-clause-begun
returns-clause-begun g c =
    let (entry, exit, function, alone) = c.begin_list.ensures.begun in (
      entry,
      exit,
      function,
      λ a. (
        λ has.
            let (b, from, on) = (c.close.ensures.closed a).0 ((c.fill.ensures.has a).0 has) in
            subst (λ n. g.M.CountedMonitor.leads c.args.model.now n a) ((alone b).0 from) on,
        λ on. (c.fill.ensures.has a).1 ((c.close.ensures.closed a).1 (entry, (alone entry).1 refl, on)),
      ),
    )
