use Rattle.std.proofs.Common.{[], refl, subst}
use Rattle.flow_model.specs.Language.{Walk}
use Rattle.callgraph_monitor.proofs.monitor.begin_over.Goals as goal

pub returns-clause-begun : goal.returns-clause-begun
returns-clause-begun g c =
    let (entry, exit, function, alone) = c.begin_list.ensures.begun in (
      entry,
      exit,
      function,
      λ a. (
        λ has.
            let (b, from, walk) = c.saturate.ensures.reached a ((c.fill.ensures.has a).0 has) in
            subst (λ n. Walk c.args.model.now n [] a) ((alone b).0 from) walk,
        λ walk. (c.fill.ensures.has a).1 (c.saturate.ensures.closed entry a ((alone entry).1 refl) walk),
      ),
    )
