use Rattle.std.proofs.Common.{get_or, ap}
use Rattle.flow_model.specs.declared.records.ModelFunction.{ModelFunction}
use Rattle.flow_model.specs.Found.{Found}
use Rattle.flow_model.proofs.Begun.{starts_at, none_in, alone_in}
use Rattle.callgraph_monitor.proofs.monitor.begin_list.Goals as goal

pub returns-clause-begun : goal.returns-clause-begun
returns-clause-begun c =
    let one : ModelFunction = get_or c.functions.result.now c.start.result c.index-functions-start.result in
    let none = ap (λ (f : Found). f.nodes) c.clear.ensures in
    let added = c.add.ensures.added (c.add.ensures.new.1 (none_in c.clear.new.self.nodes one.entry none)) in (
      one.entry,
      one.exit,
      starts_at c.args.model.now c.functions.result.now c.start.result c.index-functions-start.result c.functions.ensures c.start.ensures.start c.start.ensures.known,
      alone_in c.clear.new.self c.add.new.self one.entry none added,
    )
