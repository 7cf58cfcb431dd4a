use Rattle.std.proofs.Common.{◌↔◌, List, Contains, subst}
use Rattle.flow_model.specs.declared.records.SysEdge.{SysEdge}
use Rattle.dm_base.specs.Adding.{Has}
use Rattle.expected_events.specs.declared.called.Called.{Called}
use Rattle.expected_events.specs.Marked.{IsCalledBy}
use Rattle.expected_events.proofs.CalledLemmas.{calls_ordered}
use Rattle.expected_events.proofs.called.calls_at.Goals as goal

pub returns-clause-exact : goal.returns-clause-exact
returns-clause-exact c =
    let gathered = subst (λ (sys : List SysEdge). (d : Called) → Contains c.in_ok-calls.calls.items d ↔ Has (IsCalledBy c.args.at.now d) sys) c.sys.ensures c.in_ok-calls.ensures in
    calls_ordered c.args.at.now c.args.model.now.sys c.in_ok-calls.calls.items c.put_in_order.new.items.items gathered c.put_in_order.ensures.only c.put_in_order.ensures.all
