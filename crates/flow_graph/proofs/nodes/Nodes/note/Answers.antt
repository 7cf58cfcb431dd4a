use Rattle.std.proofs.Common.{◌≡◌, OnOk, subst}
use Rattle.std.proofs.lemmas.Result.{on_ok_weaker}
use Rattle.dm_base.specs.Adding.{Adds}
use Rattle.flow_graph.specs.Nodes.{Nodes}
use Rattle.flow_graph.proofs.Members.{number_added}
use Rattle.flow_graph.proofs.nodes.Nodes.note.Goals as goal

pub returns : goal.returns
returns c =
    subst (λ (s : Nodes). OnOk c.add_to_both.result (Adds s.keys c.add_to_both.new.list.items (λ k. k ≡ c.args.node))) c.self.view_is
    (on_ok_weaker c.add_to_both.result (number_added c.self.inside.list.items c.add_to_both.new.list.items c.args.node) c.add_to_both.ensures.added)
