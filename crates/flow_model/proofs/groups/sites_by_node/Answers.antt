use Rattle.std.proofs.Common.{◌≡◌, nat_eq, map, ap, ◌∙◌}
use Rattle.std.proofs.lemmas.List.{take_all}
use Rattle.std.proofs.lemmas.Result.{IfOk-weaker}
use Rattle.flow_model.specs.declared.groups.Groups.{Groups}
use Rattle.flow_model.specs.declared.groups.Member.{Member}
use Rattle.flow_model.specs.Call.{Call}
use Rattle.flow_model.proofs.GroupsLemmas.{AreGrouped-same, map-filter-map}
use Rattle.flow_model.proofs.groups.sites_by_node.Goals as goal

pub returns : goal.returns
returns c =
    let calls = c.args.calls.now in
    let member : Call → Member = λ call. record { group = call.from; site = call.site } in
    let members : c.loop-call.members.items ≡ map member calls = c.loop-call.invariant ∙ ap (map member) (take_all c.loop-call.call-index calls c.loop-call-test.false) in
    IfOk-weaker _ _ _ (λ (groups : Groups) are.
    AreGrouped-same groups.starts.items groups.sites.items c.args.nodes _ _ (λ a. map-filter-map member (λ m. nat_eq m.group a) (λ m. m.site) calls) (rw members at are)) c.grouped.ensures
