use Rattle.std.proofs.Common.{◌≡◌, ap, ◌∙◌}
use Rattle.std.specs.List.{flat_map}
use Rattle.std.proofs.lemmas.List.{take_all}
use Rattle.std.proofs.lemmas.Result.{IfOk-weaker}
use Rattle.flow_model.specs.declared.groups.Groups.{Groups}
use Rattle.flow_model.specs.Starts.{members_of}
use Rattle.flow_model.proofs.GroupsLemmas.{AreGrouped-same, sites_of_members}
use Rattle.flow_model.proofs.groups.sites_by_function.Goals as goal

pub returns : goal.returns
returns c =
    let calls = c.args.calls.now in
    let members : c.loop-call.members.items ≡ flat_map members_of calls = c.loop-call.invariant ∙ ap (flat_map members_of) (take_all c.loop-call.call-index calls c.loop-call-test.false) in
    IfOk-weaker _ _ _ (λ (groups : Groups) are.
    AreGrouped-same groups.starts.items groups.sites.items c.args.functions _ _ (λ f. sites_of_members f calls c.requires) (rw members at are)) c.grouped.ensures
