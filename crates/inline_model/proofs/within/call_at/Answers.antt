use Rattle.std.proofs.Common.{ap, sym, ◌∙◌}
use Rattle.std.specs.Option.{option_copied}
use Rattle.std.proofs.lemmas.Option.{none-some, same_Some}
use Rattle.flow_model.proofs.SitesFound.{find_site}
use Rattle.inline_model.proofs.within.call_at.Goals as goal

pub unreachable-requires : goal.unreachable-requires
unreachable-requires c =
    let known = c.requires in
    none-some known.0 (sym (ap option_copied c.in-None.is) ∙ c.call.ensures ∙ find_site c.args.site c.args.model.now.calls c.nodes-nodes.ensures.valid.order.calls known.0 known.1.0 known.1.1 known.1.2 known.2)

pub returns : goal.returns
returns c = λ call has is.
    same_Some _ _ (sym (ap option_copied c.in-Some.is) ∙ c.call.ensures ∙ find_site c.args.site c.args.model.now.calls c.nodes-nodes.ensures.valid.order.calls call has.0 has.1 has.2 is)
