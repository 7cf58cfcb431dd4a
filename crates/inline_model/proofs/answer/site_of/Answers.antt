use Rattle.std.proofs.Common.{sym, ◌∙◌}
use Rattle.inline_model.proofs.EdgeLemmas.{stands_at}
use Rattle.inline_model.proofs.TrailLemmas.{site_is}
use Rattle.inline_model.proofs.answer.site_of.Goals as goal

pub returns : goal.returns
returns c =
    let call = c.index-calls-place.result in
    c.site.ensures ∙ sym (site_is c.args.model.now c.args.place call (stands_at c.args.model.now.calls c.calls.result.now c.args.place call c.calls.ensures c.requires c.index-calls-place.is))
