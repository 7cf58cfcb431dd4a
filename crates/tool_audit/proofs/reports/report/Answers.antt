use Rattle.std.proofs.Common.{ℕ, List, ◌++◌, ◌∙◌, ap}
use Rattle.tool_audit.proofs.FollowLemmas.{are_heard}
use Rattle.tool_audit.proofs.reports.report.Goals as goal

pub returns : goal.returns
returns c = λ g bound t have.
    are_heard g bound t c.args.heard c.index.result.now c.index-2.result.now c.index-3.result.now c.extend_from_slice.new.self.items c.index.ensures c.index-2.ensures c.index-3.ensures
    (c.in_ok-extend_from_slice.ensures.items ∙ ap (λ (w : List ℕ). c.args.heard.told.text.items ++ w) (c.deref.ensures.value ∙ c.in_ok-line.ensures)) have
