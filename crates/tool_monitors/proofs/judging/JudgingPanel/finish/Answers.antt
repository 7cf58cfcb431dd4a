use Rattle.std.proofs.Common.{ℕ, List, [], Some, None, refl}
use Rattle.dm_base.specs.declared.event.Event.{Event}
use Rattle.dm_base.specs.declared.verdict.Verdict.TheVariants as verdicts
use Rattle.flow_model.specs.Graph.{Graph}
use Rattle.tool_monitors.specs.Refused.{HasComeTo}
use Rattle.tool_monitors.proofs.Judgements.{told_all, kept_verdict, come_refused, come_kept}
use Rattle.tool_monitors.proofs.judging.JudgingPanel.finish.Goals as goal

pub returns-in-None : goal.returns-in-None
returns-in-None g c =
    let which = g.M.Monitor.WHICH in
    let me = c.args.self in
    let Come : Graph → ℕ → List Event → Type 0 = λ g' k h. g.M.Monitor.is_pool me.pool g' × g.M.Monitor.noted me.pool g' [] × HasComeTo (g.M.Monitor.stands me.monitor me.pool g' k h) which g' k h me.kept me.refused in
    told_all which (verdicts.Accepted me.kept) None c.told.result Come (λ g' k h judged. (kept_verdict _ which g' k h me.kept (come_kept _ which g' k h me.kept me.refused c.in-None.is judged.2), refl)) c.told.ensures.status (rw c.WHICH.ensures at c.told.ensures.text)

pub returns : goal.returns
returns g c =
    let which = g.M.Monitor.WHICH in
    let me = c.args.self in
    let refused = c.in-Some.refused in
    let Come : Graph → ℕ → List Event → Type 0 = λ g' k h. g.M.Monitor.is_pool me.pool g' × g.M.Monitor.noted me.pool g' [] × HasComeTo (g.M.Monitor.stands me.monitor me.pool g' k h) which g' k h me.kept me.refused in
    told_all which refused.verdict (Some refused.event) c.told-in-Some.result Come (λ g' k h judged.
    let at = come_refused _ which g' k h me.kept me.refused refused c.in-Some.is judged.2 in
    (at.verdict, at.event)) c.told-in-Some.ensures.status (rw c.WHICH-in-Some.ensures at c.told-in-Some.ensures.text)
