use Rattle.std.proofs.Common.{◌<◌, List, ℕ, length, All, sym, subst}
use Rattle.std.proofs.lemmas.Bool.{iff_false}
use Rattle.stack_automaton.proofs.ReadingLemmas.{call_is, call_is_not}
use Rattle.expected_events.specs.Marked.{EndsAtOne}
use Rattle.expected_events.proofs.FindingLemmas.{candidates_known, closed_missing, closed_yes, closed_not}
use Rattle.expected_events.proofs.finding.closed_by.Goals as goal

pub returns-in_default : goal.returns-in_default
returns-in_default c = closed_missing c.args.model.now c.args.at.now c.args.site (call_is_not c.args.model.now c.nodes-nodes.ensures.valid c.args.site (sym c.in_default.ensures))

pub ends_at_one-requires : goal.ends_at_one-requires
ends_at_one-requires c =
    let call = call_is c.args.model.now c.nodes-nodes.ensures.valid c.args.site c.in-Some.call.now (sym c.in-Some.ensures) in
    subst (λ (fs : List ℕ). All (λ f. f < length c.args.model.now.functions) fs) (sym c.candidates.ensures) (candidates_known c.args.model.now c.in-Some.call.now c.nodes-nodes.ensures.valid call.has)

pub returns-then-ends_at_one : goal.returns-then-ends_at_one
returns-then-ends_at_one c =
    let call = call_is c.args.model.now c.nodes-nodes.ensures.valid c.args.site c.in-Some.call.now (sym c.in-Some.ensures) in
    closed_yes c.args.model.now c.args.at.now c.args.site c.in-Some.call.now call (subst (EndsAtOne c.args.model.now c.args.at.now) c.candidates.ensures (c.ends_at_one.ensures.0 c.if-ends_at_one.true))

pub returns : goal.returns
returns c =
    let call = call_is c.args.model.now c.nodes-nodes.ensures.valid c.args.site c.in-Some.call.now (sym c.in-Some.ensures) in
    closed_not c.args.model.now c.args.at.now c.args.site c.in-Some.call.now call (λ ends. iff_false c.ends_at_one.ensures c.if-ends_at_one.false (subst (EndsAtOne c.args.model.now c.args.at.now) (sym c.candidates.ensures) ends))
