use Rattle.std.proofs.Common.{[], ◌∷◌}
use Rattle.flow_model.specs.declared.which.Which.TheVariants.{Callgraph, Stack, Dyck}
use Rattle.tool_reading.proofs.FindingsLemmas.{both_expected, both_finished}
use Rattle.tool_reading.proofs.expecting.all_findings.Goals as goal

pub returns-clause-expected : goal.returns-clause-expected
returns-clause-expected c = λ recorded.
    let model = c.args.model.now in
    let bound = c.args.bound in
    let trace = c.args.events.now in
    let one = c.in_ok-callgraph.callgraph in
    let two = c.in_ok-stack.stack in
    let three = c.in_ok-dyck.dyck in
    let last = c.in_ok-last.last in
    let all = c.in_ok-all.all in
    both_expected model bound trace (Callgraph ∷ []) (Stack ∷ Dyck ∷ []) one.status last.status all.status one.text.items last.text.items all.text.items
    (c.in_ok-callgraph.ensures.expected recorded)
    (both_expected model bound trace (Stack ∷ []) (Dyck ∷ []) two.status three.status last.status two.text.items three.text.items last.text.items
    (c.in_ok-stack.ensures.expected recorded) (c.in_ok-dyck.ensures.expected recorded) c.in_ok-last.ensures.status c.in_ok-last.ensures.text)
    c.in_ok-all.ensures.status c.in_ok-all.ensures.text

pub returns-clause-finished : goal.returns-clause-finished
returns-clause-finished c =
    both_finished c.in_ok-callgraph.callgraph.status c.in_ok-last.last.status c.in_ok-all.all.status c.in_ok-callgraph.ensures.finished
    (both_finished c.in_ok-stack.stack.status c.in_ok-dyck.dyck.status c.in_ok-last.last.status c.in_ok-stack.ensures.finished c.in_ok-dyck.ensures.finished c.in_ok-last.ensures.status)
    c.in_ok-all.ensures.status
