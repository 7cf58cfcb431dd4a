use Rattle.std.proofs.Common.{◌≡◌, ◌<◌, ◌+◌, ◌-◌, length, get_or, ap, arith}
use Rattle.std.proofs.lemmas.List.{get_or_default}
use Rattle.flow_model.specs.declared.records.ModelFunction.{ModelFunction}
use Rattle.flow_model.proofs.ModelLemmas.{functions_few}
use Rattle.stack_automaton.proofs.ReadingLemmas.{exit_at, exit_other, exit_none}
use Rattle.stack_automaton.proofs.reading.ending_at.Goals as goal

pub overflow_cast-result : goal.overflow_cast-result
overflow_cast-result c =
    let few = functions_few c.args.model.now.functions c.args.model.now.nodes c.nodes-nodes.ensures.valid.entries in
    let most = c.nodes-nodes.ensures.valid.entries.few in
    let same : length c.functions-functions.result.now ≡ length c.args.model.now.functions = ap length c.functions-functions.ensures in
    omega (arith, few, most, same, c.begun-count.ensures.within)

pub returns-then-count-eq0-clause-none : goal.returns-then-count-eq0-clause-none
returns-then-count-eq0-clause-none c =
    exit_none c.args.model.now.functions c.functions-functions.result.now c.args.model.now.nodes c.args.node c.begun-count.result c.functions-functions.ensures c.nodes-nodes.ensures.valid.entries c.nodes-nodes.ensures.valid.exits c.begun-count.ensures c.if-count-eq0.true

pub returns-then-functions-last-clause-none : goal.returns-then-functions-last-clause-none
returns-then-functions-last-clause-none c =
    let place = c.begun-count.result - 1 in
    let one : ModelFunction = get_or c.functions-functions.result.now place c.index-functions-last.result in
    let next : place + 1 ≡ c.begun-count.result = omega (arith, c.if-count-eq0.false) in
    let lt : place < length c.functions-functions.result.now = omega (arith, next, c.begun-count.ensures.within) in
    exit_other c.args.model.now.functions c.functions-functions.result.now c.args.model.now.nodes c.args.node c.begun-count.result place one c.functions-functions.ensures c.nodes-nodes.ensures.valid.entries c.nodes-nodes.ensures.valid.exits
    c.begun-count.ensures next lt (get_or_default c.functions-functions.result.now place c.index-functions-last.result one lt) c.if-functions-last.true

pub returns-clause-some : goal.returns-clause-some
returns-clause-some c =
    let place = c.begun-count.result - 1 in
    let one : ModelFunction = get_or c.functions-functions.result.now place c.index-functions-last.result in
    let next : place + 1 ≡ c.begun-count.result = omega (arith, c.if-count-eq0.false) in
    let lt : place < length c.functions-functions.result.now = omega (arith, next, c.begun-count.ensures.within) in
    exit_at c.args.model.now.functions c.functions-functions.result.now place c.args.node one c.functions-functions.ensures lt (get_or_default c.functions-functions.result.now place c.index-functions-last.result one lt) c.if-functions-last.false
