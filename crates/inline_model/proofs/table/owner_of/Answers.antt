use Rattle.std.proofs.Common.{◌≡◌, ◌-◌, ◌<◌, ◌≤◌, length, AllPairs, ap, sym, subst, arith}
use Rattle.flow_model.specs.declared.records.ModelFunction.{ModelFunction}
use Rattle.inline_model.specs.Within.{Within}
use Rattle.flow_model.proofs.ModelLemmas.{functions_few}
use Rattle.inline_model.proofs.EntryLemmas.{owner_within}
use Rattle.inline_model.proofs.table.owner_of.Goals as goal
use Rattle.inline_model.proofs.table.owner_of.Goals.{After-count_begun-begun}

pub count_begun-begun-requires : goal.count_begun-begun-requires
count_begun-begun-requires c = subst (AllPairs (λ (d e : ModelFunction). d.entry < e.entry)) (sym c.functions.ensures) c.nodes-nodes.ensures.valid.entries.rise

owned : (c : After-count_begun-begun) → (0 < c.count_begun-begun.result) × Within c.args.model.now (c.count_begun-begun.result - 1) c.args.node
owned c = owner_within c.args.model.now c.args.node c.count_begun-begun.result c.functions.result.now c.nodes-nodes.ensures.valid c.requires c.functions.ensures c.count_begun-begun.ensures.within c.count_begun-begun.ensures.before c.count_begun-begun.ensures.after

pub overflow_sub-result : goal.overflow_sub-result
overflow_sub-result c = omega (arith, (owned c).0)

pub overflow_cast-result : goal.overflow_cast-result
overflow_cast-result c =
    let entries = c.nodes-nodes.ensures.valid.entries in
    omega (arith, functions_few c.args.model.now.functions c.args.model.now.nodes entries, entries.few, c.count_begun-begun.ensures.within, ap length c.functions.ensures)

pub returns : goal.returns
returns c = (owned (goal.at.returns c).After-count_begun-begun).1
