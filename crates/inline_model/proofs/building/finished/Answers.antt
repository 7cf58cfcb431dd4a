use Rattle.std.proofs.Common.{sym, subst}
use Rattle.flow_model.specs.Built.{graph_of_records}
use Rattle.inline_model.specs.Inlined.{IsInlined}
use Rattle.inline_model.proofs.ValidLemmas.{inlined_order, inlined_valid}
use Rattle.flow_model.proofs.ValidModels.{none_broken}
use Rattle.inline_model.proofs.building.finished.Goals as goal

pub returns-in-Ok : goal.returns-in-Ok
returns-in-Ok c =
    let made = graph_of_records c.args.builder c.args.nodes 0 in
    let same = c.in-Ok.ensures.kept (inlined_order c.args.model.now made c.nodes-nodes.ensures.valid c.requires.inlined) in
    subst (IsInlined c.args.model.now) (sym same) c.requires.inlined

pub memory_of-requires : goal.memory_of-requires
memory_of-requires c = λ k e.
    let made = graph_of_records c.args.builder c.args.nodes 0 in
    none_broken made k (inlined_valid c.args.model.now made c.nodes-nodes.ensures.valid c.requires.inlined c.requires.few) (c.in-Err.ensures.invalid k e)
