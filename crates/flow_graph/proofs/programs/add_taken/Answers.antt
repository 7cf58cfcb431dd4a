use Rattle.std.proofs.Common.{◌∙◌, ◌+◌, ap}
use Rattle.c_tree.specs.Functions.{defined}
use Rattle.c_tree.specs.View.{program_of}
use Rattle.c_meaning.specs.CallGraph.{is_taken}
use Rattle.flow_graph.specs.View.{shapes_in}
use Rattle.flow_graph.proofs.ProgramLemmas.{taken_more, taken_end}
use Rattle.flow_graph.proofs.programs.add_taken.Goals as goal

pub loop-x-preserved : goal.loop-x-preserved
loop-x-preserved c =
    let p = program_of c.args.program.now in
    taken_more (λ x. is_taken p (defined p + x)) c.loop-x.x (shapes_in c.args.into.now.items) (shapes_in c.loop-x.into.items) (shapes_in c.add_call.new.into.items) c.address_taken.result c.loop-x.invariant (c.address_taken.ensures p c.requires ∙ ap (λ n. is_taken p (n + c.loop-x.x)) c.defined-defined.ensures) c.in_ok-add_call.ensures

pub returns : goal.returns
returns c =
    let p = program_of c.args.program.now in
    taken_end (λ x. is_taken p (defined p + x)) c.loop-x.x (shapes_in c.args.into.now.items) (shapes_in c.loop-x.into.items) c.loop-x-test.false c.loop-x.auto.x-end c.loop-x.invariant
