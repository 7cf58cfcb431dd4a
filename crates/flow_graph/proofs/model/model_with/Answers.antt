use Rattle.c_tree.specs.View.{program_of}
use Rattle.flow_graph.specs.View.{shapes_in}
use Rattle.flow_model.specs.Built.{graph_of_records}
use Rattle.c_meaning.specs.GraphOfProgram.{graph_of_program}
use Rattle.flow_graph.proofs.MadeLemmas.{graph_made, made_kept, made_unbroken, few_made}
use Rattle.flow_graph.proofs.model.model_with.Goals as goal

pub returns-in-Ok : goal.returns-in-Ok
returns-in-Ok c =
    let p = program_of c.args.program.now in
    let n = c.sites-sites.result in
    let typed = c.sites-sites.ensures.typed in
    let fs = shapes_in c.args.shapes.now in
    let given = graph_made p n typed c.in_ok-builder.builder fs c.args.nodes c.main.result c.requires.shapes c.in_ok-builder.ensures c.requires.nodes c.main.ensures.is in
    let valid = c.program_graph_is_valid.ensures p n typed (few_made p fs c.args.nodes c.requires.shapes c.requires.nodes c.requires.few) in
    made_kept (graph_of_program p) (graph_of_records c.in_ok-builder.builder c.args.nodes c.main.result) c.in-Ok.model given valid c.in-Ok.ensures.kept

pub unreachable-requires : goal.unreachable-requires
unreachable-requires c =
    let p = program_of c.args.program.now in
    let n = c.sites-sites.result in
    let typed = c.sites-sites.ensures.typed in
    let fs = shapes_in c.args.shapes.now in
    let given = graph_made p n typed c.in_ok-builder.builder fs c.args.nodes c.main.result c.requires.shapes c.in_ok-builder.ensures c.requires.nodes c.main.ensures.is in
    let valid = c.program_graph_is_valid.ensures p n typed (few_made p fs c.args.nodes c.requires.shapes c.requires.nodes c.requires.few) in
    made_unbroken (graph_of_program p) (graph_of_records c.in_ok-builder.builder c.args.nodes c.main.result) _ given valid (c.in-Err-Invalid.ensures.invalid _ c.in-Err-Invalid.field-0-is)
