use Rattle.std.proofs.Common.{◌∙◌, ap, map}
use Rattle.c_tree.specs.Functions.{defined}
use Rattle.c_tree.specs.Tree.{Function}
use Rattle.c_tree.specs.View.{program_of}
use Rattle.flow_graph.specs.View.{shapes_in}
use Rattle.flow_graph.specs.Sited.{stmt_at}
use Rattle.flow_graph.proofs.ProgramLemmas.{all_shapes}
use Rattle.flow_graph.proofs.programs.shapes_of_functions.Goals as goal

pub returns : goal.returns
returns c =
    let p = program_of c.args.program.now in
    let first = c.in_ok-shapes.ensures ∙ ap (λ ms. map (λ (f : Function). stmt_at (defined p) ms f.body) p.functions) c.deref.ensures.value in
    all_shapes p c.sites-sites.result c.sites-sites.ensures.typed c.in_ok-marks.marks.items c.in_ok-marks.ensures (shapes_in c.in_ok-shapes.shapes.items) (shapes_in c.add_taken.new.into.items) first c.in_ok-add_taken.ensures
