use Rattle.std.proofs.Common.{◌∙◌, ap, map}
use Rattle.std.proofs.lemmas.Result.{on_ok_weaker}
use Rattle.c_tree.specs.View.{program_of}
use Rattle.c_meaning.specs.ShapeOf.{names_of_functions, candidate_places}
use Rattle.flow_graph.specs.View.{shapes_in}
use Rattle.c_meaning.specs.GraphOf.{functions_from}
use Rattle.flow_graph.specs.Places.{call_of}
use Rattle.flow_graph.proofs.RecordLemmas.{with_silent, with_sys, all_given}
use Rattle.flow_graph.proofs.MadeLemmas.{many_shapes}
use Rattle.flow_graph.proofs.records.fill.Goals as goal

pub add_functions-requires-clause-many : goal.add_functions-requires-clause-many
add_functions-requires-clause-many c = many_shapes (program_of c.args.program.now) c.args.shapes.now c.requires.shapes

pub returns : goal.returns
returns c =
    let p = program_of c.args.program.now in
    on_ok_weaker c.add_calls.result
    (all_given c.args.builder.now c.add_functions.new.builder c.add_silent.new.builder c.add_sys.new.builder c.add_calls.new.builder
    (functions_from 0 (names_of_functions p) (shapes_in c.args.shapes.now)) c.args.lists.now.silent.items c.args.lists.now.sys.items (map (call_of (candidate_places p)) c.args.sites.now)
    c.requires.fresh
    c.in_ok-add_functions.ensures
    (c.in_ok-add_silent.ensures ∙ ap (with_silent c.add_functions.new.builder) c.deref.ensures.value)
    (c.in_ok-add_sys.ensures ∙ ap (with_sys c.add_silent.new.builder) c.deref-2.ensures.value))
    c.add_calls.ensures
