use Rattle.std.proofs.Common.{◌<◌, ◌+◌, ◌^◌, drop, length, arith}
use Rattle.c_tree.specs.View.{program_of}
use Rattle.c_meaning.specs.ShapeOf.{names_of_functions}
use Rattle.flow_graph.specs.View.{shapes_in}
use Rattle.flow_model.specs.declared.records.ModelFunction.{ModelFunction}
use Rattle.c_meaning.specs.GraphOf.{functions_from}
use Rattle.flow_graph.proofs.RecordLemmas.{with_functions, functions_more, functions_end}
use Rattle.flow_graph.proofs.FunctionLemmas.{next_function, no_function}
use Rattle.flow_graph.proofs.FunctionsLemmas.{nodes_next, nodes_room}
use Rattle.flow_graph.proofs.model_functions.add_functions.Goals as goal

pub add_function-requires : goal.add_function-requires
add_function-requires c = nodes_room c.args.shapes.now c.loop-i.i c.index-shapes-i.result c.loop-i.entry (2 ^ 32) c.loop-i-test.true c.index-shapes-i.is c.loop-i.invariant.nodes c.requires.few

pub loop-i-preserved : goal.loop-i-preserved
loop-i-preserved c =
    let names = names_of_functions (program_of c.args.program.now) in
    let ts = c.args.shapes.now in
    let i = c.loop-i.i in
    let inside : i < length names = omega (arith, c.loop-i-test.true, c.requires.many) in
    let one : ModelFunction = record { name = c.name_at-name.result.now; entry = c.loop-i.entry; exit = c.loop-i.entry + 1 } in
    record {
      made = functions_more c.loop-i.builder c.add_function.new.builder (with_functions c.args.builder.now (functions_from 0 names (shapes_in ts))) one (functions_from c.loop-i.entry (drop i names) (shapes_in (drop i ts))) (functions_from c.in_ok-entry.entry (drop (i + 1) names) (shapes_in (drop (i + 1) ts)))
          (next_function names ts i c.loop-i.entry c.in_ok-entry.entry c.index-shapes-i.result c.name_at-name.result.now inside c.loop-i-test.true c.name_at-name.ensures c.index-shapes-i.is c.in_ok-entry.ensures.next)
          c.loop-i.invariant.made c.in_ok-entry.ensures.made;
      nodes = nodes_next ts i c.index-shapes-i.result c.loop-i.entry c.in_ok-entry.entry c.loop-i-test.true c.index-shapes-i.is c.in_ok-entry.ensures.next c.loop-i.invariant.nodes;
    }

pub returns : goal.returns
returns c =
    let names = names_of_functions (program_of c.args.program.now) in
    let ts = c.args.shapes.now in
    functions_end c.loop-i.builder (with_functions c.args.builder.now (functions_from 0 names (shapes_in ts))) (functions_from c.loop-i.entry (drop c.loop-i.i names) (shapes_in (drop c.loop-i.i ts))) (no_function names ts c.loop-i.i c.loop-i.entry c.loop-i-test.false) c.loop-i.invariant.made
