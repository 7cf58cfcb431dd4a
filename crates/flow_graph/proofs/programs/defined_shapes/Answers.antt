use Rattle.std.proofs.Common.{◌∙◌, ◌≤◌, ap, map, length, arith}
use Rattle.c_tree.specs.declared.tree.Function.{Function as FunctionTree}
use Rattle.c_tree.specs.Tree.{Function}
use Rattle.c_tree.specs.View.{stmt_of, function_of}
use Rattle.flow_graph.specs.Sited.{stmt_at}
use Rattle.flow_graph.proofs.ProgramLemmas.{function_more, functions_end, length_functions}
use Rattle.flow_graph.proofs.programs.defined_shapes.Goals as goal

pub loop-f-preserved : goal.loop-f-preserved
loop-f-preserved c =
    function_more (λ (f : FunctionTree). stmt_at c.defined-defined.result c.args.marks.now (stmt_of f.body)) c.args.program.now.functions c.loop-f.f c.function.result.now c.loop-f.shapes.items c.push.new.into.items c.in_ok-shape.shape c.function.ensures c.loop-f.invariant c.in_ok-shape.ensures c.in_ok-push.ensures

pub returns : goal.returns
returns c =
    let fs = c.args.program.now.functions in
    let over : length fs ≤ c.loop-f.f = omega (arith, c.loop-f-test.false, c.defined-defined.ensures, length_functions fs) in
    functions_end c.defined-defined.result c.args.marks.now fs c.loop-f.f c.loop-f.shapes.items over c.loop-f.invariant
    ∙ ap (λ n. map (λ (f : Function). stmt_at n c.args.marks.now f.body) (map function_of fs)) c.defined-defined.ensures
