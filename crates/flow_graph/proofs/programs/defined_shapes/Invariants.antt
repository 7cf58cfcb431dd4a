use Rattle.std.proofs.Common.{◌≡◌, map, take}
use Rattle.c_tree.specs.declared.tree.Function.{Function}
use Rattle.c_tree.specs.View.{stmt_of}
use Rattle.flow_graph.specs.View.{shapes_in}
use Rattle.flow_graph.specs.Sited.{stmt_at}
use Rattle.flow_graph.proofs.programs.defined_shapes.Given as goal

abbrev pub invariant-loop-f : goal.invariant-loop-f
invariant-loop-f l = shapes_in l.shapes.items ≡ map (λ (f : Function). stmt_at l.defined l.marks (stmt_of f.body)) (take l.f l.program.functions)
