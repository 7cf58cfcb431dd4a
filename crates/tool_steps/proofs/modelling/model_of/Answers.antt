use Rattle.std.proofs.Common.{◌≡◌, ℕ, ◌<◌, List}
use Rattle.c_tree.specs.View.{program_of}
use Rattle.flow_graph.specs.GraphOfProgram.{graph_of_program}
use Rattle.tool_steps.specs.ModelTexts.{many_nodes}
use Rattle.tool_steps.proofs.ModelLemmas.{stop_by}
use Rattle.tool_steps.proofs.modelling.model_of.Goals as goal

pub returns-in-Ok-clause-languages : goal.returns-in-Ok-clause-languages
returns-in-Ok-clause-languages c = record { dyck = c.in-Ok.ensures.dyck; stack = c.in-Ok.ensures.stack; callgraph = c.in-Ok.ensures.callgraph }

pub returns-in-Err-TooManyNodes-clause-stop : goal.returns-in-Err-TooManyNodes-clause-stop
returns-in-Err-TooManyNodes-clause-stop c =
    stop_by (λ (line : List ℕ). line ≡ many_nodes) (λ (line : List ℕ). (line ≡ many_nodes) × (200000 < (graph_of_program (program_of c.args.program.now)).nodes)) c.stop_with.result
    (λ line is. (is, c.in-Err-TooManyNodes.ensures.many c.in-Err-TooManyNodes.field-0-is)) c.stop_with.ensures
