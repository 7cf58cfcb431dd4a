-- For private contracts and proofs alone: why a program is not audited.
use Rattle.std.specs.Prelude.{◌≡◌, ◌<◌}
use Rattle.c_tree.specs.Tree.{Program}
use Rattle.c_meaning.specs.GraphOfProgram.{graph_of_program}
use Rattle.tool_steps.specs.ModelTexts.{many_nodes}
use Rattle.tool_steps.specs.ModelStops.{IsStopBy}
use Rattle.tool_frame.specs.declared.stop.Stop.{Stop}

-- the program's graph has more nodes than a model may have, or memory was refused
abbrev pub StopsAuditing : Stop → Program → Type 0
StopsAuditing stop p = IsStopBy (λ line. (line ≡ many_nodes) × (200000 < (graph_of_program p).nodes)) stop
