-- What `judge MODEL TRACE WHICH [K]` makes of its files, and why it refuses them.
use Rattle.std.specs.Prelude.{ℕ, List}
use Rattle.dm_base.specs.declared.event.Event.{Event}
use Rattle.dm_base.specs.declared.outcome.TraceEnd.{TraceEnd}
use Rattle.dm_base.specs.declared.verdict.Status.{Status}
use Rattle.dm_io.specs.Store.{Files, file_at}
use Rattle.flow_model.specs.declared.which.Which.{Which}
use Rattle.flow_model.specs.Graph.{Graph}
use Rattle.model_file.specs.Refusal.{IsModel}
use Rattle.trace_file.specs.Trace.{IsTraceWithin}
use Rattle.tool_files.specs.Judged.{AreJudged}

-- the text is that of the verdicts of the monitors of the model in the one file on the trace in the other
pub record Judges (files : Files) (model trace : List ℕ) (monitors : List Which) (bound : ℕ) (status : Status) (text : List ℕ) : Type 0 where
  pub graph : Graph
  pub events : List Event
  pub end : TraceEnd
  pub is_model : IsModel (file_at files model) graph
  pub is_trace : IsTraceWithin (file_at files trace) events end
  pub judged : AreJudged monitors graph bound events status text
