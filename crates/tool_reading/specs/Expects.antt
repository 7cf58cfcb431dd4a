-- What `expected MODEL TRACE WHICH [K]` makes of its files; it refuses them as `judge` does.
use Rattle.std.specs.Prelude.{ℕ, List}
use Rattle.dm_base.specs.declared.event.Event.{Event}
use Rattle.dm_base.specs.declared.outcome.TraceEnd.{TraceEnd}
use Rattle.dm_base.specs.declared.verdict.Status.{Status}
use Rattle.dm_io.specs.Store.{Files, file_at}
use Rattle.flow_model.specs.declared.which.Which.{Which}
use Rattle.flow_model.specs.Graph.{Graph}
use Rattle.model_file.specs.Refusal.{IsModel}
use Rattle.trace_file.specs.Trace.{IsTraceWithin}
use Rattle.tool_reading.specs.Expected.{AreExpected}

-- the text is that of the findings of the monitors of the model in the one file on the trace in the other
pub record Expects (files : Files) (model trace : List ℕ) (monitors : List Which) (bound : ℕ) (status : Status) (text : List ℕ) : Type 0 where
  pub graph : Graph
  pub events : List Event
  pub end : TraceEnd
  pub is_model : IsModel (file_at files model) graph
  pub is_trace : IsTraceWithin (file_at files trace) events end
  pub expected : AreExpected monitors graph bound events status text
