-- What `measure MODEL TRACE WHICH` makes of its files; it refuses them as `judge` does.
use Rattle.std.specs.Prelude.{◌≡◌, ℕ, List, [], ◌∷◌, ◌++◌}
use Rattle.std.specs.List.{AllZip}
use Rattle.dm_base.specs.declared.event.Event.{Event}
use Rattle.dm_base.specs.declared.outcome.TraceEnd.{TraceEnd}
use Rattle.dm_base.specs.declared.verdict.Status.{Status}
use Rattle.dm_base.specs.declared.verdict.Status.TheVariants as statuses
use Rattle.dm_io.specs.Store.{Files, file_at}
use Rattle.flow_model.specs.declared.which.Which.{Which}
use Rattle.flow_model.specs.Graph.{Graph}
use Rattle.model_file.specs.Refusal.{IsModel}
use Rattle.report.specs.declared.precision.Precision.{Precision}
use Rattle.report.specs.Precision.{IsPrecision, precision_text}
use Rattle.trace_file.specs.Trace.{IsTraceWithin}

-- a line for each monitor and its precision
abbrev pub precision_lines : List Which → List Precision → List ℕ
precision_lines [] ps = []
precision_lines (w ∷ ws) [] = []
precision_lines (w ∷ ws) (p ∷ ps) = precision_text w p ++ precision_lines ws ps

-- the text has the lines of the precision of the model's languages along the trace
pub record AreMeasured (monitors : List Which) (g : Graph) (t : List Event) (status : Status) (text : List ℕ) : Type 0 where
  pub precisions : List Precision
  pub measured : AllZip (λ which p. IsPrecision which g t p) monitors precisions
  pub ends : status ≡ statuses.Done
  pub writes : text ≡ precision_lines monitors precisions

-- the text is that of the precision of the model in the one file along the trace in the other
pub record Measures (files : Files) (model trace : List ℕ) (monitors : List Which) (status : Status) (text : List ℕ) : Type 0 where
  pub graph : Graph
  pub events : List Event
  pub end : TraceEnd
  pub is_model : IsModel (file_at files model) graph
  pub is_trace : IsTraceWithin (file_at files trace) events end
  pub measured : AreMeasured monitors graph events status text
