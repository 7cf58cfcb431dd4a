-- How many names of system calls may come next, by each of several monitors.
use Rattle.std.specs.Prelude.{ℕ, List}
use Rattle.std.specs.List.{AllZip}
use Rattle.dm_base.specs.declared.event.Event.{Event}
use Rattle.flow_model.specs.declared.which.Which.{Which}
use Rattle.flow_model.specs.Graph.{Graph}
use Rattle.report.specs.Precision.{IsNext}

-- the numbers are those of the monitors of the graph after the trace, in their order
abbrev pub AreNextNames : List Which → Graph → ℕ → List Event → List ℕ → Type 0
AreNextNames monitors g bound t counts = AllZip (λ which n. IsNext which g bound t n) monitors counts
