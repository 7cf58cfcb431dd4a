-- For private contracts and proofs alone: what the fields of a model stand for, and what they keep.
use Rattle.std.specs.Prelude.{length, filter, nat_eq}
use Rattle.flow_model.specs.declared.model.Model.TheInside.{Inside}
use Rattle.flow_model.specs.Graph.{Graph}
use Rattle.flow_model.specs.Grouped.{AreGrouped}
use Rattle.flow_model.specs.Groups.{sites_from, sites_of}
use Rattle.flow_model.specs.Rules.{IsValid}

abbrev pub graph_of : Inside → Graph
graph_of m = record { nodes = m.node_count; start = m.start_function; functions = m.functions.items; silent = m.silent.items; sys = m.sys.items; calls = m.calls.items }

-- the model is valid, and what leaves each node and returns from each function is found by its start
pub record IsIndexed (m : Inside) : Type 0 where
  pub valid : IsValid (graph_of m)
  pub silent : AreGrouped m.silent_starts.items m.silent.items m.node_count (λ a. filter (λ e. nat_eq e.from a) m.silent.items)
  pub sys : AreGrouped m.sys_starts.items m.sys.items m.node_count (λ a. filter (λ e. nat_eq e.from a) m.sys.items)
  pub calls : AreGrouped m.call_starts.items m.call_sites.items m.node_count (sites_from (graph_of m))
  pub returns : AreGrouped m.return_starts.items m.return_sites.items (length m.functions.items) (sites_of (graph_of m))
