-- What a builder has been given, and the model that is made of it.
use Rattle.std.specs.Prelude.{◌≡◌, ℕ, List, IsPermutation}
use Rattle.std.specs.List.{AllZip}
use Rattle.flow_model.specs.declared.records.ModelFunction.{ModelFunction}
use Rattle.flow_model.specs.declared.records.SilentEdge.{SilentEdge}
use Rattle.flow_model.specs.declared.records.SysEdge.{SysEdge}
use Rattle.flow_model.specs.Call.{Call}
use Rattle.flow_model.specs.Graph.{Graph}

-- the records of a builder, each kind in the order in which it was given
pub record Records : Type 0 where
  pub functions : List ModelFunction
  pub silent : List SilentEdge
  pub sys : List SysEdge
  pub calls : List Call

-- the records as a graph, in the order in which they were given
abbrev pub graph_of_records : Records → ℕ → ℕ → Graph
graph_of_records given nodes start = record { nodes = nodes; start = start; functions = given.functions; silent = given.silent; sys = given.sys; calls = given.calls }

-- the same call edge, with its candidates in another order
pub record IsReordered (c d : Call) : Type 0 where
  pub from : d.from ≡ c.from
  pub site : d.site ≡ c.site
  pub to : d.to ≡ c.to
  pub candidates : IsPermutation c.candidates d.candidates

-- the model m has what g has, the edges and the candidates in another order
pub record IsMadeOf (g m : Graph) : Type 0 where
  pub nodes : m.nodes ≡ g.nodes
  pub start : m.start ≡ g.start
  pub functions : m.functions ≡ g.functions
  pub silent : IsPermutation g.silent m.silent
  pub sys : IsPermutation g.sys m.sys
  pub calls : (cs : List Call) × AllZip IsReordered g.calls cs × IsPermutation cs m.calls
