-- The nodes to which the edges of a valid model lead are below its number of nodes.
use Rattle.std.proofs.Common.{ℕ, ◌<◌, length, get_or, Contains, arith}
use Rattle.std.proofs.lemmas.List.Elements.{All-contains}
use Rattle.flow_model.specs.declared.records.SilentEdge.{SilentEdge}
use Rattle.flow_model.specs.declared.records.SysEdge.{SysEdge}
use Rattle.flow_model.specs.Call.{Call}
use Rattle.flow_model.specs.Graph.{Graph, HaveOneOwner}
use Rattle.flow_model.specs.Rules.{IsValid}
use Rattle.flow_model.proofs.NodeBounds.{owned_below}

module _ (g : Graph) (valid : IsValid g) where
  second_below : (a b : ℕ) → HaveOneOwner g.functions g.nodes a b → b < g.nodes
  second_below a b both = owned_below g.functions g.nodes both.owner b valid.entries both.second

  pub silent_below : (e : SilentEdge) → Contains g.silent e → e.to < g.nodes
  silent_below e has = second_below e.from e.to (All-contains (λ (d : SilentEdge). HaveOneOwner g.functions g.nodes d.from d.to) g.silent e valid.edges.silent has)

  pub sys_below : (e : SysEdge) → Contains g.sys e → e.to < g.nodes
  sys_below e has = second_below e.from e.to (All-contains (λ (d : SysEdge). HaveOneOwner g.functions g.nodes d.from d.to) g.sys e valid.edges.sys has)

  pub call_below : (c : Call) → Contains g.calls c → c.to < g.nodes
  call_below c has = second_below c.from c.to (All-contains (λ (d : Call). HaveOneOwner g.functions g.nodes d.from d.to) g.calls c valid.edges.calls has)

  -- each candidate is a function
  pub candidate_below : (c : Call) (f : ℕ) → Contains g.calls c → Contains c.candidates f → f < length g.functions
  candidate_below c f has one =
      let known = All-contains (λ (d : Call). (k : ℕ) (e : ℕ) → k < length d.candidates → get_or d.candidates k e < length g.functions) g.calls c valid.functions.candidates has in
      All-contains (λ h. h < length g.functions) c.candidates f known one
