-- Lemmas that several crates above use.
use Rattle.std.proofs.Common.{Contains, [], arith, ℕ, ◌<◌}
use Rattle.flow_model.specs.Graph.{Graph, HaveOneOwner}
use Rattle.flow_model.specs.Rules.{IsValid}
use Rattle.flow_model.proofs.AllAt.{all_at}
use Rattle.flow_model.proofs.NodeBounds.{owned_below}
use Rattle.flow_model.specs.Call.{Call}
use Rattle.flow_model.specs.declared.records.SilentEdge.{SilentEdge}
use Rattle.flow_model.specs.declared.records.SysEdge.{SysEdge}

pub contains_none : {X : Type 0} (x : X) → Contains [] x → ⊥
contains_none x has = omega (arith, has.1)

-- one owner's node
pub owner_below : (g : Graph) (a b : ℕ) → IsValid g → HaveOneOwner g.functions g.nodes a b → a < g.nodes
owner_below g a b valid owner = owned_below g.functions g.nodes owner.owner a valid.entries owner.first

pub silent_below : (g : Graph) (e : SilentEdge) → IsValid g → Contains g.silent e → e.from < g.nodes
silent_below g e valid has = owner_below g e.from e.to valid (all_at (λ e. HaveOneOwner g.functions g.nodes e.from e.to) g.silent e valid.edges.silent has)

pub sys_below : (g : Graph) (e : SysEdge) → IsValid g → Contains g.sys e → e.from < g.nodes
sys_below g e valid has = owner_below g e.from e.to valid (all_at (λ e. HaveOneOwner g.functions g.nodes e.from e.to) g.sys e valid.edges.sys has)

pub call_below : (g : Graph) (c : Call) → IsValid g → Contains g.calls c → c.from < g.nodes
call_below g c valid has = owner_below g c.from c.to valid (all_at (λ c. HaveOneOwner g.functions g.nodes c.from c.to) g.calls c valid.edges.calls has)
