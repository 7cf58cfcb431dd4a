-- What may come next after a trace: where the reading of it may end, and what leads on from there.
use Rattle.std.specs.Prelude.{◌≡◌, ◌↔◌, ℕ, ℤ, List, ◌∷◌, Option, Some, Contains}
use Rattle.std.specs.declared.cmp.Ordering.{Ordering}
use Rattle.std.specs.Ordering.{nat_cmp, ordering_then}
use Rattle.dm_base.specs.declared.event.Event.{Event}
use Rattle.dm_base.specs.Pattern.{pattern_cmp}
use Rattle.flow_model.specs.declared.which.Which.{Which}
use Rattle.flow_model.specs.declared.which.Which.TheVariants.{Callgraph, Stack, Dyck}
use Rattle.flow_model.specs.Graph.{Graph, Owns, HasSys, HasCall, HasFunction}
use Rattle.flow_model.specs.Language.{IsConfig}
use Rattle.flow_model.specs.Order.{StrictlyRise}
use Rattle.callgraph_monitor.specs.Standing.{IsAfter}
use Rattle.dyck_monitor.specs.Standing.{IsReached}
use Rattle.expected_events.specs.declared.called.Called.{Called}

-- a reading of the trace may end at the node: it is the last one of a walk, or that of a configuration
abbrev pub MayStand : Which → Graph → List Event → ℕ → Type 0
MayStand Callgraph g t a = IsAfter g t a
MayStand Stack g t a = (z : List ℕ) × IsConfig g t a z
MayStand Dyck g t a = (z : List ℕ) × IsReached g t a z

-- the function owns such a node
abbrev pub MayBeIn : Which → Graph → List Event → ℕ → Type 0
MayBeIn which g t f = (a : ℕ) × MayStand which g t a × Owns g.functions g.nodes f a

-- an edge of this system call with this pattern leaves such a node
abbrev pub MayCall : Which → Graph → List Event → ℕ → List (Option ℤ) → Type 0
MayCall which g t x p = (a : ℕ) × (b : ℕ) × MayStand which g t a × HasSys g a x p b

-- a call edge of this site that has a candidate leaves such a node; the Dyck model alone reads that a site is opened
abbrev pub MayOpen : Which → Graph → List Event → ℕ → Type 0
MayOpen Callgraph g t s = ⊥
MayOpen Stack g t s = ⊥
MayOpen Dyck g t s = (a : ℕ) × (b : ℕ) × (f : ℕ) × MayStand Dyck g t a × HasCall g a s b f

-- a reading may end at the exit of a candidate of this site, with this site as the newest open one; the Dyck model alone reads
-- that a site is closed
abbrev pub MayClose : Which → Graph → List Event → ℕ → Type 0
MayClose Callgraph g t s = ⊥
MayClose Stack g t s = ⊥
MayClose Dyck g t s =
    (a : ℕ) × (b : ℕ) × (f : ℕ) × (entry : ℕ) × (exit : ℕ) × (z : List ℕ)
    × HasCall g a s b f × HasFunction g f entry exit × IsReached g t exit (s ∷ z)

-- by the place of the system call in the table, then by the pattern
abbrev pub called_order : Called → Called → Ordering
called_order c d = ordering_then (nat_cmp c.name d.name) (pattern_cmp c.args d.args)

-- functions by their places in the model, system calls with patterns, sites that may be opened, and the site that may be closed
pub record Next : Type 0 where
  pub functions : List ℕ
  pub calls : List Called
  pub opened : List ℕ
  pub closed : Option ℕ

-- they are just those of which it holds, each once and in order
pub record IsNext (which : Which) (g : Graph) (t : List Event) (n : Next) : Type 0 where
  pub functions : (f : ℕ) → Contains n.functions f ↔ MayBeIn which g t f
  pub functions_rise : StrictlyRise nat_cmp n.functions
  pub calls : (c : Called) → Contains n.calls c ↔ MayCall which g t c.name c.args
  pub calls_rise : StrictlyRise called_order n.calls
  pub opened : (s : ℕ) → Contains n.opened s ↔ MayOpen which g t s
  pub opened_rise : StrictlyRise nat_cmp n.opened
  pub closed : (s : ℕ) → (n.closed ≡ Some s) ↔ MayClose which g t s
