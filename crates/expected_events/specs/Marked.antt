-- For private contracts and proofs alone: what leads on from the nodes of a set.
use Rattle.std.specs.Prelude.{◌≡◌, ℕ, List, Option, Some, Contains}
use Rattle.flow_model.specs.declared.records.SysEdge.{SysEdge}
use Rattle.flow_model.specs.Call.{Call}
use Rattle.flow_model.specs.Graph.{Graph, Owns, HasCall, HasFunction}
use Rattle.dm_sets.specs.Nodes.{Nodes, Has}
use Rattle.expected_events.specs.declared.called.Called.{Called}
use Rattle.expected_events.specs.declared.finding.Found.{Found}
use Rattle.expected_events.specs.Next.{Next}

-- the function owns a node of the set
abbrev pub OwnsOne : Graph → Nodes → ℕ → Type 0
OwnsOne g at f = (a : ℕ) × Has at a × Owns g.functions g.nodes f a

-- the edge leaves a node of the set, with this name and pattern
abbrev pub IsCalledBy : Nodes → Called → SysEdge → Type 0
IsCalledBy at c e = Has at e.from × (c ≡ record { name = e.name; args = e.args })

-- the call edge leaves a node of the set, has this site, and a candidate
abbrev pub IsOpenedBy : Nodes → ℕ → Call → Type 0
IsOpenedBy at s c = (c.site ≡ s) × Has at c.from × ((f : ℕ) × Contains c.candidates f)

-- a function of the list ends at a node of the set
abbrev pub EndsAtOne : Graph → Nodes → List ℕ → Type 0
EndsAtOne g at functions = (f : ℕ) × (entry : ℕ) × (exit : ℕ) × Contains functions f × HasFunction g f entry exit × Has at exit

-- the site is on top, and a candidate of it ends at a node of the set
abbrev pub IsClosedAt : Graph → Nodes → Option ℕ → ℕ → Type 0
IsClosedAt g at top s = (top ≡ Some s) × ((a : ℕ) × (b : ℕ) × (f : ℕ) × (entry : ℕ) × (exit : ℕ) × HasCall g a s b f × HasFunction g f entry exit × Has at exit)

-- what was found, as lists
abbrev pub seen : Found → Next
seen f = record { functions = f.functions.items; calls = f.calls.items; opened = f.opened.items; closed = f.closed }
