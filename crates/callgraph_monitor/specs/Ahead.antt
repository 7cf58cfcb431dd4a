-- For private contracts and proofs alone: the nodes to which a step leads, and what is answered at them.
use Rattle.std.specs.Prelude.{◌≡◌, ℕ, ℤ, List, [], Option, Contains, filter, nat_eq}
use Rattle.std.specs.List.{list_any}
use Rattle.dm_base.specs.declared.event.Event.{Event}
use Rattle.dm_base.specs.declared.event.Event.TheVariants.{Sys, Pre, Post}
use Rattle.dm_base.specs.declared.verdict.Step.{Step}
use Rattle.dm_base.specs.declared.verdict.Step.TheVariants.{Kept, Rejected, Bound}
use Rattle.dm_base.specs.Fits.{Fits}
use Rattle.dm_sets.specs.Nodes.{Nodes, Has}
use Rattle.flow_model.specs.Call.{Call}
use Rattle.flow_model.specs.Graph.{Graph, HasSys, HasFunction}
use Rattle.flow_model.specs.Language.{Walk}

-- an edge that the event fits leads from a to b
abbrev pub IsAhead : Graph → Event → ℕ → ℕ → Type 0
IsAhead g e a b = (x : ℕ) × (p : List (Option ℤ)) × HasSys g a x p b × Fits x p e

-- the function begins at the node
abbrev pub BeginsAt : Graph → ℕ → ℕ → Type 0
BeginsAt g f b = (exit : ℕ) × HasFunction g f b exit

-- one of the call's candidates begins at the node
abbrev pub Enters : Graph → Call → ℕ → Type 0
Enters g c b = (f : ℕ) × Contains c.candidates f × BeginsAt g f b

-- a call edge that leaves a has a candidate that begins at b
abbrev pub EntersFrom : Graph → ℕ → ℕ → Type 0
EntersFrom g a b = (c : Call) × Contains g.calls c × (c.from ≡ a) × Enters g c b

-- the call edges that may enter the function
abbrev pub calls_of : Graph → ℕ → List Call
calls_of g function = filter (λ c. list_any (λ f. nat_eq f function) c.candidates) g.calls

-- the call edge may enter the function, and leads to b
abbrev pub ReturnsTo : Graph → ℕ → ℕ → Type 0
ReturnsTo g f b = (c : Call) × Contains g.calls c × Contains c.candidates f × (c.to ≡ b)

-- a function that ends at a was entered by a call edge that leads to b
abbrev pub LeavesTo : Graph → ℕ → ℕ → Type 0
LeavesTo g a b = (f : ℕ) × (entry : ℕ) × HasFunction g f entry a × ReturnsTo g f b

-- the event leads from the set to the node, with what reads nothing after it
abbrev pub GoesTo : Graph → Event → Nodes → ℕ → Type 0
GoesTo g e set c = (a : ℕ) × (b : ℕ) × Has set a × IsAhead g e a b × Walk g b [] c

-- the event is a system call
abbrev pub IsCall : Event → Type 0
IsCall (Sys name arguments outcome) = Unit {0}
IsCall (Pre site) = ⊥
IsCall (Post site) = ⊥

-- Kept is answered where the set has a node, and else Rejected
abbrev pub IsAnswer : Nodes → Step → Type 0
IsAnswer set Kept = (a : ℕ) × Has set a
IsAnswer set Rejected = (a : ℕ) → Has set a → ⊥
IsAnswer set Bound = ⊥
