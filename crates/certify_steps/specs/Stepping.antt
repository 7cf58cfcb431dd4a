-- The facts that follow from one fact, with their reasons.
use Rattle.std.specs.Prelude.{◌≡◌, ◌⊎◌, ℕ, List, Option, Some, None}
use Rattle.dm_base.specs.declared.event.Event.{Event}
use Rattle.flow_model.specs.declared.records.ModelFunction.{ModelFunction}
use Rattle.flow_model.specs.Call.{Call}
use Rattle.flow_model.specs.Graph.{Graph}
use Rattle.certify_facts.specs.declared.fact.Fact.{Fact}
use Rattle.certify_facts.specs.declared.fact.Fact.TheVariants as facts
use Rattle.certify_facts.specs.declared.fact.FactLine.{FactLine}
use Rattle.certify_facts.specs.declared.fact.Reason.{Reason}
use Rattle.certify_facts.specs.declared.fact.Reason.TheVariants as reasons
use Rattle.certify_facts.specs.Confirms.{IsWithin}
use Rattle.certify_facts.specs.Reasons.{IsSilent, IsEntered, IsReturned, IsRead, IsLinked}
use Rattle.dm_base.specs.Adding.{Has}
use Rattle.certify_steps.specs.Reading.{BeginsAt}

-- From the fact x, which has the number r, follows the fact y by this reason.
abbrev pub GivesBy : Graph → List Event → ℕ → Fact → Reason → Fact → Type 0
GivesBy g t r x reasons.Start y = ⊥
GivesBy g t r x (reasons.Silent n) y = (n ≡ r) × IsSilent g x y
GivesBy g t r x (reasons.Enter n s) y = (n ≡ r) × IsEntered g s x y
GivesBy g t r x (reasons.Return n s) y = (n ≡ r) × IsReturned g s x y
GivesBy g t r x (reasons.Event n) y = (n ≡ r) × IsRead g t x y
GivesBy g t r x (reasons.Link n) y = (n ≡ r) × IsLinked g x y

-- the line is one of those that follow from the fact x, and about the first m events
abbrev pub Gives : Graph → List Event → ℕ → ℕ → Fact → FactLine → Type 0
Gives g t m r x l = GivesBy g t r x l.reason l.fact × IsWithin m l.fact

-- the number of events and the node of a fact that has a node
abbrev pub node_of : Fact → Option ℕ
node_of (facts.Callgraph k v) = Some v
node_of (facts.At k i f v) = Some v
node_of (facts.Link i f j h s) = None

-- the fact at another node
abbrev pub moved : Fact → ℕ → Fact
moved (facts.Callgraph k u) v = facts.Callgraph k v
moved (facts.At k i f u) v = facts.At k i f v
moved (facts.Link i f j h s) v = facts.Link i f j h s

-- the fact that the function f was entered at the node v, from the fact
abbrev pub entered_at : Fact → ℕ → ℕ → Fact
entered_at (facts.Callgraph k u) f v = facts.Callgraph k v
entered_at (facts.At k i h u) f v = facts.At k k f v
entered_at (facts.Link i f' j h s) f v = facts.Link i f' j h s

-- the link of the call of f at the site s from the fact
abbrev pub link_to : Fact → ℕ → ℕ → Option Fact
link_to (facts.Callgraph k u) s f = None
link_to (facts.At k j h u) s f = Some (facts.Link k f j h s)
link_to (facts.Link i f' j h s') s f = None

-- the line with the fact and the reason
abbrev pub line_of : Fact → Reason → FactLine
line_of x reason = record { fact = x; reason = reason }

-- the line is of the entry of the function f, or the link of its call
abbrev pub IsCalledBy : List ModelFunction → ℕ → Fact → ℕ → ℕ → FactLine → Type 0
IsCalledBy functions r x s f l =
    ((v : ℕ) × BeginsAt functions f v × (l ≡ line_of (entered_at x f v) (reasons.Enter r s)))
    ⊎ ((z : Fact) × (link_to x s f ≡ Some z) × (l ≡ line_of z (reasons.Link r)))

-- the line comes of the call edge
abbrev pub IsOfCall : List ModelFunction → ℕ → Fact → Call → FactLine → Type 0
IsOfCall functions r x c l = Has (λ f. IsCalledBy functions r x c.site f l) c.candidates

-- the line is of the return along the call edge
abbrev pub IsOfReturn : ℕ → Fact → Call → FactLine → Type 0
IsOfReturn r x c l = l ≡ line_of (moved x c.to) (reasons.Return r c.site)

-- the line is of a function that is entered from the fact, or the link of its call
abbrev pub IsCallLine : Graph → ℕ → Fact → FactLine → Type 0
IsCallLine g r x l = ((s : ℕ) × (l.reason ≡ reasons.Enter r s) × IsEntered g s x l.fact) ⊎ ((l.reason ≡ reasons.Link r) × IsLinked g x l.fact)
