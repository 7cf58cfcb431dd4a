-- Which facts about a model and a trace follow from which.
use Rattle.std.specs.Prelude.{◌≡◌, ℕ, ℤ, ◌+◌, ◌-◌, ◌≤◌, List, Option, Some, slice_get}
use Rattle.dm_base.specs.declared.event.Event.{Event}
use Rattle.dm_base.specs.declared.event.Event.TheVariants.{Sys, Pre, Post}
use Rattle.dm_base.specs.Fits.{Fits}
use Rattle.flow_model.specs.Graph.{Graph, HasSilent, HasSys, HasCall, HasFunction}
use Rattle.certify_facts.specs.declared.fact.Fact.{Fact}
use Rattle.certify_facts.specs.declared.fact.Fact.TheVariants as facts
use Rattle.certify_facts.specs.declared.fact.Judge.{Judge}
use Rattle.certify_facts.specs.declared.fact.Reason.{Reason}
use Rattle.certify_facts.specs.declared.fact.Reason.TheVariants as reasons
use Rattle.certify_facts.specs.Form.{IsOfModel}

-- the function f begins at the node v
abbrev pub IsEntry : Graph → ℕ → ℕ → Type 0
IsEntry g f v = (exit : ℕ) × HasFunction g f v exit

-- the function f ends at the node v
abbrev pub IsExit : Graph → ℕ → ℕ → Type 0
IsExit g f v = (entry : ℕ) × HasFunction g f entry v

-- the call edge with the site s leaves the node u, and f is one of its candidates
abbrev pub IsCall : Graph → ℕ → ℕ → ℕ → Type 0
IsCall g u s f = (b : ℕ) × HasCall g u s b f

-- the call edge with the site s ends at the node v, and f is one of its candidates
abbrev pub IsReturn : Graph → ℕ → ℕ → ℕ → Type 0
IsReturn g f s v = (a : ℕ) × HasCall g a s v f

-- the event leads from the node u to the node v: it fits an edge between them, or it is a null call and they are one node
abbrev pub Leads : Graph → Event → ℕ → ℕ → Type 0
Leads g (Sys name arguments outcome) u v = (x : ℕ) × (p : List (Option ℤ)) × HasSys g u x p v × Fits x p (Sys name arguments outcome)
Leads g (Pre site) u v = u ≡ v
Leads g (Post site) u v = u ≡ v

-- the event after the first k ones leads from the node u to the node v
abbrev pub LeadsAt : Graph → List Event → ℕ → ℕ → ℕ → Type 0
LeadsAt g t k u v = (e : Event) × (slice_get t k ≡ Some e) × Leads g e u v

-- A run begins with the fact: at the entry of the start function, after no events.
abbrev pub IsStart : Graph → Fact → Type 0
IsStart g (facts.Callgraph k v) = (k ≡ 0) × IsEntry g g.start v
IsStart g (facts.At k i f v) = (k ≡ 0) × (i ≡ 0) × (f ≡ g.start) × IsEntry g f v
IsStart g (facts.Link i f j h s) = ⊥

-- From the one fact follows the other, along a silent edge.
abbrev pub IsSilent : Graph → Fact → Fact → Type 0
IsSilent g (facts.Callgraph k u) (facts.Callgraph k' v) = (k' ≡ k) × HasSilent g u v
IsSilent g (facts.At k i f u) (facts.At k' i' f' v) = (k' ≡ k) × (i' ≡ i) × (f' ≡ f) × HasSilent g u v
IsSilent g _ _ = ⊥

-- From the one fact follows the other, by the call at the site s of a function that is entered.
abbrev pub IsEntered : Graph → ℕ → Fact → Fact → Type 0
IsEntered g s (facts.Callgraph k u) (facts.Callgraph k' v) = (k' ≡ k) × (f : ℕ) × IsCall g u s f × IsEntry g f v
IsEntered g s (facts.At k i h u) (facts.At k' i' f v) = (k' ≡ k) × (i' ≡ k) × IsCall g u s f × IsEntry g f v
IsEntered g s _ _ = ⊥

-- From the one fact follows the other, by the return of a function that the call at the site s may have entered.
abbrev pub IsReturned : Graph → ℕ → Fact → Fact → Type 0
IsReturned g s (facts.Callgraph k u) (facts.Callgraph k' v) = (k' ≡ k) × (f : ℕ) × IsExit g f u × IsReturn g f s v
IsReturned g s _ _ = ⊥

-- From a fact and a link follows another fact, by the return of the activation to where the link says that it was called.
abbrev pub IsReturnedAlong : Graph → Fact → Fact → Fact → Type 0
IsReturnedAlong g (facts.At k i f u) (facts.Link i' f' j h s) (facts.At k' j' h' v) = (k' ≡ k) × (i' ≡ i) × (f' ≡ f) × (j' ≡ j) × (h' ≡ h) × IsExit g f u × IsReturn g f s v
IsReturnedAlong g _ _ _ = ⊥

-- From the one fact follows the other, by the next event.
abbrev pub IsRead : Graph → List Event → Fact → Fact → Type 0
IsRead g t (facts.Callgraph k u) (facts.Callgraph k' v) = (k' ≡ k + 1) × LeadsAt g t k u v
IsRead g t (facts.At k i f u) (facts.At k' i' f' v) = (k' ≡ k + 1) × (i' ≡ i) × (f' ≡ f) × LeadsAt g t k u v
IsRead g t _ _ = ⊥

-- From the fact follows the link, by a call from where the activation is.
abbrev pub IsLinked : Graph → Fact → Fact → Type 0
IsLinked g (facts.At k j h u) (facts.Link i f j' h' s) = (i ≡ k) × (j' ≡ j) × (h' ≡ h) × IsCall g u s f
IsLinked g _ _ = ⊥

-- From the one fact follows the other by one reason.
pub data FollowsFrom (g : Graph) (t : List Event) (x y : Fact) : Type 0 where
  silent : IsSilent g x y → FollowsFrom g t x y
  entered : (s : ℕ) → IsEntered g s x y → FollowsFrom g t x y
  returned : (s : ℕ) → IsReturned g s x y → FollowsFrom g t x y
  read : IsRead g t x y → FollowsFrom g t x y
  linked : IsLinked g x y → FollowsFrom g t x y

-- The facts that follow: the least set that these reasons give.
pub data Follows (judge : Judge) (g : Graph) (t : List Event) : Fact → Type 0 where
  begins : {y : Fact} → IsOfModel judge y → IsStart g y → Follows judge g t y
  one : {x y : Fact} → Follows judge g t x → FollowsFrom g t x y → Follows judge g t y
  both : {x z y : Fact} → Follows judge g t x → Follows judge g t z → IsReturnedAlong g x z y → Follows judge g t y

-- the r-th of the earlier facts, counted from 1
abbrev pub IsNamed : List Fact → ℕ → Fact → Type 0
IsNamed earlier r x = (1 ≤ r) × (slice_get earlier (r - 1) ≡ Some x)

-- The reason `return R L` of a fact: in the callgraph model L is a site, in the stack model a link.
abbrev pub HasReturn : Graph → List Fact → ℕ → ℕ → Fact → Type 0
HasReturn g earlier r l (facts.Callgraph k v) = (x : Fact) × IsNamed earlier r x × IsReturned g l x (facts.Callgraph k v)
HasReturn g earlier r l (facts.At k i f v) = (x : Fact) × (z : Fact) × IsNamed earlier r x × IsNamed earlier l z × IsReturnedAlong g x z (facts.At k i f v)
HasReturn g earlier r l (facts.Link i f j h s) = ⊥

-- The reason of a fact holds, where the earlier facts are these.
abbrev pub HasReason : Graph → List Event → List Fact → Reason → Fact → Type 0
HasReason g t earlier reasons.Start y = IsStart g y
HasReason g t earlier (reasons.Silent r) y = (x : Fact) × IsNamed earlier r x × IsSilent g x y
HasReason g t earlier (reasons.Enter r s) y = (x : Fact) × IsNamed earlier r x × IsEntered g s x y
HasReason g t earlier (reasons.Return r l) y = HasReturn g earlier r l y
HasReason g t earlier (reasons.Event r) y = (x : Fact) × IsNamed earlier r x × IsRead g t x y
HasReason g t earlier (reasons.Link r) y = (x : Fact) × IsNamed earlier r x × IsLinked g x y
