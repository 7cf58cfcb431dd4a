-- When a certificate shows what it claims.
use Rattle.std.specs.Prelude.{◌≡◌, ℕ, ◌-◌, ◌<◌, ◌≤◌, List, Some, Contains, length, map, slice_get, take}
use Rattle.dm_base.specs.declared.event.Event.{Event}
use Rattle.dm_base.specs.declared.verdict.Verdict.{Verdict}
use Rattle.dm_base.specs.declared.verdict.Verdict.TheVariants.{Accepted, Rejected, Bound}
use Rattle.flow_model.specs.declared.which.Which.{Which}
use Rattle.flow_model.specs.declared.which.Which.TheVariants as languages
use Rattle.flow_model.specs.Graph.{Graph}
use Rattle.certify_facts.specs.declared.fact.Fact.{Fact}
use Rattle.certify_facts.specs.declared.fact.Fact.TheVariants as facts
use Rattle.certify_facts.specs.declared.fact.FactLine.{FactLine}
use Rattle.certify_facts.specs.declared.fact.Judge.{Judge}
use Rattle.certify_facts.specs.declared.fact.Judge.TheVariants as judges
use Rattle.certify_facts.specs.Form.{IsOfModel}
use Rattle.certify_facts.specs.Reasons.{IsStart, IsRead, IsReturnedAlong, FollowsFrom, HasReason}
use Rattle.certify_facts.specs.Told.{Told}

-- the language that the judge goes by
abbrev pub which_of : Judge → Which
which_of judges.Callgraph = languages.Callgraph
which_of judges.Stack = languages.Stack

-- the facts of the lines
abbrev pub facts_of : List FactLine → List Fact
facts_of lines = map (λ l. l.fact) lines

-- the reason of the line after the first n ones holds
abbrev pub HoldsAt : Graph → List Event → List FactLine → ℕ → Type 0
HoldsAt g t lines n = (line : FactLine) → slice_get lines n ≡ Some line → HasReason g t (facts_of (take n lines)) line.reason line.fact

-- the reason of each line holds
abbrev pub AllHold : Graph → List Event → List FactLine → Type 0
AllHold g t lines = (n : ℕ) → n < length lines → HoldsAt g t lines n

-- the fact says where a run may be after k events
abbrev pub IsAfter : ℕ → Fact → Type 0
IsAfter k (facts.Callgraph k' v) = k' ≡ k
IsAfter k (facts.At k' i f v) = k' ≡ k
IsAfter k (facts.Link i f j h s) = ⊥

-- the fact is about the first m events
abbrev pub IsWithin : ℕ → Fact → Type 0
IsWithin m (facts.Callgraph k v) = k ≤ m
IsWithin m (facts.At k i f v) = k ≤ m
IsWithin m (facts.Link i f j h s) = i ≤ m

-- some fact says where a run may be after k events
abbrev pub HasAfter : List Fact → ℕ → Type 0
HasAfter known k = (x : Fact) × Contains known x × IsAfter k x

-- The facts have each fact about the first m events that follows from them by one reason.
pub record IsClosed (judge : Judge) (g : Graph) (t : List Event) (m : ℕ) (known : List Fact) : Type 0 where
  pub begins : (y : Fact) → IsOfModel judge y → IsStart g y → Contains known y
  pub one : (x y : Fact) → Contains known x → FollowsFrom g t x y → IsWithin m y → Contains known y
  pub both : (x z y : Fact) → Contains known x → Contains known z → IsReturnedAlong g x z y → IsWithin m y → Contains known y

-- None of the facts about where a run may be after m events leads on by the next one.
abbrev pub Stops : Graph → List Event → ℕ → List Fact → Type 0
Stops g t m known = (x y : Fact) → Contains known x → IsAfter m x → IsRead g t x y → ⊥

-- The claim `accepted n`: there are n events, and after them a run may be somewhere.
pub record IsAcceptedBy (t : List Event) (n : ℕ) (known : List Fact) : Type 0 where
  pub whole : n ≡ length t
  pub last : HasAfter known n

-- The claim `rejected n`: after the events before the n-th a run may be just where the facts say, and from there none goes on.
pub record IsRejectedBy (judge : Judge) (g : Graph) (t : List Event) (n : ℕ) (known : List Fact) : Type 0 where
  pub some : 1 ≤ n
  pub within : n ≤ length t
  pub before : HasAfter known (n - 1)
  pub closed : IsClosed judge g t (n - 1) known
  pub stops : Stops g t (n - 1) known

-- the claim holds
abbrev pub IsClaim : Judge → Graph → List Event → Verdict → List Fact → Type 0
IsClaim judge g t (Accepted n) known = IsAcceptedBy t n known
IsClaim judge g t (Rejected n) known = IsRejectedBy judge g t n known
IsClaim judge g t (Bound n) known = ⊥

-- The certificate shows what it claims of the trace t in the model g: each reason holds, and so does the claim.
pub record Confirms (g : Graph) (t : List Event) (c : Told) : Type 0 where
  pub reasons : AllHold g t c.lines
  pub claim : IsClaim c.judge g t c.verdict (facts_of c.lines)
