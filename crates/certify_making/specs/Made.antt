-- What a certificate has that was made of a model and a trace, and when there is none.
use Rattle.std.specs.Prelude.{◌≡◌, ◌≢◌, ◌↔◌, ℕ, ◌-◌, ◌<◌, ◌≤◌, List, AllPairs, Contains, length}
use Rattle.dm_base.specs.declared.event.Event.{Event}
use Rattle.dm_base.specs.declared.verdict.Verdict.{Verdict}
use Rattle.dm_base.specs.declared.verdict.Verdict.TheVariants.{Accepted, Rejected, Bound}
use Rattle.flow_model.specs.Graph.{Graph}
use Rattle.flow_model.specs.Verdict.{IsVerdict}
use Rattle.certify_facts.specs.declared.fact.Fact.{Fact}
use Rattle.certify_facts.specs.declared.fact.Judge.{Judge}
use Rattle.certify_facts.specs.Confirms.{Confirms, IsWithin, facts_of, which_of}
use Rattle.certify_facts.specs.Reasons.{Follows}
use Rattle.certify_facts.specs.Told.{Told}
use Rattle.certify_making.specs.declared.error.CertifyError.{CertifyError}
use Rattle.certify_making.specs.declared.error.CertifyError.TheVariants.{OutOfMemory, TooLarge}

-- the greatest number of facts of a certificate
abbrev pub most : ℕ
most = 1000000

-- how many events the facts are about: all of an accepted trace, or those before the rejected one
abbrev pub reach : Verdict → ℕ
reach (Accepted n) = n
reach (Rejected n) = n - 1
reach (Bound n) = n

-- The certificate shows what it claims, which is the verdict. Its facts are all that follow, each once, and none is about more
-- events than the verdict needs.
pub record IsMade (judge : Judge) (g : Graph) (t : List Event) (c : Told) : Type 0 where
  pub judges : c.judge ≡ judge
  pub confirms : Confirms g t c
  pub verdict : (bound : ℕ) → IsVerdict (which_of judge) g bound t c.verdict
  pub all : (x : Fact) → Contains (facts_of c.lines) x ↔ Follows judge g t x
  pub once : AllPairs (λ x y. x ≢ y) (facts_of c.lines)
  pub within : (x : Fact) → Contains (facts_of c.lines) x → IsWithin (reach c.verdict) x
  pub few : length c.lines ≤ most

-- more facts follow than a certificate may have
pub record HasTooMany (judge : Judge) (g : Graph) (t : List Event) : Type 0 where
  pub known : List Fact
  pub many : most < length known
  pub once : AllPairs (λ x y. x ≢ y) known
  pub follow : (x : Fact) → Contains known x → Follows judge g t x

-- why no certificate is made
abbrev pub IsCertifyRefusal : Judge → Graph → List Event → CertifyError → Type 0
IsCertifyRefusal judge g t OutOfMemory = Unit {0}
IsCertifyRefusal judge g t TooLarge = HasTooMany judge g t
