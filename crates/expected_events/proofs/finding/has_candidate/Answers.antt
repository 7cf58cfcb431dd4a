use Rattle.std.proofs.Common.{◌↔◌, ℕ, List, IsTrue, Contains, subst}
use Rattle.std.specs.Prelude.{not}
use Rattle.expected_events.proofs.FindingLemmas.{has_member}
use Rattle.expected_events.proofs.finding.has_candidate.Goals as goal

pub returns : goal.returns
returns c = subst (λ (xs : List ℕ). IsTrue (not c.is_empty.result) ↔ ((x : ℕ) × Contains xs x)) c.candidates.ensures (has_member c.candidates.result.now c.is_empty.result c.is_empty.ensures)
