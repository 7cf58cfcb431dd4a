use Rattle.std.proofs.Common.{◌≡◌, ◌↔◌, ℕ, Option, Some, sym, subst}
use Rattle.expected_events.specs.Marked.{IsClosedAt}
use Rattle.expected_events.proofs.finding.closed_at.Goals as goal

pub returns-in-Some : goal.returns-in-Some
returns-in-Some c = subst (λ (top : Option ℕ). (s : ℕ) → (c.closed_by.result ≡ Some s) ↔ IsClosedAt c.args.model.now c.args.at.now top s) (sym c.in-Some.is) c.closed_by.ensures
