-- What is confirmed is the verdict.
use Rattle.std.proofs.Common.{◌≡◌, ◌↔◌, ℕ, Bool, true, IsTrue, List, sym, subst}
use Rattle.std.specs.Prelude.{All}
use Rattle.dm_base.specs.declared.event.Event.{Event}
use Rattle.dm_base.specs.declared.verdict.Verdict.{Verdict}
use Rattle.flow_model.specs.Graph.{Graph}
use Rattle.flow_model.specs.Rules.{IsValid}
use Rattle.flow_model.specs.Verdict.{IsVerdict}
use Rattle.certify_facts.specs.declared.fact.FactLine.{FactLine}
use Rattle.certify_facts.specs.declared.fact.Judge.{Judge}
use Rattle.certify_facts.specs.Confirms.{AllHold, IsClaim, facts_of, which_of}
use Rattle.certify_facts.specs.Form.{IsFormed}
use Rattle.certify_facts.specs.Told.{Told}
use Rattle.certify_facts.proofs.Lines.{confirmed}

pub verdict_of : (g : Graph) (t : List Event) (c : Told) (lines : List FactLine) (judge : Judge) (verdict told : Verdict) (b : Bool) → lines ≡ c.lines → judge ≡ c.judge → verdict ≡ c.verdict → told ≡ c.verdict
    → IsValid g → All (IsFormed c.judge) c.lines → AllHold g t lines → (IsTrue b ↔ IsClaim judge g t verdict (facts_of lines)) → b ≡ true → (bound : ℕ) → IsVerdict (which_of c.judge) g bound t told
verdict_of g t c lines judge verdict told b same_lines same_judge same_verdict same_told valid formed hold is right bound =
    let claim = subst (λ ls. IsClaim c.judge g t c.verdict (facts_of ls)) same_lines (subst (λ v. IsClaim c.judge g t v (facts_of lines)) same_verdict (subst (λ j. IsClaim j g t verdict (facts_of lines)) same_judge (is.0 right))) in
    subst (IsVerdict (which_of c.judge) g bound t) (sym same_told) (confirmed g t c bound valid formed (record { reasons = subst (AllHold g t) same_lines hold; claim = claim }))
