-- Lemmas that several crates above use.
use Rattle.std.proofs.Common.{ap, inl, inr, refl, subst, sym, ◌∙◌}
use Rattle.dm_base.specs.declared.verdict.Status.{Status}
use Rattle.dm_base.specs.declared.verdict.Status.TheVariants.{Bound}
use Rattle.dm_base.specs.declared.verdict.Verdict.{Verdict}
use Rattle.dm_base.specs.declared.verdict.Verdict.TheVariants as verdicts
use Rattle.tool_frame.specs.Stop.{IsFinished}
use Rattle.tool_monitors.specs.Judged.{status_of, worse}

pub status_finished : (v : Verdict) → IsFinished (status_of v)
status_finished (verdicts.Accepted n) = inl refl
status_finished (verdicts.Rejected k) = inr (inl refl)
status_finished (verdicts.Bound k) = inr (inr refl)

pub worse_finished : (s t : Status) → IsFinished s → IsFinished t → IsFinished (worse s t)
worse_finished s t (inl p) finished = subst (λ (x : Status). IsFinished (worse x t)) (sym p) finished
worse_finished s t (inr (inl p)) finished = subst (λ (x : Status). IsFinished (worse x t)) (sym p) (inr (inl refl))
worse_finished s t (inr (inr p)) (inl q) = inr (inr (ap (λ (x : Status). worse x t) p ∙ ap (worse Bound) q))
worse_finished s t (inr (inr p)) (inr (inl q)) = inr (inl (ap (λ (x : Status). worse x t) p ∙ ap (worse Bound) q))
worse_finished s t (inr (inr p)) (inr (inr q)) = inr (inr (ap (λ (x : Status). worse x t) p ∙ ap (worse Bound) q))
