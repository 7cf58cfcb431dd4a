-- What one monitor of a panel comes to at the next event, and what is told of it in the end.
use Rattle.std.proofs.Common.{◌≡◌, ℕ, ◌+◌, ◌-◌, ◌<◌, ◌≤◌, List, [], ◌∷◌, ◌++◌, length, take, Option, Some, None, slice_get, refl, sym, ◌∙◌, ap, subst, append-nil, arith, length-append}
use Rattle.std.specs.Prelude.{IfOk, Result, Ok, Err}
use Rattle.std.proofs.lemmas.List.{take-append-le, take_all, get_or_append_left}
use Rattle.std.proofs.lemmas.Option.{slice_get_within, get_or_from_slice_get, slice_get_read}
use Rattle.std.proofs.Math.Seq.{get_or-append_seam, take-append_seam}
use Rattle.dm_base.specs.declared.event.Event.{Event}
use Rattle.dm_base.specs.declared.verdict.Step.TheVariants.{Rejected, Bound}
use Rattle.dm_base.specs.declared.verdict.Status.{Status}
use Rattle.dm_base.specs.declared.verdict.Status.TheVariants.{Done}
use Rattle.dm_base.specs.Trace.{depth}
use Rattle.dm_base.specs.declared.verdict.Verdict.{Verdict}
use Rattle.dm_base.specs.declared.verdict.Verdict.TheVariants as verdicts
use Rattle.flow_model.specs.declared.which.Which.{Which}
use Rattle.flow_model.specs.Graph.{Graph}
use Rattle.flow_model.specs.Language.{Reads}
use Rattle.flow_model.specs.Verdict.{IsKept, IsAccepted, IsRejectedAt, IsBoundAt, IsStep, IsVerdict}
use Rattle.flow_model.proofs.Verdicts.{rejected_next, bound_next}
use Rattle.report.specs.VerdictLine.{verdict_text, IsGiven, event_at}
use Rattle.sys_table.specs.Table.{IsRecorded}
use Rattle.tool_frame.specs.declared.finished.Finished.{Finished}
use Rattle.tool_monitors.specs.declared.judging.Refused.{Refused}
use Rattle.tool_monitors.specs.Judged.{AreJudged, status_of, worse}
use Rattle.tool_monitors.proofs.Nesting.{verdicts_nested}
use Rattle.tool_monitors.specs.Refused.{IsRefusedAt, IsKeptWhole, HasComeTo}

-- a refusal stays

front_same : (t more : List Event) (j : ℕ) → j ≤ length t → take j (t ++ more) ≡ take j t
front_same t more j le = take-append-le j t more le

place_same : (t more : List Event) (i : ℕ) (e : Event) → slice_get t i ≡ Some e → slice_get (t ++ more) i ≡ Some e
place_same t more i e here =
    let within : i < length t = slice_get_within t i e here in
    slice_get_read (t ++ more) (length (t ++ more)) i e refl (omega (arith, within, length-append t more)) (sym (get_or_append_left t more e i within ∙ get_or_from_slice_get t i e e here))

rejected_stays : (which : Which) (g : Graph) (bound : ℕ) (t more : List Event) (k : ℕ) → IsRejectedAt which g bound t k → IsRejectedAt which g bound (t ++ more) k
rejected_stays which g bound t more k at =
    record {
      within = omega (arith, at.within, length-append t more);
      kept = λ j less. subst (λ (u : List Event). IsKept which g bound u) (sym (front_same t more j (omega (arith, less, at.within)))) (at.kept j less);
      refused = subst (λ (u : List Event). Reads which g u → ⊥) (sym (front_same t more k at.within)) at.refused;
    }

bound_stays : (which : Which) (g : Graph) (bound : ℕ) (t more : List Event) (k : ℕ) → IsBoundAt which g bound t k → IsBoundAt which g bound (t ++ more) k
bound_stays which g bound t more k at =
    record {
      dyck = at.dyck;
      within = omega (arith, at.within, length-append t more);
      kept = λ j less. subst (λ (u : List Event). IsKept which g bound u) (sym (front_same t more j (omega (arith, less, at.within)))) (at.kept j less);
      read = subst (λ (u : List Event). Reads which g u) (sym (front_same t more k at.within)) at.read;
      deep = ap depth (front_same t more k at.within) ∙ at.deep;
    }

verdict_stays : (which : Which) (g : Graph) (bound : ℕ) (t more : List Event) (v : Verdict) (e : Event) → IsVerdict which g bound t v → IsGiven v (Some e) → IsVerdict which g bound (t ++ more) v
verdict_stays which g bound t more (verdicts.Accepted n) e told given = cc
verdict_stays which g bound t more (verdicts.Rejected k) e told given = rejected_stays which g bound t more k told
verdict_stays which g bound t more (verdicts.Bound k) e told given = bound_stays which g bound t more k told

event_stays : (t more : List Event) (v : Verdict) (e : Event) → event_at t v ≡ Some e → event_at (t ++ more) v ≡ Some e
event_stays t more (verdicts.Accepted n) e here = here
event_stays t more (verdicts.Rejected k) e here = place_same t more (k - 1) e here
event_stays t more (verdicts.Bound k) e here = place_same t more (k - 1) e here

pub refusal_stays : (which : Which) (g : Graph) (bound : ℕ) (t more : List Event) (r : Refused) → IsRefusedAt which g bound t r → IsRefusedAt which g bound (t ++ more) r
refusal_stays which g bound t more r at =
    record {
      verdict = verdict_stays which g bound t more r.verdict r.event at.verdict at.given;
      given = at.given;
      event = event_stays t more r.verdict r.event at.event;
      recorded = at.recorded;
    }

-- the next event is refused

last_place : (t : List Event) (e : Event) → slice_get (t ++ e ∷ []) (length t) ≡ Some e
last_place t e = slice_get_read (t ++ e ∷ []) (length (t ++ e ∷ [])) (length t) e refl (omega (arith, length-append t (e ∷ []))) (sym (get_or-append_seam t e [] e))

whole_next : (t : List Event) (e : Event) → take (length t + 1) (t ++ e ∷ []) ≡ t ++ e ∷ []
whole_next t e = take_all (length t + 1) (t ++ e ∷ []) (omega (arith, length-append t (e ∷ [])))

pub rejected_now : {Stands : Type 0} (which : Which) (g : Graph) (bound : ℕ) (t : List Event) (kept : ℕ) (e : Event) (r : Refused) → IsKeptWhole Stands which g bound t kept → IsRecorded e → IsStep which g bound (t ++ e ∷ []) Rejected → r ≡ record { verdict = verdicts.Rejected (kept + 1); event = e } → IsRefusedAt which g bound (t ++ e ∷ []) r
rejected_now which g bound t kept e r whole recorded step is =
    let within : length t + 1 ≤ length (t ++ e ∷ []) = omega (arith, length-append t (e ∷ [])) in
    let accepted : IsAccepted which g bound (take (length t) (t ++ e ∷ [])) = subst (IsAccepted which g bound) (sym (take-append_seam t (e ∷ []))) whole.accepted in
    let told : IsStep which g bound (take (length t + 1) (t ++ e ∷ [])) Rejected = subst (λ (u : List Event). IsStep which g bound u Rejected) (sym (whole_next t e)) step in
    let at : IsRejectedAt which g bound (t ++ e ∷ []) (length t + 1) = rejected_next which g bound (t ++ e ∷ []) (length t) within accepted told in
    let count : length t + 1 ≡ kept + 1 = ap (λ (n : ℕ). n + 1) (sym whole.count) in
    let place : length t ≡ kept + 1 - 1 = omega (arith, whole.count) in
    let here : slice_get (t ++ e ∷ []) (kept + 1 - 1) ≡ Some e = subst (λ (n : ℕ). slice_get (t ++ e ∷ []) n ≡ Some e) place (last_place t e) in
    subst (IsRefusedAt which g bound (t ++ e ∷ [])) (sym is) (record { verdict = subst (IsRejectedAt which g bound (t ++ e ∷ [])) count at; given = (e, refl); event = here; recorded = recorded })

pub bound_now : {Stands : Type 0} (which : Which) (g : Graph) (bound : ℕ) (t : List Event) (kept : ℕ) (e : Event) (r : Refused) → IsKeptWhole Stands which g bound t kept → IsRecorded e → IsStep which g bound (t ++ e ∷ []) Bound → r ≡ record { verdict = verdicts.Bound (kept + 1); event = e } → IsRefusedAt which g bound (t ++ e ∷ []) r
bound_now which g bound t kept e r whole recorded step is =
    let within : length t + 1 ≤ length (t ++ e ∷ []) = omega (arith, length-append t (e ∷ [])) in
    let accepted : IsAccepted which g bound (take (length t) (t ++ e ∷ [])) = subst (IsAccepted which g bound) (sym (take-append_seam t (e ∷ []))) whole.accepted in
    let told : IsStep which g bound (take (length t + 1) (t ++ e ∷ [])) Bound = subst (λ (u : List Event). IsStep which g bound u Bound) (sym (whole_next t e)) step in
    let at : IsBoundAt which g bound (t ++ e ∷ []) (length t + 1) = bound_next which g bound (t ++ e ∷ []) (length t) within accepted told in
    let count : length t + 1 ≡ kept + 1 = ap (λ (n : ℕ). n + 1) (sym whole.count) in
    let place : length t ≡ kept + 1 - 1 = omega (arith, whole.count) in
    let here : slice_get (t ++ e ∷ []) (kept + 1 - 1) ≡ Some e = subst (λ (n : ℕ). slice_get (t ++ e ∷ []) n ≡ Some e) place (last_place t e) in
    subst (IsRefusedAt which g bound (t ++ e ∷ [])) (sym is) (record { verdict = subst (IsBoundAt which g bound (t ++ e ∷ [])) count at; given = (e, refl); event = here; recorded = recorded })

-- what is told

pub worse_alone : (v : Verdict) → worse (status_of v) Done ≡ status_of v
worse_alone (verdicts.Accepted n) = refl
worse_alone (verdicts.Rejected k) = refl
worse_alone (verdicts.Bound k) = refl

-- one monitor's line and status
pub one_told : (which : Which) (g : Graph) (bound : ℕ) (t : List Event) (v : Verdict) (status : Status) (text : List ℕ) → IsVerdict which g bound t v → status ≡ status_of v → text ≡ verdict_text which v (event_at t v) → AreJudged (which ∷ []) g bound t status text
one_told which g bound t v status text told ends writes =
    record {
      verdicts = v ∷ [];
      judged = (told, tt);
      nested = verdicts_nested g bound t (which ∷ []) (v ∷ []) (told, tt);
      ends = ends ∙ sym (worse_alone v);
      writes = writes ∙ sym (append-nil (verdict_text which v (event_at t v)));
    }

-- over what a monitor has come to

module _ (Stands : Type 0) (which : Which) (g : Graph) (bound : ℕ) (t : List Event) (kept : ℕ) (refused : Option Refused) where
  pub come_refused : (r : Refused) → refused ≡ Some r → HasComeTo Stands which g bound t kept refused → IsRefusedAt which g bound t r
  come_refused r is come = subst (HasComeTo Stands which g bound t kept) is come

  pub come_kept : refused ≡ None → HasComeTo Stands which g bound t kept refused → IsKeptWhole Stands which g bound t kept
  come_kept is come = subst (HasComeTo Stands which g bound t kept) is come

  pub refused_come : (r : Refused) → refused ≡ Some r → IsRefusedAt which g bound t r → HasComeTo Stands which g bound t kept refused
  refused_come r is at = subst (HasComeTo Stands which g bound t kept) (sym is) at

-- a monitor that kept the whole trace accepts it
pub kept_verdict : (Stands : Type 0) (which : Which) (g : Graph) (bound : ℕ) (t : List Event) (kept : ℕ) → IsKeptWhole Stands which g bound t kept → IsVerdict which g bound t (verdicts.Accepted kept)
kept_verdict Stands which g bound t kept whole = (whole.count, whole.accepted)

-- what was made of a verdict, where it was made
pub told_all : {E : Type 0} (which : Which) (v : Verdict) (event : Option Event) (made : Result Finished E) (Come : Graph → ℕ → List Event → Type 0) → ((g : Graph) (k : ℕ) (h : List Event) → Come g k h → IsVerdict which g k h v × (event_at h v ≡ event)) → IfOk made (λ done. done.status ≡ status_of v) → IfOk made (λ done. done.text.items ≡ verdict_text which v event) → IfOk made (λ done. (g : Graph) (k : ℕ) (h : List Event) → Come g k h → AreJudged (which ∷ []) g k h done.status done.text.items)
told_all which v event (Err e) Come told status text = tt
told_all which v event (Ok done) Come told status text =
    λ g k h come.
    let is = told g k h come in
    one_told which g k h v done.status done.text.items is.0 status (text ∙ ap (verdict_text which v) (sym is.1))
