-- What a process has come to, told by its stage and by the watch of its group.
use Rattle.std.proofs.Common.{◌≡◌, ◌||◌, ℕ, ◌-◌, Bool, true, false, nat_eq, List, [], ◌∷◌, length, map, Some, refl, sym, ◌∙◌, ap, subst, inl, inr, append-nil}
use Rattle.std.specs.Prelude.{filter, slice_get, if◌then◌else◌}
use Rattle.std.proofs.lemmas.Bool.{eq-eqb, eqb-true, false_from_ne_true, true≢false}
use Rattle.std.proofs.lemmas.List.Elements.{All-contains}
use Rattle.std.proofs.lemmas.Option.{get_or_from_slice_get, slice_get_within}
use Rattle.dm_base.specs.declared.event.Event.{Event}
use Rattle.dm_base.specs.declared.outcome.Outcome.{Outcome}
use Rattle.dm_base.specs.declared.outcome.Outcome.TheVariants.{Exit, Undefined, Turns, Results, BadResult}
use Rattle.dm_base.specs.declared.verdict.Verdict.TheVariants as verdicts
use Rattle.sys_table.specs.Table.{IsRecorded}
use Rattle.c_meaning.specs.Runs.{Run}
use Rattle.c_meaning.specs.Laws.{IsTypedRun}
use Rattle.c_meaning.specs.TypedResults.{IsEnding}
use Rattle.flow_model.specs.declared.which.Which.{Which}
use Rattle.flow_model.specs.Graph.{Graph}
use Rattle.flow_model.specs.Verdict.{IsVerdict}
use Rattle.ref_machine.specs.Futures.{only_end}
use Rattle.trace_file.specs.declared.record.Record.{Record}
use Rattle.trace_file.specs.declared.version.TracesVersion.TheVariants.{One}
use Rattle.trace_file.specs.EventText.{IsCountedOutcome}
use Rattle.watch.specs.Own.{has_record, own}
use Rattle.watch.specs.Pasts.{refused_event}
use Rattle.fleet.specs.declared.process.Process.{Process}
use Rattle.fleet.specs.declared.process.Stage.{Stage}
use Rattle.fleet.specs.declared.process.Stage.TheVariants as stages
use Rattle.fleet.specs.declared.standing.Standing.{Standing}
use Rattle.fleet.specs.declared.standing.Standing.TheVariants as standings
use Rattle.fleet.specs.Alone.{IsAlone, IsTellable}
use Rattle.fleet.specs.Going.{HasCome, IsAt, IsAtStage, IsUpToRefusal}
use Rattle.fleet.specs.Members.{Group, Member, run_of}
use Rattle.fleet.proofs.StepLemmas.{begins, bound_alone, bound_verdict, ended_alone, open_alone, rejected_alone, rejected_verdict}

-- a process without a record has no events

either_false : (a b : Bool) → (a || b) ≡ false → a ≡ true → ⊥
either_false true b none is = true≢false none
either_false false b none is = true≢false (sym is)

other_false : (a b : Bool) → (a || b) ≡ false → b ≡ false
other_false true b none = absurd (true≢false none)
other_false false b none = none

pub no_record : (records : List Record) (p : ℕ) → has_record records p ≡ false → own One p records ≡ []
no_record [] p none = refl
no_record (r ∷ records) p none =
    ap (λ (t : Bool). map (λ (s : Record). s.event) (if t then r ∷ filter (λ (s : Record). nat_eq s.pid p) records else filter (λ (s : Record). nat_eq s.pid p) records)) (false_from_ne_true (nat_eq r.pid p) (λ same. either_false (nat_eq p r.pid) (has_record records p) none (eq-eqb p r.pid (sym (eqb-true r.pid p same)))))
    ∙ no_record records p (other_false (nat_eq p r.pid) (has_record records p) none)

-- what is told can be written in a trace file

counted : (o : Outcome) → IsEnding o → IsCountedOutcome o
counted (Exit z) ending = tt
counted (Undefined kind) ending = tt
counted Turns ending = tt
counted Results ending = tt
counted (BadResult k) ending = ending

recorded_at : (run : Run) (i : ℕ) (e : Event) → IsTypedRun run → slice_get run.trace i ≡ Some e → IsRecorded e
recorded_at run i e typed here = All-contains IsRecorded run.trace e typed.trace (i, slice_get_within run.trace i e here, get_or_from_slice_get run.trace i e e here)

pub tellable : (which : Which) (g : Graph) (limit : ℕ) (run : Run) (k : ℕ) (s : Standing) → IsTypedRun run → IsAlone which g limit run k s → IsTellable s
tellable which g limit run k (standings.Open n) typed alone = tt
tellable which g limit run k (standings.Ended n o) typed alone = counted o (subst IsEnding (sym alone.3) typed.outcome)
tellable which g limit run k (standings.Rejected m e) typed alone = recorded_at run (m - 1) e typed alone.3
tellable which g limit run k (standings.Bound m e) typed alone = recorded_at run (m - 1) e typed alone.3

-- only a process to which memory was refused is at the stage of that
pub failed_stage : (which : Which) (g : Group) (stage : Stage) (p : Process) (m : Member) (made : List Event) → HasCome which g stage p m made → m.failed ≡ true → stage ≡ stages.Failed
failed_stage which g stages.Open p m made come lost = absurd (true≢false (sym lost ∙ come.0))
failed_stage which g stages.Rejected p m made come lost = absurd (true≢false (sym lost ∙ come.0))
failed_stage which g stages.Bound p m made come lost = absurd (true≢false (sym lost ∙ come.0))
failed_stage which g (stages.Ended o) p m made come lost = absurd (true≢false (sym lost ∙ come.0))
failed_stage which g stages.Failed p m made come lost = refl

module _ (which : Which) (g : Group) (records : List Record) (p : Process) (m : Member) where
  -- by the stage
  come_up_to : (stage : Stage) → (stage ≡ stages.Failed → ⊥) → HasCome which g stage p m (own One m.pid records) → IsUpToRefusal which g.model g.bound (own One m.pid records)
  come_up_to stages.Open sound come = inl come.1.accepted
  come_up_to stages.Rejected sound come = inr (inl come.1.refused)
  come_up_to stages.Bound sound come = inr (inr come.1.refused)
  come_up_to (stages.Ended o) sound come = inl come.1.accepted
  come_up_to stages.Failed sound come = absurd (sound refl)

  -- the number is how many events the process made
  abbrev Counts : ℕ → Type 0
  Counts n = IsUpToRefusal which g.model g.bound (own One p.pid records) → n ≡ length (own One p.pid records)

  number_is : (stage : Stage) → (stage ≡ stages.Failed → ⊥) → IsAtStage which g stage records p m → (n : ℕ) → Counts n → n ≡ length (own One m.pid records)
  number_is stage sound at n counts =
      counts (subst (λ (q : ℕ). IsUpToRefusal which g.model g.bound (own One q records)) (sym at.pid) (come_up_to stage sound at.come)) ∙ ap (λ (q : ℕ). length (own One q records)) at.pid

  at_stage : (stage : Stage) → p.stage ≡ stage → IsAt which g records p m → IsAtStage which g stage records p m
  at_stage stage is at = subst (λ (s : Stage). IsAtStage which g s records p m) is at

  pub open_stands : (n : ℕ) → p.stage ≡ stages.Open → IsAt which g records p m → Counts n → IsAlone which g.model g.bound (run_of m) m.advances (standings.Open n)
  open_stands n is at counts =
      let here = at_stage stages.Open is at in
      let count : n ≡ m.advances = number_is stages.Open (λ same. cc same) here n counts ∙ here.come.1.count in
      subst (λ (k : ℕ). IsAlone which g.model g.bound (run_of m) m.advances (standings.Open k)) (sym count) (open_alone which g p m (own One m.pid records) here.come.1)

  pub ended_stands : (n : ℕ) (o : Outcome) → p.stage ≡ stages.Ended o → IsAt which g records p m → Counts n → IsAlone which g.model g.bound (run_of m) m.advances (standings.Ended n o)
  ended_stands n o is at counts =
      let here = at_stage (stages.Ended o) is at in
      let whole : (run_of m).trace ≡ own One m.pid records = begins (run_of m) (own One m.pid records) (only_end o) here.come.1.run ∙ append-nil (own One m.pid records) in
      let alone = ended_alone which g o m (own One m.pid records) here.come.1 in
      let count : n ≡ alone.0 = number_is (stages.Ended o) (λ same. cc same) here n counts ∙ sym (ap length whole) ∙ sym (alone.1).0 in
      subst (λ (k : ℕ). IsAlone which g.model g.bound (run_of m) m.advances (standings.Ended k o)) (sym count) alone.1

  pub rejected_stands : (n : ℕ) (e : Event) → p.stage ≡ stages.Rejected → IsAt which g records p m → Counts n → (IsVerdict which g.model g.bound (own One p.pid records) (verdicts.Rejected (length (own One p.pid records))) → refused_event (verdicts.Rejected (length (own One p.pid records))) (own One p.pid records) ≡ Some e) → IsAlone which g.model g.bound (run_of m) m.advances (standings.Rejected n e)
  rejected_stands n e is at counts event =
      let here = at_stage stages.Rejected is at in
      let last = subst (λ (q : ℕ). slice_get (own One q records) (length (own One q records) - 1) ≡ Some e) here.pid (event (rejected_verdict which g records p m here)) in
      subst (λ (k : ℕ). IsAlone which g.model g.bound (run_of m) m.advances (standings.Rejected k e)) (sym (number_is stages.Rejected (λ same. cc same) here n counts)) (rejected_alone which g m (own One m.pid records) e here.come.1 last)

  pub bound_stands : (n : ℕ) (e : Event) → p.stage ≡ stages.Bound → IsAt which g records p m → Counts n → (IsVerdict which g.model g.bound (own One p.pid records) (verdicts.Bound (length (own One p.pid records))) → refused_event (verdicts.Bound (length (own One p.pid records))) (own One p.pid records) ≡ Some e) → IsAlone which g.model g.bound (run_of m) m.advances (standings.Bound n e)
  bound_stands n e is at counts event =
      let here = at_stage stages.Bound is at in
      let last = subst (λ (q : ℕ). slice_get (own One q records) (length (own One q records) - 1) ≡ Some e) here.pid (event (bound_verdict which g records p m here)) in
      subst (λ (k : ℕ). IsAlone which g.model g.bound (run_of m) m.advances (standings.Bound k e)) (sym (number_is stages.Bound (λ same. cc same) here n counts)) (bound_alone which g m (own One m.pid records) e here.come.1 last)
