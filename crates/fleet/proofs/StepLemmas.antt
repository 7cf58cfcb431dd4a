-- What an advance makes of a process.
use Rattle.std.proofs.Common.{◌≡◌, ◌≢◌, ℕ, ◌+◌, ◌-◌, ◌≤◌, false, nat_eq, List, [], ◌∷◌, ◌++◌, length, take, get_or, Some, refl, sym, ◌∙◌, ap, subst, append_assoc, append-nil, arith, length-append}
use Rattle.std.specs.Prelude.{slice_get}
use Rattle.std.proofs.Math.Seq.{take-append_seam, get_or-append_seam}
use Rattle.std.proofs.lemmas.Bool.{eq-eqb, false_from_ne_true, eqb-true}
use Rattle.std.proofs.lemmas.List.{take_all, get_or_append_left}
use Rattle.std.proofs.lemmas.Option.{slice_get-get_or, slice_get_within, get_or_from_slice_get}
use Rattle.dm_base.specs.declared.event.Event.{Event}
use Rattle.dm_base.specs.declared.outcome.Outcome.{Outcome}
use Rattle.dm_base.specs.declared.verdict.Step.{Step}
use Rattle.dm_base.specs.declared.verdict.Step.TheVariants as steps
use Rattle.dm_base.specs.declared.verdict.Verdict.TheVariants as verdicts
use Rattle.c_meaning.specs.Runs.{Run}
use Rattle.flow_model.specs.declared.monitor.Monitor as monitor
use Rattle.flow_model.specs.declared.which.Which.{Which}
use Rattle.flow_model.specs.Verdict.{IsAccepted, IsRejectedAt, IsBoundAt, IsStep, IsVerdict}
use Rattle.flow_model.proofs.Verdicts.{rejected_next, bound_next, rejected_of_part, bound_of_part}
use Rattle.ref_machine.specs.Futures.{event_first, only_end, records_taken}
use Rattle.ref_machine.specs.declared.next.Next.{Next}
use Rattle.ref_machine.specs.declared.next.Next.TheVariants as nexts
use Rattle.ref_machine.specs.WholeRuns.{Happens, joined}
use Rattle.trace_file.specs.declared.record.Record.{Record}
use Rattle.trace_file.specs.declared.version.TracesVersion.TheVariants.{One}
use Rattle.watch.specs.declared.watch.Watch.{Watch}
use Rattle.watch.specs.Own.{own, record_of}
use Rattle.watch.specs.Pasts.{refused_event}
use Rattle.watch.proofs.OwnLemmas.{own_self, own_other}
use Rattle.fleet.specs.declared.advance.Advance.{Advance}
use Rattle.fleet.specs.declared.advance.Advance.TheVariants.{Made, Rejected, Bound, Ended}
use Rattle.fleet.specs.declared.process.Process.{Process}
use Rattle.fleet.specs.declared.process.Stage.{Stage}
use Rattle.fleet.specs.declared.process.Stage.TheVariants as stages
use Rattle.fleet.specs.declared.standing.Standing.TheVariants as standings
use Rattle.fleet.specs.Alone.{IsAlone, IsAnswer}
use Rattle.fleet.specs.Going.{IsAt, IsAtStage, IsOpen, HasEnded, WasRefused, HasCome, IsReady, IsSameProcess, added_at, answer_of, remaining, stage_of}
use Rattle.fleet.specs.Members.{Group, Member, one_more, refused_to, run_of}

-- the own records of a process

pub own_more : (p : ℕ) (e : Event) (records : List Record) → own One p (records ++ record_of p e ∷ []) ≡ own One p records ++ e ∷ []
own_more p e records = own_self records (record_of p e) p One (eq-eqb p p refl)

pub own_same : (q p : ℕ) (e : Event) (records : List Record) → p ≢ q → own One q (records ++ record_of p e ∷ []) ≡ own One q records
own_same q p e records other =
    own_other records (record_of p e) q One (false_from_ne_true (nat_eq p q) (λ same. other (eqb-true p q same))) (λ two. cc)

-- the events that were made begin the run

pub begins : (run : Run) (made : List Event) (left : Run) → run ≡ joined made left → run.trace ≡ made ++ left.trace
begins run made left is = ap (λ (r : Run). r.trace) is

front_is : (run : Run) (made : List Event) (left : Run) → run ≡ joined made left → take (length made) run.trace ≡ made
front_is run made left is = ap (take (length made)) (begins run made left is) ∙ take-append_seam made left.trace

front_within : (run : Run) (made : List Event) (left : Run) → run ≡ joined made left → length made ≤ length run.trace
front_within run made left is = omega (arith, ap length (begins run made left is), length-append made left.trace)

front_has : (run : Run) (made : List Event) (left : Run) (i : ℕ) (e : Event) → run ≡ joined made left → slice_get made i ≡ Some e → slice_get run.trace i ≡ Some e
front_has run made left i e is here =
    let within = slice_get_within made i e here in
    let long = front_within run made left is in
    slice_get-get_or run.trace i e (omega arith)
    ∙ ap Some (ap (λ (t : List Event). get_or t i e) (begins run made left is) ∙ get_or_append_left made left.trace e i within ∙ get_or_from_slice_get made i e e here)

last_is : (made : List Event) (e : Event) → slice_get (made ++ e ∷ []) (length (made ++ e ∷ []) - 1) ≡ Some e
last_is made e =
    let long : length (made ++ e ∷ []) ≡ length made + 1 = length-append made (e ∷ []) in
    let place : length (made ++ e ∷ []) - 1 ≡ length made = omega arith in
    ap (slice_get (made ++ e ∷ [])) place ∙ slice_get-get_or (made ++ e ∷ []) (length made) e (omega arith) ∙ ap Some (get_or-append_seam made e [] e)

-- the last event of some
pub last_of : (made : List Event) → 1 ≤ length made → (e : Event) × (slice_get made (length made - 1) ≡ Some e)
last_of [] some = absurd (omega arith)
last_of (e ∷ made) some = let d = slice_get-get_or (e ∷ made) (length (e ∷ made) - 1) e (omega arith) in (get_or (e ∷ made) (length (e ∷ made) - 1) e, d)

one_joined : (made : List Event) (e : Event) (left : Run) → joined made (event_first e left) ≡ joined (made ++ e ∷ []) left
one_joined made e left = ap (λ (t : List Event). let r : Run = record { outcome = left.outcome; trace = t } in r) (sym (append_assoc made (e ∷ []) left.trace))

module _ (which : Which) (g : Group) where
  -- answers, by what the process has come to

  pub open_alone : (p : Process) (m : Member) (made : List Event) → IsOpen which g p m made → IsAlone which g.model g.bound (run_of m) m.advances (standings.Open m.advances)
  open_alone p m made at =
      subst (λ (k : ℕ). IsAlone which g.model g.bound (run_of m) k (standings.Open k)) at.count
      (refl, front_within (run_of m) made (remaining p) at.run, subst (IsAccepted which g.model g.bound) (sym (front_is (run_of m) made (remaining p) at.run)) at.accepted)

  pub answers_made : (p : Process) (m : Member) (made : List Event) (e : Event) → IsOpen which g p m made → 1 ≤ length made → slice_get made (length made - 1) ≡ Some e → IsAnswer which g.model g.bound (run_of m) m.advances (Made e)
  answers_made p m made e at some last = (
    open_alone p m made at,
    subst (λ (k : ℕ). 1 ≤ k) at.count some,
    subst (λ (k : ℕ). slice_get (run_of m).trace (k - 1) ≡ Some e) at.count (front_has (run_of m) made (remaining p) (length made - 1) e at.run last),
  )

  pub rejected_alone : (m : Member) (made : List Event) (e : Event) → WasRefused which g (IsRejectedAt which g.model g.bound) m made → slice_get made (length made - 1) ≡ Some e → IsAlone which g.model g.bound (run_of m) m.advances (standings.Rejected (length made) e)
  rejected_alone m made e at last = (
    at.some,
    at.within,
    rejected_of_part which g.model g.bound (run_of m).trace (length made) (length made) (subst (λ (t : List Event). IsRejectedAt which g.model g.bound t (length made)) (sym (front_is (run_of m) made at.left at.run)) at.refused),
    front_has (run_of m) made at.left (length made - 1) e at.run last,
  )

  pub answers_rejected : (m : Member) (made : List Event) (e : Event) → WasRefused which g (IsRejectedAt which g.model g.bound) m made → slice_get made (length made - 1) ≡ Some e → IsAnswer which g.model g.bound (run_of m) m.advances (Rejected e)
  answers_rejected m made e at last = (length made, rejected_alone m made e at last)

  pub bound_alone : (m : Member) (made : List Event) (e : Event) → WasRefused which g (IsBoundAt which g.model g.bound) m made → slice_get made (length made - 1) ≡ Some e → IsAlone which g.model g.bound (run_of m) m.advances (standings.Bound (length made) e)
  bound_alone m made e at last = (
    at.some,
    at.within,
    bound_of_part which g.model g.bound (run_of m).trace (length made) (length made) (subst (λ (t : List Event). IsBoundAt which g.model g.bound t (length made)) (sym (front_is (run_of m) made at.left at.run)) at.refused),
    front_has (run_of m) made at.left (length made - 1) e at.run last,
  )

  pub answers_bound : (m : Member) (made : List Event) (e : Event) → WasRefused which g (IsBoundAt which g.model g.bound) m made → slice_get made (length made - 1) ≡ Some e → IsAnswer which g.model g.bound (run_of m) m.advances (Bound e)
  answers_bound m made e at last = (length made, bound_alone m made e at last)

  pub ended_alone : (o : Outcome) (m : Member) (made : List Event) → HasEnded which g o m made → (n : ℕ) × IsAlone which g.model g.bound (run_of m) m.advances (standings.Ended n o)
  ended_alone o m made at =
      let whole : (run_of m).trace ≡ made = begins (run_of m) made (only_end o) at.run ∙ append-nil made in
      let over = at.over in (
        length (run_of m).trace,
        (refl, omega (arith, ap length whole), subst (IsAccepted which g.model g.bound) (sym whole) at.accepted, sym (ap (λ (r : Run). r.outcome) at.run)),
      )

  pub answers_ended : (o : Outcome) (m : Member) (made : List Event) → HasEnded which g o m made → IsAnswer which g.model g.bound (run_of m) m.advances (Ended o)
  answers_ended o m made at = ended_alone o m made at

  -- a new event

  made_next : (p p' : Process) (m : Member) (made : List Event) (e : Event) → IsOpen which g p m made → Happens (remaining p) (nexts.Event e) (remaining p') → run_of m ≡ joined (made ++ e ∷ []) (remaining p')
  made_next p p' m made e at happens = at.run ∙ ap (joined made) happens ∙ one_joined made e (remaining p')

  -- the accepted events are the first part of those with the new one
  part_accepted : (made : List Event) (e : Event) → IsAccepted which g.model g.bound made → IsAccepted which g.model g.bound (take (length made) (made ++ e ∷ []))
  part_accepted made e accepted = subst (IsAccepted which g.model g.bound) (sym (take-append_seam made (e ∷ []))) accepted

  all_of : (made : List Event) (e : Event) → take (length made + 1) (made ++ e ∷ []) ≡ made ++ e ∷ []
  all_of made e = take_all (length made + 1) (made ++ e ∷ []) (omega (arith, length-append made (e ∷ [])))

  pub after_kept : (p p' : Process) (m : Member) (made : List Event) (e : Event) → IsOpen which g p m made → Happens (remaining p) (nexts.Event e) (remaining p') → records_taken p'.machine ≡ p'.taken → IsAccepted which g.model g.bound (made ++ e ∷ []) → IsOpen which g p' (one_more m) (made ++ e ∷ [])
  after_kept p p' m made e at happens taken accepted = record {
    run = made_next p p' m made e at happens;
    taken = taken;
    accepted = accepted;
    count = let count = at.count in omega (arith, length-append made (e ∷ []));
  }

  refused_new : (Refused : List Event → ℕ → Type 0) (p p' : Process) (m : Member) (made : List Event) (e : Event) → IsOpen which g p m made → Happens (remaining p) (nexts.Event e) (remaining p') → Refused (made ++ e ∷ []) (length made + 1) → WasRefused which g Refused (one_more m) (made ++ e ∷ [])
  refused_new Refused p p' m made e at happens refused =
      let long : length (made ++ e ∷ []) ≡ length made + 1 = length-append made (e ∷ []) in
      let count = at.count in
      record {
        left = remaining p';
        run = made_next p p' m made e at happens;
        some = omega arith;
        refused = subst (Refused (made ++ e ∷ [])) (sym long) refused;
        within = omega arith;
      }

  pub after_rejected : (p p' : Process) (m : Member) (made : List Event) (e : Event) → IsOpen which g p m made → Happens (remaining p) (nexts.Event e) (remaining p') → IsStep which g.model g.bound (made ++ e ∷ []) steps.Rejected → WasRefused which g (IsRejectedAt which g.model g.bound) (one_more m) (made ++ e ∷ [])
  after_rejected p p' m made e at happens step =
      refused_new (IsRejectedAt which g.model g.bound) p p' m made e at happens
      (rejected_next which g.model g.bound (made ++ e ∷ []) (length made) (omega (arith, length-append made (e ∷ []))) (part_accepted made e at.accepted) (subst (λ (t : List Event). IsStep which g.model g.bound t steps.Rejected) (sym (all_of made e)) step))

  pub after_bound : (p p' : Process) (m : Member) (made : List Event) (e : Event) → IsOpen which g p m made → Happens (remaining p) (nexts.Event e) (remaining p') → IsStep which g.model g.bound (made ++ e ∷ []) steps.Bound → WasRefused which g (IsBoundAt which g.model g.bound) (one_more m) (made ++ e ∷ [])
  after_bound p p' m made e at happens step =
      refused_new (IsBoundAt which g.model g.bound) p p' m made e at happens
      (bound_next which g.model g.bound (made ++ e ∷ []) (length made) (omega (arith, length-append made (e ∷ []))) (part_accepted made e at.accepted) (subst (λ (t : List Event). IsStep which g.model g.bound t steps.Bound) (sym (all_of made e)) step))

  pub after_end : (p p' : Process) (m : Member) (made : List Event) (o : Outcome) → IsOpen which g p m made → Happens (remaining p) (nexts.End o) (remaining p') → HasEnded which g o (one_more m) made
  after_end p p' m made o at happens = record { run = at.run ∙ ap (joined made) happens; accepted = at.accepted; over = let count = at.count in omega arith }

  -- by how the new event was judged

  come_next : (step : Step) (p p' : Process) (m : Member) (made : List Event) (e : Event) → m.failed ≡ false → IsOpen which g p m made → Happens (remaining p) (nexts.Event e) (remaining p') → records_taken p'.machine ≡ p'.taken → IsStep which g.model g.bound (made ++ e ∷ []) step → HasCome which g (stage_of step) p' (one_more m) (made ++ e ∷ [])
  come_next steps.Kept p p' m made e sound at happens taken told = (sound, after_kept p p' m made e at happens taken told)
  come_next steps.Rejected p p' m made e sound at happens taken told = (sound, after_rejected p p' m made e at happens told)
  come_next steps.Bound p p' m made e sound at happens taken told = (sound, after_bound p p' m made e at happens told)

  answer_next : (step : Step) (p : Process) (m : Member) (made : List Event) (e : Event) → 1 ≤ length made → slice_get made (length made - 1) ≡ Some e → HasCome which g (stage_of step) p m made → IsAnswer which g.model g.bound (run_of m) m.advances (answer_of e step)
  answer_next steps.Kept p m made e some last come = answers_made p m made e come.1 some last
  answer_next steps.Rejected p m made e some last come = answers_rejected m made e come.1 last
  answer_next steps.Bound p m made e some last come = answers_bound m made e come.1 last

  added_one : (pid : ℕ) (e : Event) (step : Step) → added_at pid stages.Open (answer_of e step) ≡ record_of pid e ∷ []
  added_one pid e steps.Kept = refl
  added_one pid e steps.Rejected = refl
  added_one pid e steps.Bound = refl

  module _ (records : List Record) (p p' : Process) (m : Member) (at : IsAtStage which g stages.Open records p m) (same : IsSameProcess p p') where
    moved : (stage : Stage) (more : List Record) → HasCome which g stage p' (one_more m) (own One m.pid more) → IsAtStage which g stage more p' (one_more m)
    moved stage more come = record {
      pid = same.pid ∙ at.pid;
      group = same.group ∙ at.group;
      results = same.results ∙ at.results;
      typed = at.typed;
      come = come;
    }

    module _ (e : Event) (step : Step) (happens : Happens (remaining p) (nexts.Event e) (remaining p')) (taken : records_taken p'.machine ≡ p'.taken) (told : IsStep which g.model g.bound (own One p.pid (records ++ record_of p.pid e ∷ [])) step) where
      more : List Record
      more = records ++ record_of p.pid e ∷ []

      own_is : own One m.pid (records ++ record_of p.pid e ∷ []) ≡ own One m.pid records ++ e ∷ []
      own_is = ap (λ (n : ℕ). own One m.pid (records ++ record_of n e ∷ [])) at.pid ∙ own_more m.pid e records

      told_here : IsStep which g.model g.bound (own One m.pid records ++ e ∷ []) step
      told_here = subst (λ (t : List Event). IsStep which g.model g.bound t step) own_is (subst (λ (n : ℕ). IsStep which g.model g.bound (own One n (records ++ record_of p.pid e ∷ [])) step) at.pid told)

      come : HasCome which g (stage_of step) p' (one_more m) (own One m.pid records ++ e ∷ [])
      come = come_next step p p' m (own One m.pid records) e at.come.0 at.come.1 happens taken told_here

      pub event_at : IsAtStage which g (stage_of step) (records ++ added_at p.pid stages.Open (answer_of e step)) p' (one_more m)
      event_at =
          subst (λ (rs : List Record). IsAtStage which g (stage_of step) (records ++ rs) p' (one_more m)) (sym (added_one p.pid e step))
          (moved (stage_of step) (records ++ record_of p.pid e ∷ []) (subst (HasCome which g (stage_of step) p' (one_more m)) (sym own_is) come))

      pub event_answer : IsAnswer which g.model g.bound (run_of m) (m.advances + 1) (answer_of e step)
      event_answer =
          answer_next step p' (one_more m) (own One m.pid records ++ e ∷ []) e (omega (arith, length-append (own One m.pid records) (e ∷ []))) (last_is (own One m.pid records) e) come

    module _ (o : Outcome) (happens : Happens (remaining p) (nexts.End o) (remaining p')) where
      ended : HasEnded which g o (one_more m) (own One m.pid records)
      ended = after_end p p' m (own One m.pid records) o at.come.1 happens

      pub end_at : IsAtStage which g (stages.Ended o) (records ++ []) p' (one_more m)
      end_at = subst (λ (rs : List Record). IsAtStage which g (stages.Ended o) rs p' (one_more m)) (sym (append-nil records)) (moved (stages.Ended o) records (at.come.0, ended))

      pub end_answer : IsAnswer which g.model g.bound (run_of m) (m.advances + 1) (Ended o)
      end_answer = answers_ended o (one_more m) (own One m.pid records) ended

  -- an answer that is given again

  again_refused : (Refused : List Event → ℕ → Type 0) (m : Member) (made : List Event) → WasRefused which g Refused m made → WasRefused which g Refused (one_more m) made
  again_refused Refused m made at = record { left = at.left; run = at.run; some = at.some; refused = at.refused; within = let within = at.within in omega arith }

  again_ended : (o : Outcome) (m : Member) (made : List Event) → HasEnded which g o m made → HasEnded which g o (one_more m) made
  again_ended o m made at = record { run = at.run; accepted = at.accepted; over = let over = at.over in omega arith }

  -- the stages that stay
  pub IsOver : Stage → Type 0
  IsOver stages.Open = ⊥
  IsOver stages.Rejected = Unit {0}
  IsOver stages.Bound = Unit {0}
  IsOver (stages.Ended o) = Unit {0}
  IsOver stages.Failed = ⊥

  again_come : (stage : Stage) (p p' : Process) (m : Member) (made : List Event) → IsOver stage → HasCome which g stage p m made → HasCome which g stage p' (one_more m) made
  unfolding IsOver
  again_come stages.Open p p' m made over was = absurd over
  again_come stages.Rejected p p' m made over was = (was.0, again_refused (IsRejectedAt which g.model g.bound) m made was.1)
  again_come stages.Bound p p' m made over was = (was.0, again_refused (IsBoundAt which g.model g.bound) m made was.1)
  again_come (stages.Ended o) p p' m made over was = (was.0, again_ended o m made was.1)
  again_come stages.Failed p p' m made over was = absurd over

  again_at : (stage : Stage) (records : List Record) (p p' : Process) (m : Member) → IsOver stage → IsAtStage which g stage records p m → IsSameProcess p p' → IsAtStage which g stage (records ++ []) p' (one_more m)
  again_at stage records p p' m over at same =
      subst (λ (rs : List Record). IsAtStage which g stage rs p' (one_more m)) (sym (append-nil records)) (record {
        pid = same.pid ∙ at.pid;
        group = same.group ∙ at.group;
        results = same.results ∙ at.results;
        typed = at.typed;
        come = again_come stage p p' m (own One m.pid records) over at.come;
      })

  pub rejected_again : (records : List Record) (p p' : Process) (m : Member) → IsAtStage which g stages.Rejected records p m → IsSameProcess p p' → IsAtStage which g stages.Rejected (records ++ []) p' (one_more m)
  unfolding IsOver
  rejected_again records p p' m at same = again_at stages.Rejected records p p' m tt at same

  pub bound_again : (records : List Record) (p p' : Process) (m : Member) → IsAtStage which g stages.Bound records p m → IsSameProcess p p' → IsAtStage which g stages.Bound (records ++ []) p' (one_more m)
  unfolding IsOver
  bound_again records p p' m at same = again_at stages.Bound records p p' m tt at same

  pub ended_again : (o : Outcome) (records : List Record) (p p' : Process) (m : Member) → IsAtStage which g (stages.Ended o) records p m → IsSameProcess p p' → IsAtStage which g (stages.Ended o) (records ++ []) p' (one_more m)
  unfolding IsOver
  ended_again o records p p' m at same = again_at (stages.Ended o) records p p' m tt at same

  pub rejected_answer : (records : List Record) (p : Process) (m : Member) (e : Event) → IsAtStage which g stages.Rejected records p m → p.pid ≡ m.pid → refused_event (verdicts.Rejected (length (own One p.pid records))) (own One p.pid records) ≡ Some e → IsAnswer which g.model g.bound (run_of m) (m.advances + 1) (Rejected e)
  rejected_answer records p m e at is here =
      answers_rejected (one_more m) (own One m.pid records) e (again_refused (IsRejectedAt which g.model g.bound) m (own One m.pid records) at.come.1)
      (subst (λ (n : ℕ). slice_get (own One n records) (length (own One n records) - 1) ≡ Some e) is here)

  pub bound_answer : (records : List Record) (p : Process) (m : Member) (e : Event) → IsAtStage which g stages.Bound records p m → p.pid ≡ m.pid → refused_event (verdicts.Bound (length (own One p.pid records))) (own One p.pid records) ≡ Some e → IsAnswer which g.model g.bound (run_of m) (m.advances + 1) (Bound e)
  bound_answer records p m e at is here =
      answers_bound (one_more m) (own One m.pid records) e (again_refused (IsBoundAt which g.model g.bound) m (own One m.pid records) at.come.1)
      (subst (λ (n : ℕ). slice_get (own One n records) (length (own One n records) - 1) ≡ Some e) is here)

  pub rejected_verdict : (records : List Record) (p : Process) (m : Member) → IsAtStage which g stages.Rejected records p m → IsVerdict which g.model g.bound (own One p.pid records) (verdicts.Rejected (length (own One p.pid records)))
  rejected_verdict records p m at = subst (λ (n : ℕ). IsRejectedAt which g.model g.bound (own One n records) (length (own One n records))) (sym at.pid) at.come.1.refused

  pub bound_verdict : (records : List Record) (p : Process) (m : Member) → IsAtStage which g stages.Bound records p m → IsVerdict which g.model g.bound (own One p.pid records) (verdicts.Bound (length (own One p.pid records)))
  bound_verdict records p m at = subst (λ (n : ℕ). IsBoundAt which g.model g.bound (own One n records) (length (own One n records))) (sym at.pid) at.come.1.refused

  pub ended_answer : (o : Outcome) (records : List Record) (p : Process) (m : Member) → IsAtStage which g (stages.Ended o) records p m → IsAnswer which g.model g.bound (run_of m) (m.advances + 1) (Ended o)
  ended_answer o records p m at = answers_ended o (one_more m) (own One m.pid records) (again_ended o m (own One m.pid records) at.come.1)

  -- memory was refused
  pub failed_at : (stage : Stage) (records : List Record) (p p' : Process) (m : Member) → IsAtStage which g stage records p m → IsSameProcess p p' → p'.stage ≡ stages.Failed → IsAt which g records p' (refused_to m)
  failed_at stage records p p' m at same failed =
      subst (λ (s : Stage). IsAtStage which g s records p' (refused_to m)) (sym failed) (record {
        pid = same.pid ∙ at.pid;
        group = same.group ∙ at.group;
        results = same.results ∙ at.results;
        typed = at.typed;
        come = refl;
      })

-- the same, where stages and answers are told by equations

pub added_is : (pid : ℕ) (e : Event) (step : Step) (answer : Advance) → answer ≡ answer_of e step → added_at pid stages.Open answer ≡ record_of pid e ∷ []
added_is pid e step answer is = ap (added_at pid stages.Open) is ∙ by_step step where
  by_step : (step : Step) → added_at pid stages.Open (answer_of e step) ≡ record_of pid e ∷ []
  by_step steps.Kept = refl
  by_step steps.Rejected = refl
  by_step steps.Bound = refl

module _ (which : Which) (g : Group) (records : List Record) (p p' : Process) (m : Member) where
  pub step_at : IsAtStage which g stages.Open records p m → IsSameProcess p p' → (next : Next) (e : Event) (step : Step) (answer : Advance) (stage : Stage) → next ≡ nexts.Event e → answer ≡ answer_of e step → stage ≡ stage_of step → Happens (remaining p) next (remaining p') → records_taken p'.machine ≡ p'.taken → IsStep which g.model g.bound (own One p.pid (records ++ record_of p.pid e ∷ [])) step → IsAtStage which g stage (records ++ added_at p.pid stages.Open answer) p' (one_more m)
  step_at at same next e step answer stage is_next is_answer is_stage happens taken told =
      let moved = subst (λ (n : Next). Happens (remaining p) n (remaining p')) is_next happens in
      subst (λ (s : Stage). IsAtStage which g s (records ++ added_at p.pid stages.Open answer) p' (one_more m)) (sym is_stage)
      (subst (λ (a : Advance). IsAtStage which g (stage_of step) (records ++ added_at p.pid stages.Open a) p' (one_more m)) (sym is_answer) (event_at which g records p p' m at same e step moved taken told))

  pub step_answer : IsAtStage which g stages.Open records p m → IsSameProcess p p' → (next : Next) (e : Event) (step : Step) (answer : Advance) → next ≡ nexts.Event e → answer ≡ answer_of e step → Happens (remaining p) next (remaining p') → records_taken p'.machine ≡ p'.taken → IsStep which g.model g.bound (own One p.pid (records ++ record_of p.pid e ∷ [])) step → IsAnswer which g.model g.bound (run_of m) (m.advances + 1) answer
  step_answer at same next e step answer is_next is_answer happens taken told =
      let moved = subst (λ (n : Next). Happens (remaining p) n (remaining p')) is_next happens in
      subst (IsAnswer which g.model g.bound (run_of m) (m.advances + 1)) (sym is_answer) (event_answer which g records p p' m at same e step moved taken told)

-- the stage of a process is read before it is advanced

module _ (which : Which) (g : Group) where
  stage_come : (stage s : Stage) (p : Process) (m : Member) (made : List Event) → HasCome which g stage p m made → HasCome which g stage (record p { stage = s }) m made
  stage_come stages.Open s p m made come = (come.0, record { run = come.1.run; taken = come.1.taken; accepted = come.1.accepted; count = come.1.count })
  stage_come stages.Rejected s p m made come = come
  stage_come stages.Bound s p m made come = come
  stage_come (stages.Ended o) s p m made come = come
  stage_come stages.Failed s p m made come = come

pub ready_moved : {M P : Type 0} (laws : monitor.Ghosts M P) (g : Group) (records : List Record) (w : Watch M P) (stage stage' s : Stage) (p : Process) (m : Member) → stage' ≡ stage → IsReady laws g records w stage p m → IsReady laws g records w stage' (record p { stage = s }) m
ready_moved laws g records w stage stage' s p m is ready =
    subst (λ (x : Stage). IsReady laws g records w x (record p { stage = s }) m) (sym is) (record {
      watch = ready.watch;
      at = record {
        pid = ready.at.pid;
        group = ready.at.group;
        results = ready.at.results;
        typed = ready.at.typed;
        come = stage_come laws.WHICH g stage s p m (own One m.pid records) ready.at.come;
      };
      room = ready.room;
      few = ready.few;
    })
