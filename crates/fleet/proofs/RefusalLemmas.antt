-- A process that was refused has a record, and an event at which it was refused.
use Rattle.std.proofs.Common.{◌≡◌, ℕ, ◌≤◌, Bool, true, false, List, length, Option, None, Some, Result, Ok, Err, sym, ◌∙◌, ap, subst, arith}
use Rattle.std.specs.Prelude.{IfOk, if◌then◌else◌}
use Rattle.std.proofs.lemmas.Bool.{true_from_ne_false}
use Rattle.std.proofs.lemmas.Option.{none-some}
use Rattle.dm_base.specs.declared.event.Event.{Event}
use Rattle.dm_base.specs.declared.memory.OutOfMemory.{OutOfMemory}
use Rattle.dm_base.specs.declared.verdict.Verdict.{Verdict}
use Rattle.dm_base.specs.declared.verdict.Verdict.TheVariants as verdicts
use Rattle.flow_model.specs.declared.monitor.Monitor as monitor
use Rattle.flow_model.specs.Graph.{Graph}
use Rattle.flow_model.specs.Verdict.{IsVerdict}
use Rattle.trace_file.specs.declared.record.Record.{Record}
use Rattle.trace_file.specs.declared.version.TracesVersion.{TracesVersion}
use Rattle.trace_file.specs.declared.version.TracesVersion.TheVariants.{One}
use Rattle.watch.specs.declared.watch.Watch.{Watch}
use Rattle.watch.specs.Own.{has_record, own}
use Rattle.watch.specs.Pasts.{refused_event}
use Rattle.watch.specs.Watching.{StandsFor as WatchStandsFor}
use Rattle.fleet.specs.declared.process.Process.{Process}
use Rattle.fleet.specs.declared.process.Stage.TheVariants as stages
use Rattle.fleet.specs.Going.{HasRefused, IsAtStage}
use Rattle.fleet.specs.Members.{Group, Member}
use Rattle.fleet.proofs.StepLemmas.{bound_verdict, last_of, rejected_verdict}
use Rattle.fleet.proofs.TellingLemmas.{no_record}

-- a process with events has a record
some_record : (records : List Record) (p : ℕ) → 1 ≤ length (own One p records) → has_record records p ≡ true
some_record records p some =
    true_from_ne_false (has_record records p) (λ without.
    let none : length (own One p records) ≡ 0 = ap length (no_record records p without) in
    omega arith)

some_told : (b : Bool) (o : Option Event) (e : Event) → Some e ≡ (if b then o else None) → o ≡ Some e
some_told true o e is = sym is
some_told false o e is = absurd (none-some e (sym is))

module _ {M P : Type 0} (laws : monitor.Ghosts M P) where
  -- a copy of the event that the watch tells
  pub copy_told : (w : Watch M P) (pid : ℕ) (e : Event) → ((g : Graph) (k : ℕ) (version : TracesVersion) (records : List Record) (verdict : Verdict) → WatchStandsFor laws g k version w records → IsVerdict laws.WHICH g k (own version pid records) verdict → Some e ≡ (if has_record records pid then refused_event verdict (own version pid records) else None)) → (copy : Result Event OutOfMemory) → IfOk copy (λ copied. copied ≡ e) → IfOk copy (λ event. (g : Graph) (k : ℕ) (version : TracesVersion) (records : List Record) (verdict : Verdict) → WatchStandsFor laws g k version w records → IsVerdict laws.WHICH g k (own version pid records) verdict → refused_event verdict (own version pid records) ≡ Some event)
  copy_told w pid e told (Ok event) same = λ g k version records verdict stands judged.
      some_told (has_record records pid) (refused_event verdict (own version pid records)) e (told g k version records verdict stands judged) ∙ ap Some (sym same)
  copy_told w pid e told (Err error) same = tt

  -- what the watch tells of a process that it has refused
  pub refused_told : (w : Watch M P) (pid : ℕ) (has : HasRefused laws w pid) (told : Option Event) → told ≡ (if has_record has.records pid then refused_event has.verdict (own One pid has.records) else None) → told ≡ Some has.event
  refused_told w pid has told is = is ∙ ap (λ (b : Bool). if b then refused_event has.verdict (own One pid has.records) else None) has.there ∙ has.refused

  -- by the stage of the process
  module _ (g : Group) (records : List Record) (w : Watch M P) (p : Process) (m : Member) (watch : WatchStandsFor laws g.model g.bound One w records) where
    own_some : p.pid ≡ m.pid → 1 ≤ length (own One m.pid records) → 1 ≤ length (own One p.pid records)
    own_some is some = subst (λ (n : ℕ). 1 ≤ length (own One n records)) (sym is) some

    pub has_rejected : IsAtStage laws.WHICH g stages.Rejected records p m → HasRefused laws w p.pid
    has_rejected at =
        let some = own_some at.pid at.come.1.some in
        let last = last_of (own One p.pid records) some in
        record {
          group = g;
          records = records;
          watch = watch;
          there = some_record records p.pid some;
          verdict = verdicts.Rejected (length (own One p.pid records));
          judged = rejected_verdict laws.WHICH g records p m at;
          event = last.0;
          refused = last.1;
        }

    pub has_bound : IsAtStage laws.WHICH g stages.Bound records p m → HasRefused laws w p.pid
    has_bound at =
        let some = own_some at.pid at.come.1.some in
        let last = last_of (own One p.pid records) some in
        record {
          group = g;
          records = records;
          watch = watch;
          there = some_record records p.pid some;
          verdict = verdicts.Bound (length (own One p.pid records));
          judged = bound_verdict laws.WHICH g records p m at;
          event = last.0;
          refused = last.1;
        }
