use Rattle.std.proofs.Common.{◌≡◌, ℕ, List, map, string_bytes, inl, inr, sym, ◌∙◌, subst, rules}
use Rattle.std.specs.Prelude.{◌⊎◌}
use Rattle.dm_base.specs.declared.verdict.Status.{Status}
use Rattle.dm_base.specs.declared.verdict.Status.TheVariants as statuses
use Rattle.tool_frame.specs.declared.stop.Stop.TheVariants as stops
use Rattle.tool_frame.specs.Stop.{IsFinished}
use Rattle.tool.specs.Frame.{call_of, Writes}
use Rattle.tool.proofs.FrameLemmas.{sound_stop, refused_stop, done_not_refused, written_in_part, stop_not_rejected, audit_not_rejected, test_stop, test_done}
use Rattle.tool.proofs.run.run_tool.Goals as goal

pub returns-in-Err-clause-complete : goal.returns-in-Err-clause-complete
returns-in-Err-clause-complete g c = λ sound undisturbed.
    subst (λ (s : Status). IsFinished s ⊎ (s ≡ statuses.OutOfMemory)) (sym c.refuse.ensures.status) (sound_stop _ _ _ _ _ _ c.in-Err.stop c.in-Err.ensures.stop sound undisturbed)

pub returns-in-Err-clause-refused : goal.returns-in-Err-clause-refused
returns-in-Err-clause-refused g c = λ status line told refused undisturbed.
    subst (λ (s : Status). (s ≡ status) ⊎ (s ≡ statuses.OutOfMemory)) (sym c.refuse.ensures.status) (refused_stop _ _ _ _ _ _ c.in-Err.stop status line c.in-Err.ensures.stop told refused undisturbed)

pub returns-clause-refused : goal.returns-clause-refused
returns-clause-refused g c = λ status line told refused undisturbed.
    absurd (done_not_refused _ _ (g.S.Store.faults c.args.store.now) (g.S.Store.faults c.work.new.store) (g.O.Sink.faults c.args.out.now) (g.O.Sink.faults c.write_whole.new.sink) c.in-Ok.finished.status status c.in-Ok.finished.text.items line c.in-Ok.ensures.made.1 told refused)

pub returns-then-is_err-clause-written : goal.returns-then-is_err-clause-written
returns-then-is_err-clause-written g c =
    let words : List (List ℕ) = map string_bytes c.args.words.now in
    let files = g.S.Store.files c.args.store.now in
    let before = g.S.Store.faults c.args.store.now in
    let after = g.S.Store.faults c.work.new.store in
    let out_before = g.O.Sink.faults c.args.out.now in
    let out_after = g.O.Sink.faults c.write_whole.new.sink in
    let old = g.O.Sink.taken c.args.out.now in
    let new = g.O.Sink.taken c.write_whole.new.sink in
    subst (λ (s : Status). Writes s (call_of words files before after out_before out_after) old new) (sym c.refuse-then-is_err.ensures.status)
    (written_in_part c.write_whole.result words files before after out_before out_after c.in-Ok.finished.status c.in-Ok.finished.text.items c.deref.result.now old new (search rules) c.deref.ensures.value c.write_whole.ensures.err c.in-Ok.ensures.made.1)

pub returns-in-Err-clause-audit : goal.returns-in-Err-clause-audit
returns-in-Err-clause-audit g c = λ asks rejected. stop_not_rejected c.in-Err.stop (sym c.refuse.ensures.status ∙ rejected)

pub returns-then-is_err-clause-audit : goal.returns-then-is_err-clause-audit
returns-then-is_err-clause-audit g c = λ asks rejected. stop_not_rejected stops.Write (sym c.refuse-then-is_err.ensures.status ∙ rejected)

pub returns-clause-audit : goal.returns-clause-audit
returns-clause-audit g c =
    audit_not_rejected _ _ (g.S.Store.faults c.args.store.now) (g.S.Store.faults c.work.new.store) (g.O.Sink.faults c.args.out.now) (g.O.Sink.faults c.write_whole.new.sink) c.in-Ok.finished.status c.in-Ok.finished.text.items c.in-Ok.ensures.made.1

pub returns-in-Err-clause-selftest : goal.returns-in-Err-clause-selftest
returns-in-Err-clause-selftest g c = λ asks.
    subst (λ (s : Status). (s ≡ statuses.Done) ⊎ ((s ≡ statuses.WriteFault) ⊎ (s ≡ statuses.OutOfMemory))) (sym c.refuse.ensures.status) (test_stop _ _ _ _ 0 0 c.in-Err.stop c.in-Err.ensures.stop asks)

pub returns-then-is_err-clause-selftest : goal.returns-then-is_err-clause-selftest
returns-then-is_err-clause-selftest g c = λ asks. inr (inl c.refuse-then-is_err.ensures.status)

pub returns-clause-selftest : goal.returns-clause-selftest
returns-clause-selftest g c = λ asks.
    inl (test_done _ _ (g.S.Store.faults c.args.store.now) (g.S.Store.faults c.work.new.store) (g.O.Sink.faults c.args.out.now) (g.O.Sink.faults c.write_whole.new.sink) c.in-Ok.finished.status c.in-Ok.finished.text.items c.in-Ok.ensures.made.1 asks)
