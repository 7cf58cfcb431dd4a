use Rattle.std.proofs.Common.{◌≡◌, ℕ, List, Bool, true, Option, None, is_some, sym, ◌∙◌, ap, subst}
use Rattle.std.specs.Prelude.{All, if◌then◌else◌}
use Rattle.std.specs.Option.{option_copied}
use Rattle.dm_base.specs.declared.event.Event.{Event}
use Rattle.flow_model.specs.Graph.{Graph}
use Rattle.flow_model.specs.Verdict.{IsVerdict}
use Rattle.report.specs.VerdictLine.{IsGiven, event_at}
use Rattle.sys_table.specs.Table.{IsRecorded}
use Rattle.trace_file.specs.declared.record.Record.{Record}
use Rattle.trace_file.specs.declared.version.TracesVersion.{TracesVersion}
use Rattle.watch.specs.Own.{own, has_record}
use Rattle.watch.specs.Pasts.{refused_event}
use Rattle.tool_models.proofs.FoundLemmas.{found_told}
use Rattle.tool_models.proofs.OwnEvents.{own_recorded, kept_nothing, given_event, refused_is, told_recorded, window_recorded}
use Rattle.tool_models.proofs.watching.WatchWatches.tell.Goals as goal

pub process_line-requires-clause-given : goal.process_line-requires-clause-given
process_line-requires-clause-given g c =
    let (g', k, version, records, watched, recorded, has) = c.requires in
    let h = own version c.args.pid records in
    let v = c.in-Some.verdict in
    let told = c.in-Some.ensures.exact g' k version records watched.1 in
    let event : option_copied c.refused.result ≡ event_at h v =
    c.refused.ensures g' k version records v watched.1 told ∙ ap (λ (b : Bool). if b then refused_event v h else None) has ∙ refused_is h v in
    subst (IsGiven v) (sym event) (given_event g.M.Monitor.WHICH g' k h v (kept_nothing g.M.Monitor.WHICH g' k watched.0) told)

pub process_line-requires-clause-recorded : goal.process_line-requires-clause-recorded
process_line-requires-clause-recorded g c =
    let (g', k, version, records, watched, recorded, has) = c.requires in
    let h = own version c.args.pid records in
    let v = c.in-Some.verdict in
    let told = c.in-Some.ensures.exact g' k version records watched.1 in
    let event : option_copied c.refused.result ≡ event_at h v =
    c.refused.ensures g' k version records v watched.1 told ∙ ap (λ (b : Bool). if b then refused_event v h else None) has ∙ refused_is h v in
    told_recorded c.refused.result h v (own_recorded version records c.args.pid recorded) event

pub window_of-requires : goal.window_of-requires
window_of-requires g c =
    let (g', k, version, records, watched, recorded, has) = c.requires in
    let h = own version c.args.pid records in
    let v = c.in-Some.verdict in
    let told = c.in-Some.ensures.exact g' k version records watched.1 in
    let window = c.deref.ensures.value ∙ c.in_ok-events.ensures g' k version records v watched.1 told in
    subst (λ (t : List Event). All IsRecorded t) (sym window) (window_recorded h v (own_recorded version records c.args.pid recorded))

pub returns : goal.returns
returns g c = λ g' k version records asked watched found.
    let h = own version c.args.pid records in
    let v = c.in-Some.verdict in
    let told = c.in-Some.ensures.exact g' k version records watched.1 in
    let known : has_record records c.args.pid ≡ true = sym (sym (ap is_some c.in-Some.is) ∙ c.verdict.ensures.some g' k version records watched.1) in
    let event : option_copied c.refused.result ≡ event_at h v =
    c.refused.ensures g' k version records v watched.1 told ∙ ap (λ (b : Bool). if b then refused_event v h else None) known ∙ refused_is h v in
    let window = c.deref.ensures.value ∙ c.in_ok-events.ensures g' k version records v watched.1 told in
    found_told g' k (λ p. own version p records) asked c.args.pid g.M.Monitor.WHICH v (option_copied c.refused.result) c.in_ok-line.line.items c.in_ok-window.window.items c.args.findings.now c.add.new.findings told event (rw c.WHICH.ensures at c.in_ok-line.ensures) (c.in_ok-window.ensures h window) c.in_ok-add.ensures.text c.in_ok-add.ensures.verdicts found
