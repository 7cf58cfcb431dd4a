use Rattle.std.proofs.Common.{List, map, string_bytes, subst, ℕ, inl}
use Rattle.tool_words.specs.declared.command.Command.{Command}
use Rattle.tool_words.specs.declared.command.Command.TheVariants as commands
use Rattle.tool_words.specs.Command.{IsCommandLine}
use Rattle.tool_words.specs.Asked.{asked_by}
use Rattle.tool.proofs.WorkLemmas.{stopped, made_so, made_done}
use Rattle.tool.proofs.run.work.Goals as goal

pub returns-in-Some-Check-clause-stop : goal.returns-in-Some-Check-clause-stop
returns-in-Some-Check-clause-stop g c =
    let words : List (List ℕ) = map string_bytes c.args.words.now in
    let line = subst (λ (k : Command). IsCommandLine (asked_by k) words) c.in-Some-Check.field-0-is c.in-Some-Check.ensures.some in
    stopped (asked_by (commands.Check c.in-Some-Check.source)) words (g.S.Store.files c.args.store.now) c.check_source.result line (g.S.Store.faults c.args.store.now) (g.S.Store.faults c.check_source.new.store) _ _ tt (λ status text h. h) (λ h. h) c.check_source.ensures.stop

pub returns-in-Some-Check-clause-made : goal.returns-in-Some-Check-clause-made
returns-in-Some-Check-clause-made g c =
    let words : List (List ℕ) = map string_bytes c.args.words.now in
    let line = subst (λ (k : Command). IsCommandLine (asked_by k) words) c.in-Some-Check.field-0-is c.in-Some-Check.ensures.some in
    made_done (asked_by (commands.Check c.in-Some-Check.source)) words (g.S.Store.files c.args.store.now) c.check_source.result line _ (λ status text done. done) (λ told status text done made. (done, made)) c.check_source.ensures.made

pub returns-in-Some-Depth-clause-stop : goal.returns-in-Some-Depth-clause-stop
returns-in-Some-Depth-clause-stop g c =
    let words : List (List ℕ) = map string_bytes c.args.words.now in
    let line = subst (λ (k : Command). IsCommandLine (asked_by k) words) c.in-Some-Depth.field-0-is c.in-Some-Depth.ensures.some in
    stopped (asked_by (commands.Depth c.in-Some-Depth.model)) words (g.S.Store.files c.args.store.now) c.depth_of_model.result line (g.S.Store.faults c.args.store.now) (g.S.Store.faults c.depth_of_model.new.store) _ _ tt (λ status text h. h) (λ h. h) c.depth_of_model.ensures.stop

pub returns-in-Some-Depth-clause-made : goal.returns-in-Some-Depth-clause-made
returns-in-Some-Depth-clause-made g c =
    let words : List (List ℕ) = map string_bytes c.args.words.now in
    let line = subst (λ (k : Command). IsCommandLine (asked_by k) words) c.in-Some-Depth.field-0-is c.in-Some-Depth.ensures.some in
    made_done (asked_by (commands.Depth c.in-Some-Depth.model)) words (g.S.Store.files c.args.store.now) c.depth_of_model.result line _ (λ status text done. done) (λ told status text done made. (done, made)) c.depth_of_model.ensures.made

pub returns-in-Some-Explain-clause-stop : goal.returns-in-Some-Explain-clause-stop
returns-in-Some-Explain-clause-stop g c =
    let words : List (List ℕ) = map string_bytes c.args.words.now in
    let line = subst (λ (k : Command). IsCommandLine (asked_by k) words) c.in-Some-Explain.field-0-is c.in-Some-Explain.ensures.some in
    stopped (asked_by (commands.Explain c.in-Some-Explain.source)) words (g.S.Store.files c.args.store.now) c.explain_source.result line (g.S.Store.faults c.args.store.now) (g.S.Store.faults c.explain_source.new.store) _ _ tt (λ status text h. h) (λ h. h) c.explain_source.ensures.stop

pub returns-in-Some-Explain-clause-made : goal.returns-in-Some-Explain-clause-made
returns-in-Some-Explain-clause-made g c =
    let words : List (List ℕ) = map string_bytes c.args.words.now in
    let line = subst (λ (k : Command). IsCommandLine (asked_by k) words) c.in-Some-Explain.field-0-is c.in-Some-Explain.ensures.some in
    made_done (asked_by (commands.Explain c.in-Some-Explain.source)) words (g.S.Store.files c.args.store.now) c.explain_source.result line _ (λ status text done. done) (λ told status text done made. (done, made)) c.explain_source.ensures.made

pub returns-in-Some-Inline-clause-stop : goal.returns-in-Some-Inline-clause-stop
returns-in-Some-Inline-clause-stop g c =
    let words : List (List ℕ) = map string_bytes c.args.words.now in
    let line = subst (λ (k : Command). IsCommandLine (asked_by k) words) c.in-Some-Inline.field-0-is c.in-Some-Inline.ensures.some in
    stopped (asked_by (commands.Inline c.in-Some-Inline.model)) words (g.S.Store.files c.args.store.now) c.inlined_model.result line (g.S.Store.faults c.args.store.now) (g.S.Store.faults c.inlined_model.new.store) _ _ tt (λ status text h. h) (λ h. h) c.inlined_model.ensures.stop

pub returns-in-Some-Inline-clause-made : goal.returns-in-Some-Inline-clause-made
returns-in-Some-Inline-clause-made g c =
    let words : List (List ℕ) = map string_bytes c.args.words.now in
    let line = subst (λ (k : Command). IsCommandLine (asked_by k) words) c.in-Some-Inline.field-0-is c.in-Some-Inline.ensures.some in
    made_done (asked_by (commands.Inline c.in-Some-Inline.model)) words (g.S.Store.files c.args.store.now) c.inlined_model.result line _ (λ status text done. done) (λ told status text done made. (done, made)) c.inlined_model.ensures.made

pub returns-in-Some-Instrument-clause-stop : goal.returns-in-Some-Instrument-clause-stop
returns-in-Some-Instrument-clause-stop g c =
    let words : List (List ℕ) = map string_bytes c.args.words.now in
    let line = subst (λ (k : Command). IsCommandLine (asked_by k) words) c.in-Some-Instrument.field-0-is c.in-Some-Instrument.ensures.some in
    stopped (asked_by (commands.Instrument c.in-Some-Instrument.source)) words (g.S.Store.files c.args.store.now) c.instrument_source.result line (g.S.Store.faults c.args.store.now) (g.S.Store.faults c.instrument_source.new.store) _ _ tt (λ status text h. h) (λ h. h) c.instrument_source.ensures.stop

pub returns-in-Some-Instrument-clause-made : goal.returns-in-Some-Instrument-clause-made
returns-in-Some-Instrument-clause-made g c =
    let words : List (List ℕ) = map string_bytes c.args.words.now in
    let line = subst (λ (k : Command). IsCommandLine (asked_by k) words) c.in-Some-Instrument.field-0-is c.in-Some-Instrument.ensures.some in
    made_done (asked_by (commands.Instrument c.in-Some-Instrument.source)) words (g.S.Store.files c.args.store.now) c.instrument_source.result line _ (λ status text done. done) (λ told status text done made. (done, made)) c.instrument_source.ensures.made

pub returns-in-Some-Model-clause-stop : goal.returns-in-Some-Model-clause-stop
returns-in-Some-Model-clause-stop g c =
    let words : List (List ℕ) = map string_bytes c.args.words.now in
    let line = subst (λ (k : Command). IsCommandLine (asked_by k) words) c.in-Some-Model.field-0-is c.in-Some-Model.ensures.some in
    stopped (asked_by (commands.Model c.in-Some-Model.source)) words (g.S.Store.files c.args.store.now) c.model_of_source.result line (g.S.Store.faults c.args.store.now) (g.S.Store.faults c.model_of_source.new.store) _ _ tt (λ status text h. h) (λ h. h) c.model_of_source.ensures.stop

pub returns-in-Some-Model-clause-made : goal.returns-in-Some-Model-clause-made
returns-in-Some-Model-clause-made g c =
    let words : List (List ℕ) = map string_bytes c.args.words.now in
    let line = subst (λ (k : Command). IsCommandLine (asked_by k) words) c.in-Some-Model.field-0-is c.in-Some-Model.ensures.some in
    made_done (asked_by (commands.Model c.in-Some-Model.source)) words (g.S.Store.files c.args.store.now) c.model_of_source.result line _ (λ status text done. done) (λ told status text done made. (done, made)) c.model_of_source.ensures.made

pub returns-in-Some-Picture-clause-stop : goal.returns-in-Some-Picture-clause-stop
returns-in-Some-Picture-clause-stop g c =
    let words : List (List ℕ) = map string_bytes c.args.words.now in
    let line = subst (λ (k : Command). IsCommandLine (asked_by k) words) c.in-Some-Picture.field-0-is c.in-Some-Picture.ensures.some in
    stopped (asked_by (commands.Picture c.in-Some-Picture.model)) words (g.S.Store.files c.args.store.now) c.picture_of_model.result line (g.S.Store.faults c.args.store.now) (g.S.Store.faults c.picture_of_model.new.store) _ _ tt (λ status text h. h) (λ h. h) c.picture_of_model.ensures.stop

pub returns-in-Some-Picture-clause-made : goal.returns-in-Some-Picture-clause-made
returns-in-Some-Picture-clause-made g c =
    let words : List (List ℕ) = map string_bytes c.args.words.now in
    let line = subst (λ (k : Command). IsCommandLine (asked_by k) words) c.in-Some-Picture.field-0-is c.in-Some-Picture.ensures.some in
    made_done (asked_by (commands.Picture c.in-Some-Picture.model)) words (g.S.Store.files c.args.store.now) c.picture_of_model.result line _ (λ status text done. done) (λ told status text done made. (done, made)) c.picture_of_model.ensures.made

pub returns-in-Some-Sites-clause-stop : goal.returns-in-Some-Sites-clause-stop
returns-in-Some-Sites-clause-stop g c =
    let words : List (List ℕ) = map string_bytes c.args.words.now in
    let line = subst (λ (k : Command). IsCommandLine (asked_by k) words) c.in-Some-Sites.field-0-is c.in-Some-Sites.ensures.some in
    stopped (asked_by (commands.Sites c.in-Some-Sites.source)) words (g.S.Store.files c.args.store.now) c.sites_of_source.result line (g.S.Store.faults c.args.store.now) (g.S.Store.faults c.sites_of_source.new.store) _ _ tt (λ status text h. h) (λ h. h) c.sites_of_source.ensures.stop

pub returns-in-Some-Sites-clause-made : goal.returns-in-Some-Sites-clause-made
returns-in-Some-Sites-clause-made g c =
    let words : List (List ℕ) = map string_bytes c.args.words.now in
    let line = subst (λ (k : Command). IsCommandLine (asked_by k) words) c.in-Some-Sites.field-0-is c.in-Some-Sites.ensures.some in
    made_done (asked_by (commands.Sites c.in-Some-Sites.source)) words (g.S.Store.files c.args.store.now) c.sites_of_source.result line _ (λ status text done. done) (λ told status text done made. (done, made)) c.sites_of_source.ensures.made

pub returns-in-Some-Upgrade-clause-stop : goal.returns-in-Some-Upgrade-clause-stop
returns-in-Some-Upgrade-clause-stop g c =
    let words : List (List ℕ) = map string_bytes c.args.words.now in
    let line = subst (λ (k : Command). IsCommandLine (asked_by k) words) c.in-Some-Upgrade.field-0-is c.in-Some-Upgrade.ensures.some in
    stopped (asked_by (commands.Upgrade c.in-Some-Upgrade.model)) words (g.S.Store.files c.args.store.now) c.upgrade.result line (g.S.Store.faults c.args.store.now) (g.S.Store.faults c.upgrade.new.store) _ _ tt (λ status text h. h) (λ h. h) c.upgrade.ensures.stop

pub returns-in-Some-Upgrade-clause-made : goal.returns-in-Some-Upgrade-clause-made
returns-in-Some-Upgrade-clause-made g c =
    let words : List (List ℕ) = map string_bytes c.args.words.now in
    let line = subst (λ (k : Command). IsCommandLine (asked_by k) words) c.in-Some-Upgrade.field-0-is c.in-Some-Upgrade.ensures.some in
    made_done (asked_by (commands.Upgrade c.in-Some-Upgrade.model)) words (g.S.Store.files c.args.store.now) c.upgrade.result line _ (λ status text done. done) (λ told status text done made. (done, made)) c.upgrade.ensures.made

pub returns-in-Some-Run-clause-stop : goal.returns-in-Some-Run-clause-stop
returns-in-Some-Run-clause-stop g c =
    let words : List (List ℕ) = map string_bytes c.args.words.now in
    let line = subst (λ (k : Command). IsCommandLine (asked_by k) words) c.in-Some-Run.field-0-is c.in-Some-Run.ensures.some in
    stopped (asked_by (commands.Run c.in-Some-Run.source c.in-Some-Run.results c.in-Some-Run.turns)) words (g.S.Store.files c.args.store.now) c.run_source.result line (g.S.Store.faults c.args.store.now) (g.S.Store.faults c.run_source.new.store) _ _ tt (λ status text h. h) (λ h. h) c.run_source.ensures.stop

pub returns-in-Some-Run-clause-made : goal.returns-in-Some-Run-clause-made
returns-in-Some-Run-clause-made g c =
    let words : List (List ℕ) = map string_bytes c.args.words.now in
    let line = subst (λ (k : Command). IsCommandLine (asked_by k) words) c.in-Some-Run.field-0-is c.in-Some-Run.ensures.some in
    made_done (asked_by (commands.Run c.in-Some-Run.source c.in-Some-Run.results c.in-Some-Run.turns)) words (g.S.Store.files c.args.store.now) c.run_source.result line _ (λ status text done. done) (λ told status text done made. (done, made)) c.run_source.ensures.made

pub returns-in-Some-Expected-clause-stop : goal.returns-in-Some-Expected-clause-stop
returns-in-Some-Expected-clause-stop g c =
    let words : List (List ℕ) = map string_bytes c.args.words.now in
    let line = subst (λ (k : Command). IsCommandLine (asked_by k) words) c.in-Some-Expected.field-0-is c.in-Some-Expected.ensures.some in
    stopped (asked_by (commands.Expected c.in-Some-Expected.model c.in-Some-Expected.trace c.in-Some-Expected.asked c.in-Some-Expected.bound)) words (g.S.Store.files c.args.store.now) c.expected_command.result line (g.S.Store.faults c.args.store.now) (g.S.Store.faults c.expected_command.new.store) _ _ tt (λ status text h. h) (λ h. h) c.expected_command.ensures.stop

pub returns-in-Some-Expected-clause-made : goal.returns-in-Some-Expected-clause-made
returns-in-Some-Expected-clause-made g c =
    let words : List (List ℕ) = map string_bytes c.args.words.now in
    let line = subst (λ (k : Command). IsCommandLine (asked_by k) words) c.in-Some-Expected.field-0-is c.in-Some-Expected.ensures.some in
    made_so (asked_by (commands.Expected c.in-Some-Expected.model c.in-Some-Expected.trace c.in-Some-Expected.asked c.in-Some-Expected.bound)) words (g.S.Store.files c.args.store.now) c.expected_command.result line _ _ (λ status h. h) (λ status text h. h) (λ told status text ended made. made) c.expected_command.ensures.finished c.expected_command.ensures.expected

pub returns-in-Some-Judge-clause-stop : goal.returns-in-Some-Judge-clause-stop
returns-in-Some-Judge-clause-stop g c =
    let words : List (List ℕ) = map string_bytes c.args.words.now in
    let line = subst (λ (k : Command). IsCommandLine (asked_by k) words) c.in-Some-Judge.field-0-is c.in-Some-Judge.ensures.some in
    stopped (asked_by (commands.Judge c.in-Some-Judge.model c.in-Some-Judge.trace c.in-Some-Judge.asked c.in-Some-Judge.bound)) words (g.S.Store.files c.args.store.now) c.judge.result line (g.S.Store.faults c.args.store.now) (g.S.Store.faults c.judge.new.store) _ _ tt (λ status text h. h) (λ h. h) c.judge.ensures.stop

pub returns-in-Some-Judge-clause-made : goal.returns-in-Some-Judge-clause-made
returns-in-Some-Judge-clause-made g c =
    let words : List (List ℕ) = map string_bytes c.args.words.now in
    let line = subst (λ (k : Command). IsCommandLine (asked_by k) words) c.in-Some-Judge.field-0-is c.in-Some-Judge.ensures.some in
    made_so (asked_by (commands.Judge c.in-Some-Judge.model c.in-Some-Judge.trace c.in-Some-Judge.asked c.in-Some-Judge.bound)) words (g.S.Store.files c.args.store.now) c.judge.result line _ _ (λ status h. h) (λ status text h. h) (λ told status text ended made. made) c.judge.ensures.finished c.judge.ensures.judged

pub returns-in-Some-Watch-clause-stop : goal.returns-in-Some-Watch-clause-stop
returns-in-Some-Watch-clause-stop g c =
    let words : List (List ℕ) = map string_bytes c.args.words.now in
    let line = subst (λ (k : Command). IsCommandLine (asked_by k) words) c.in-Some-Watch.field-0-is c.in-Some-Watch.ensures.some in
    stopped (asked_by (commands.Watch c.in-Some-Watch.model c.in-Some-Watch.traces c.in-Some-Watch.asked c.in-Some-Watch.bound)) words (g.S.Store.files c.args.store.now) c.watch_traces.result line (g.S.Store.faults c.args.store.now) (g.S.Store.faults c.watch_traces.new.store) _ _ tt (λ status text h. h) (λ h. h) c.watch_traces.ensures.stop

pub returns-in-Some-Watch-clause-made : goal.returns-in-Some-Watch-clause-made
returns-in-Some-Watch-clause-made g c =
    let words : List (List ℕ) = map string_bytes c.args.words.now in
    let line = subst (λ (k : Command). IsCommandLine (asked_by k) words) c.in-Some-Watch.field-0-is c.in-Some-Watch.ensures.some in
    made_so (asked_by (commands.Watch c.in-Some-Watch.model c.in-Some-Watch.traces c.in-Some-Watch.asked c.in-Some-Watch.bound)) words (g.S.Store.files c.args.store.now) c.watch_traces.result line _ _ (λ status h. h) (λ status text h. h) (λ told status text ended made. made) c.watch_traces.ensures.finished c.watch_traces.ensures.watched

pub returns-in-Some-Measure-clause-stop : goal.returns-in-Some-Measure-clause-stop
returns-in-Some-Measure-clause-stop g c =
    let words : List (List ℕ) = map string_bytes c.args.words.now in
    let line = subst (λ (k : Command). IsCommandLine (asked_by k) words) c.in-Some-Measure.field-0-is c.in-Some-Measure.ensures.some in
    stopped (asked_by (commands.Measure c.in-Some-Measure.model c.in-Some-Measure.trace c.in-Some-Measure.asked)) words (g.S.Store.files c.args.store.now) c.measure.result line (g.S.Store.faults c.args.store.now) (g.S.Store.faults c.measure.new.store) _ _ tt (λ status text h. h) (λ h. h) c.measure.ensures.stop

pub returns-in-Some-Measure-clause-made : goal.returns-in-Some-Measure-clause-made
returns-in-Some-Measure-clause-made g c =
    let words : List (List ℕ) = map string_bytes c.args.words.now in
    let line = subst (λ (k : Command). IsCommandLine (asked_by k) words) c.in-Some-Measure.field-0-is c.in-Some-Measure.ensures.some in
    made_so (asked_by (commands.Measure c.in-Some-Measure.model c.in-Some-Measure.trace c.in-Some-Measure.asked)) words (g.S.Store.files c.args.store.now) c.measure.result line _ _ (λ status h. inl h) (λ status text h. h) (λ told status text ended made. made) c.measure.ensures.finished c.measure.ensures.measured

pub returns-in-Some-Fleet-clause-stop : goal.returns-in-Some-Fleet-clause-stop
returns-in-Some-Fleet-clause-stop g c =
    let words : List (List ℕ) = map string_bytes c.args.words.now in
    let line = subst (λ (k : Command). IsCommandLine (asked_by k) words) c.in-Some-Fleet.field-0-is c.in-Some-Fleet.ensures.some in
    stopped (asked_by (commands.Fleet c.in-Some-Fleet.schedule c.in-Some-Fleet.which)) words (g.S.Store.files c.args.store.now) c.run_fleet.result line (g.S.Store.faults c.args.store.now) (g.S.Store.faults c.run_fleet.new.store) _ _ tt (λ status text h. h) (λ h. h) c.run_fleet.ensures.stop

pub returns-in-Some-Fleet-clause-made : goal.returns-in-Some-Fleet-clause-made
returns-in-Some-Fleet-clause-made g c =
    let words : List (List ℕ) = map string_bytes c.args.words.now in
    let line = subst (λ (k : Command). IsCommandLine (asked_by k) words) c.in-Some-Fleet.field-0-is c.in-Some-Fleet.ensures.some in
    made_so (asked_by (commands.Fleet c.in-Some-Fleet.schedule c.in-Some-Fleet.which)) words (g.S.Store.files c.args.store.now) c.run_fleet.result line _ _ (λ status h. h) (λ status text h. h) (λ told status text ended made. made) c.run_fleet.ensures.finished c.run_fleet.ensures.made

pub returns-in-Some-Certify-clause-stop : goal.returns-in-Some-Certify-clause-stop
returns-in-Some-Certify-clause-stop g c =
    let words : List (List ℕ) = map string_bytes c.args.words.now in
    let line = subst (λ (k : Command). IsCommandLine (asked_by k) words) c.in-Some-Certify.field-0-is c.in-Some-Certify.ensures.some in
    stopped (asked_by (commands.Certify c.in-Some-Certify.model c.in-Some-Certify.trace c.in-Some-Certify.judge)) words (g.S.Store.files c.args.store.now) c.certify_trace.result line (g.S.Store.faults c.args.store.now) (g.S.Store.faults c.certify_trace.new.store) _ _ tt (λ status text h. h) (λ h. h) c.certify_trace.ensures.stop

pub returns-in-Some-Certify-clause-made : goal.returns-in-Some-Certify-clause-made
returns-in-Some-Certify-clause-made g c =
    let words : List (List ℕ) = map string_bytes c.args.words.now in
    let line = subst (λ (k : Command). IsCommandLine (asked_by k) words) c.in-Some-Certify.field-0-is c.in-Some-Certify.ensures.some in
    made_so (asked_by (commands.Certify c.in-Some-Certify.model c.in-Some-Certify.trace c.in-Some-Certify.judge)) words (g.S.Store.files c.args.store.now) c.certify_trace.result line _ _ (λ status h. h) (λ status text h. h) (λ told status text ended made. made) c.certify_trace.ensures.finished c.certify_trace.ensures.made

pub returns-in-Some-Confirm-clause-stop : goal.returns-in-Some-Confirm-clause-stop
returns-in-Some-Confirm-clause-stop g c =
    let words : List (List ℕ) = map string_bytes c.args.words.now in
    let line = subst (λ (k : Command). IsCommandLine (asked_by k) words) c.in-Some-Confirm.field-0-is c.in-Some-Confirm.ensures.some in
    stopped (asked_by (commands.Confirm c.in-Some-Confirm.model c.in-Some-Confirm.trace c.in-Some-Confirm.certificate)) words (g.S.Store.files c.args.store.now) c.confirm_certificate.result line (g.S.Store.faults c.args.store.now) (g.S.Store.faults c.confirm_certificate.new.store) _ _ tt (λ status text h. h) (λ h. h) c.confirm_certificate.ensures.stop

pub returns-in-Some-Confirm-clause-made : goal.returns-in-Some-Confirm-clause-made
returns-in-Some-Confirm-clause-made g c =
    let words : List (List ℕ) = map string_bytes c.args.words.now in
    let line = subst (λ (k : Command). IsCommandLine (asked_by k) words) c.in-Some-Confirm.field-0-is c.in-Some-Confirm.ensures.some in
    made_so (asked_by (commands.Confirm c.in-Some-Confirm.model c.in-Some-Confirm.trace c.in-Some-Confirm.certificate)) words (g.S.Store.files c.args.store.now) c.confirm_certificate.result line _ _ (λ status h. inl h) (λ status text h. h) (λ told status text ended made. (ended, made)) c.confirm_certificate.ensures.status c.confirm_certificate.ensures.made

pub returns-in-Some-Audit-clause-stop : goal.returns-in-Some-Audit-clause-stop
returns-in-Some-Audit-clause-stop g c =
    let words : List (List ℕ) = map string_bytes c.args.words.now in
    let line = subst (λ (k : Command). IsCommandLine (asked_by k) words) c.in-Some-Audit.field-0-is c.in-Some-Audit.ensures.some in
    stopped (asked_by (commands.Audit c.in-Some-Audit.source c.in-Some-Audit.results c.in-Some-Audit.turns c.in-Some-Audit.bound)) words (g.S.Store.files c.args.store.now) c.audit_source.result line (g.S.Store.faults c.args.store.now) (g.S.Store.faults c.audit_source.new.store) _ _ tt (λ status text h. h) (λ h. h) c.audit_source.ensures.stop
