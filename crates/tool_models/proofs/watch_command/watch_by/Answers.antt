use Rattle.std.proofs.Common.{ℕ, ◌≡◌, ◌≤◌, ◌<◌, ◌^◌, List, ◌++◌, inl, sym, subst, ap, ◌∙◌, arith}
use Rattle.report.specs.ProcessLines.{sum_text}
use Rattle.trace_file.specs.declared.record.Record.{Record}
use Rattle.trace_file.specs.declared.version.TracesVersion.{TracesVersion}
use Rattle.trace_file.specs.Traces.{IsTracesRefusal}
use Rattle.tool_models.specs.Following.{AreOpen, HasBegun}
use Rattle.tool_files.specs.Reading.{IsAt}
use Rattle.tool_models.specs.Watched.{AreAllWatched}
use Rattle.tool_models.proofs.FollowingLemmas.{within_recorded}
use Rattle.tool_models.proofs.FoundLemmas.{all_watched}
use Rattle.tool_files.proofs.ReadingLemmas.{traces_told, text_refused, reading_refused}
use Rattle.tool_models.proofs.watch_command.watch_by.Goals as goal

pub read_to_end-requires : goal.read_to_end-requires
read_to_end-requires g c =
    let start = c.in_ok-follower.ensures.bound in
    (c.args.bound, (start, omega (arith, start, c.requires), omega (arith, start, c.requires), c.in_ok-follower.ensures.read c.args.model.now))

pub returns-in-Err-clause-stop : goal.returns-in-Err-clause-stop
returns-in-Err-clause-stop g c = reading_refused IsTracesRefusal (g.S.Store.files c.args.store.now) c.args.traces.now c.in-Err.stop _ _ (λ w long. inl long) c.in-Err.ensures.stop

pub conclude-requires : goal.conclude-requires
conclude-requires g c =
    let start = c.in_ok-follower.ensures.bound in
    let read = c.in-Ok.ensures.whole c.args.bound (start, omega (arith, start, c.requires), omega (arith, start, c.requires), c.in_ok-follower.ensures.read c.args.model.now) in
    (c.args.model.now, read.text, read.followed.3)

pub returns-in-Err-conclude-clause-stop : goal.returns-in-Err-conclude-clause-stop
returns-in-Err-conclude-clause-stop g c =
    let f = c.read_to_end.new.follower in
    let model = c.args.model.now in
    let start = c.in_ok-follower.ensures.bound in
    let read = c.in-Ok.ensures.whole c.args.bound (start, omega (arith, start, c.requires), omega (arith, start, c.requires), c.in_ok-follower.ensures.read model) in
    let Followed : List ℕ → Type 0 = λ w. (f.bound ≡ c.args.bound) × (1 ≤ f.bound) × (f.bound < 2 ^ 16) × IsAt IsTracesRefusal f.refused (λ t. AreOpen f.reader (HasBegun {W = g.row.W.Denot} (λ w v rs. g.W.Watches.watched w model f.bound v rs) f.watches) t) w in
    text_refused IsTracesRefusal (g.S.Store.files c.args.store.now) c.args.traces.now Followed c.in-Err-conclude.stop _ _ read (λ w followed. c.in-Err-conclude.ensures.stop model w followed.3)

pub findings_of-requires : goal.findings_of-requires
findings_of-requires g c =
    let start = c.in_ok-follower.ensures.bound in
    let read = c.in-Ok.ensures.whole c.args.bound (start, omega (arith, start, c.requires), omega (arith, start, c.requires), c.in_ok-follower.ensures.read c.args.model.now) in
    let at = c.in-Ok-conclude.ensures.watched c.args.model.now read.text read.followed.3 in
    (c.args.model.now, c.read_to_end.new.follower.bound, at.0, at.1, at.3, within_recorded read.text at.0 at.1 at.2)

pub returns-clause-told : goal.returns-clause-told
returns-clause-told g c =
    let f = c.read_to_end.new.follower in
    let model = c.args.model.now in
    let bound = c.args.bound in
    let start = c.in_ok-follower.ensures.bound in
    let read = c.in-Ok.ensures.whole bound (start, omega (arith, start, c.requires), omega (arith, start, c.requires), c.in_ok-follower.ensures.read model) in
    let Followed : List ℕ → Type 0 = λ w. (f.bound ≡ bound) × (1 ≤ f.bound) × (f.bound < 2 ^ 16) × IsAt IsTracesRefusal f.refused (λ t. AreOpen f.reader (HasBegun {W = g.row.W.Denot} (λ w v rs. g.W.Watches.watched w model f.bound v rs) f.watches) t) w in
    let Tells : TracesVersion → List Record → Type 0 = λ version records. AreAllWatched g.W.Watches.monitors model bound version records c.in_ok-finished.finished.status c.in_ok-finished.finished.text.items in
    traces_told (g.S.Store.files c.args.store.now) c.args.traces.now Followed Tells read
    (λ w followed.
    let at = c.in-Ok-conclude.ensures.watched model w followed.3 in
    let found = c.in_ok-findings.ensures model f.bound at.0 at.1 at.3 in
    (at.0, at.1, at.2, subst (λ (k : ℕ). AreAllWatched g.W.Watches.monitors model k at.0 at.1 c.in_ok-finished.finished.status c.in_ok-finished.finished.text.items) followed.0 (all_watched g.W.Watches.monitors model f.bound at.0 at.1 c.in_ok-findings.findings c.in_ok-finished.finished.status c.in_ok-finished.finished.text.items found c.in_ok-finished.ensures.status c.in_ok-finished.ensures.text)))
