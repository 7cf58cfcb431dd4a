use Rattle.std.proofs.Common.{ℕ, List, inl}
use Rattle.trace_file.specs.Trace.{IsTraceRefusal}
use Rattle.tool_files.specs.Reading.{IsAt, IsOpen}
use Rattle.tool_files.proofs.ReadingLemmas.{trace_followed, text_refused, reading_refused}
use Rattle.tool_files.proofs.following.follow.Goals as goal

pub read_to_end-requires : goal.read_to_end-requires
read_to_end-requires g c = (c.args.bound, c.in_ok-follower.ensures)

pub returns-in-Err-clause-stop : goal.returns-in-Err-clause-stop
returns-in-Err-clause-stop g c = reading_refused IsTraceRefusal (g.S.Store.files c.args.store.now) c.args.trace.now c.in-Err.stop _ _ (λ w long. inl long) c.in-Err.ensures.stop

pub returns-in-Err-conclude-clause-stop : goal.returns-in-Err-conclude-clause-stop
returns-in-Err-conclude-clause-stop g c =
    let f = c.read_to_end.new.follower in
    let model = c.args.model.now in
    let bound = c.args.bound in
    let Followed : List ℕ → Type 0 = λ w. IsAt IsTraceRefusal f.refused (λ t. IsOpen f.reader (λ h. g.P.Panel.judged f.panel model bound h) t) w in
    text_refused IsTraceRefusal (g.S.Store.files c.args.store.now) c.args.trace.now Followed c.in-Err-conclude.stop _ _ (c.in-Ok.ensures.whole bound c.in_ok-follower.ensures) (c.in-Err-conclude.ensures.stop model bound)

pub returns-in-Ok-conclude-clause-followed : goal.returns-in-Ok-conclude-clause-followed
returns-in-Ok-conclude-clause-followed g c =
    let f = c.read_to_end.new.follower in
    let model = c.args.model.now in
    let bound = c.args.bound in
    let Followed : List ℕ → Type 0 = λ w. IsAt IsTraceRefusal f.refused (λ t. IsOpen f.reader (λ h. g.P.Panel.judged f.panel model bound h) t) w in
    trace_followed (g.S.Store.files c.args.store.now) c.args.trace.now Followed (λ events. g.P.Panel.judged c.in-Ok-conclude.panel model bound events)
    (c.in-Ok.ensures.whole bound c.in_ok-follower.ensures)
    (λ w followed. c.in-Ok-conclude.ensures.judged model bound w followed)
