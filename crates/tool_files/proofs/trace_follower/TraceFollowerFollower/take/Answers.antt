use Rattle.std.proofs.Common.{List, ℕ}
use Rattle.trace_file.specs.Trace.{IsTraceRefusal}
use Rattle.tool_files.specs.Reading.{IsOpen}
use Rattle.tool_files.proofs.ReadingLemmas.{at_open}
use Rattle.tool_files.proofs.trace_follower.TraceFollowerFollower.take.Goals as goal

pub returns : goal.returns
returns g c = λ k text at short.
    let me = c.args.self.now in
    let Open : List ℕ → Type 0 = λ t. IsOpen me.reader (λ h. g.P.Panel.judged me.panel c.args.model.now k h) t in
    c.in_ok-refused.ensures k text (at_open IsTraceRefusal me.refused Open text c.in-None.is at)
