use Rattle.std.proofs.Common.{ℕ, List}
use Rattle.trace_file.specs.Trace.{IsTraceRefusal}
use Rattle.tool_files.specs.Reading.{IsOpen}
use Rattle.tool_files.proofs.ReadingLemmas.{at_open, at_shut, shut_here, stops_text}
use Rattle.tool_files.proofs.trace_follower.TraceFollower.conclude.Goals as goal

pub returns-in-Some-clause-stop : goal.returns-in-Some-clause-stop
returns-in-Some-clause-stop g c = λ g' k text at short.
    let me = c.args.self in
    let Open : List ℕ → Type 0 = λ t. IsOpen me.reader (λ h. g.P.Panel.judged me.panel g' k h) t in
    stops_text IsTraceRefusal c.refused_with.result c.in-Some.error text c.refused_with.ensures (shut_here IsTraceRefusal c.in-Some.error text (at_shut IsTraceRefusal me.refused c.in-Some.error Open text c.in-Some.is at) short)

pub returns-in-Ok-clause-judged : goal.returns-in-Ok-clause-judged
returns-in-Ok-clause-judged g c = λ g' k text at.
    let me = c.args.self in
    let Open : List ℕ → Type 0 = λ t. IsOpen me.reader (λ h. g.P.Panel.judged me.panel g' k h) t in
    let o = at_open IsTraceRefusal me.refused Open text c.in-None.is at in
    (o.events, c.in-Ok.field-0, c.in-Ok.ensures.within text o.events o.stands, o.judged)

pub returns-in-Err-clause-stop : goal.returns-in-Err-clause-stop
returns-in-Err-clause-stop g c = λ g' k text at short.
    let me = c.args.self in
    let Open : List ℕ → Type 0 = λ t. IsOpen me.reader (λ h. g.P.Panel.judged me.panel g' k h) t in
    let o = at_open IsTraceRefusal me.refused Open text c.in-None.is at in
    stops_text IsTraceRefusal c.refused_with-in-Err.result c.in-Err.error text c.refused_with-in-Err.ensures (c.in-Err.ensures.refused text o.events o.stands)
