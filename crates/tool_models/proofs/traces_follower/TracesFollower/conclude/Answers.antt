use Rattle.std.proofs.Common.{ℕ, List, Option, subst}
use Rattle.flow_model.specs.Graph.{Graph}
use Rattle.trace_file.specs.declared.record.Record.{Record}
use Rattle.trace_file.specs.declared.version.TracesVersion.{TracesVersion}
use Rattle.trace_file.specs.Traces.{IsTracesRefusal}
use Rattle.trace_file.specs.TracesReading.{traces_version}
use Rattle.tool_models.specs.Following.{AreOpen, HasBegun}
use Rattle.tool_models.proofs.FollowingLemmas.{ended, ended_begun}
use Rattle.tool_files.proofs.ReadingLemmas.{at_open, at_shut, shut_here, stops_text}
use Rattle.tool_models.proofs.traces_follower.TracesFollower.conclude.Goals as goal

pub returns-in-Some-clause-stop : goal.returns-in-Some-clause-stop
returns-in-Some-clause-stop g c = λ g' text at short.
    let me = c.args.self in
    let Open : List ℕ → Type 0 = λ t. AreOpen me.reader (HasBegun {W = g.row.W.Denot} (λ w v rs. g.W.Watches.watched w g' me.bound v rs) me.watches) t in
    stops_text IsTracesRefusal c.refused_with.result c.in-Some.error text c.refused_with.ensures (shut_here IsTracesRefusal c.in-Some.error text (at_shut IsTracesRefusal me.refused c.in-Some.error Open text c.in-Some.is at) short)

pub unreachable-requires : goal.unreachable-requires
unreachable-requires g c =
    let me = c.args.self in
    let (g', text, at) = c.requires in
    let R : g.row.W.Denot → TracesVersion → List Record → Type 0 = λ w v rs. g.W.Watches.watched w g' me.bound v rs in
    let Open : List ℕ → Type 0 = λ t. AreOpen me.reader (HasBegun {W = g.row.W.Denot} R me.watches) t in
    let o = at_open IsTracesRefusal me.refused Open text c.in-None.is at in
    ended_begun R me.watches (traces_version me.reader) text o.records c.in-None-watches.is o.followed (c.in-Ok.ensures.within text o.records o.stand)

pub returns-in-Some-watches-clause-watched : goal.returns-in-Some-watches-clause-watched
returns-in-Some-watches-clause-watched g c = λ g' text at.
    let me = c.args.self in
    let R : g.row.W.Denot → TracesVersion → List Record → Type 0 = λ w v rs. g.W.Watches.watched w g' me.bound v rs in
    let Open : List ℕ → Type 0 = λ t. AreOpen me.reader (HasBegun {W = g.row.W.Denot} R me.watches) t in
    let o = at_open IsTracesRefusal me.refused Open text c.in-None.is at in
    ended R c.in-Some-watches.watches (traces_version me.reader) text o.records
    (subst (λ (x : Option g.row.W.Denot). HasBegun {W = g.row.W.Denot} R x (traces_version me.reader) o.records) c.in-Some-watches.is o.followed)
    (c.in-Ok.ensures.within text o.records o.stand)

pub returns-in-Err-clause-stop : goal.returns-in-Err-clause-stop
returns-in-Err-clause-stop g c = λ g' text at short.
    let me = c.args.self in
    let Open : List ℕ → Type 0 = λ t. AreOpen me.reader (HasBegun {W = g.row.W.Denot} (λ w v rs. g.W.Watches.watched w g' me.bound v rs) me.watches) t in
    let o = at_open IsTracesRefusal me.refused Open text c.in-None.is at in
    stops_text IsTracesRefusal c.refused_with-in-Err.result c.in-Err.error text c.refused_with-in-Err.ensures (c.in-Err.ensures.refused text o.records o.stand)
