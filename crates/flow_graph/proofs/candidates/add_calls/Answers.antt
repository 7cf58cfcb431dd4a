use Rattle.std.proofs.Common.{◌∙◌, ◌∷◌, [], ap, map, get_or, refl}
use Rattle.c_tree.specs.View.{program_of}
use Rattle.c_meaning.specs.ShapeOf.{candidate_places}
use Rattle.flow_model.specs.Call.{Call}
use Rattle.flow_graph.specs.declared.sites.SiteEdge.{SiteEdge}
use Rattle.flow_graph.specs.Places.{call_of}
use Rattle.flow_graph.proofs.RecordLemmas.{with_calls, calls_more, calls_end}
use Rattle.flow_graph.proofs.candidates.add_calls.Goals as goal

pub loop-i-preserved : goal.loop-i-preserved
loop-i-preserved c =
    let f = call_of (candidate_places (program_of c.args.program.now)) in
    let d : SiteEdge = record { site = 0; from = 0; to = 0 } in
    let e : SiteEdge = get_or c.args.edges.now c.loop-i.i d in
    let one = c.new.ensures ∙ ap (λ cs. record { from = e.from; site = e.site; to = e.to; candidates = cs }) c.in_ok-found.ensures in
    calls_more f c.args.edges.now c.loop-i.i d e c.loop-i.builder c.call.new.self (with_calls c.args.builder.now (map f c.args.edges.now)) c.loop-i-test.true refl c.loop-i.invariant
    (c.in_ok-call.ensures.ok ∙ ap (λ (r : Call). with_calls c.loop-i.builder (r ∷ [])) one)

pub returns : goal.returns
returns c =
    let f = call_of (candidate_places (program_of c.args.program.now)) in
    calls_end f c.args.edges.now c.loop-i.i c.loop-i.builder (with_calls c.args.builder.now (map f c.args.edges.now)) c.loop-i-test.false c.loop-i.invariant
