use Rattle.std.proofs.Common.{get_or, refl}
use Rattle.flow_graph.specs.Places.{place_at}
use Rattle.flow_graph.proofs.TakenLemmas.{places_more, places_end}
use Rattle.flow_graph.proofs.places.places_of.Goals as goal

pub loop-f-preserved : goal.loop-f-preserved
loop-f-preserved c =
    places_more (place_at c.args.defined c.args.taken.now) c.args.functions.now c.loop-f.f-index (get_or c.args.functions.now c.loop-f.f-index 0) c.place_of.result c.loop-f.places.items c.push.new.self.items c.loop-f-test.true refl c.loop-f.invariant c.place_of.ensures c.in_ok-push.ensures.items

pub returns : goal.returns
returns c = places_end (place_at c.args.defined c.args.taken.now) c.args.functions.now c.loop-f.f-index c.loop-f.places.items c.loop-f-test.false c.loop-f.invariant
