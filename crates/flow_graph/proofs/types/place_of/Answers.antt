use Rattle.std.proofs.Common.{sym, ◌∙◌}
use Rattle.std.proofs.lemmas.Bool.{false≢true}
use Rattle.c_tree.specs.View.{ctype_of}
use Rattle.flow_graph.proofs.TypesLemmas.{place_here, place_more}
use Rattle.flow_graph.proofs.types.place_of.Goals as goal

pub returns-then-is_same : goal.returns-then-is_same
returns-then-is_same c = place_here (ctype_of c.args.t.now) c.args.types.now c.loop-k.k c.index-types-k.result c.loop-k-test.true c.index-types-k.is (c.is_same.ensures.0 c.if-is_same.true) c.loop-k.invariant

pub loop-k-preserved : goal.loop-k-preserved
loop-k-preserved c = place_more (ctype_of c.args.t.now) c.args.types.now c.loop-k.k c.index-types-k.result c.loop-k-test.true c.index-types-k.is (λ e. false≢true (sym c.if-is_same.false ∙ c.is_same.ensures.1 e)) c.loop-k.invariant
