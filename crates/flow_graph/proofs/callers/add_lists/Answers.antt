use Rattle.std.proofs.Common.{length, sym, ◌∙◌, ap, refl, arith, Some}
use Rattle.std.proofs.lemmas.Option.{slice_get-get_or}
use Rattle.flow_graph.specs.Types.{items_of}
use Rattle.flow_graph.proofs.CallersLemmas.{list_none, lists_more, list_end, lists_long}
use Rattle.flow_graph.proofs.callers.add_lists.Goals as goal

pub loop-k-init : goal.loop-k-init
loop-k-init c = record {
  many = refl;
  added = list_none (length c.args.callers.now.items) c.args.count (items_of c.args.lists.now) c.args.callers.now.items;
}

pub loop-k-preserved : goal.loop-k-preserved
loop-k-preserved c = record {
  many = c.in_ok-add_candidates.ensures.length ∙ c.loop-k.invariant.many;
  added = lists_more (length c.args.callers.now.items) (length c.loop-k.callers.items) c.args.count c.args.lists.now c.loop-k.k c.index-lists-k.result c.deref.result.now c.args.callers.now.items c.loop-k.callers.items c.add_candidates.new.callers.items
      (slice_get-get_or c.args.lists.now c.loop-k.k c.index-lists-k.result c.loop-k-test.true ∙ ap Some (sym c.index-lists-k.is)) c.deref.ensures.value c.loop-k.invariant.many c.loop-k.invariant.added c.in_ok-add_candidates.ensures.added;
}

pub returns-clause-added : goal.returns-clause-added
returns-clause-added c = let many = lists_long c.args.lists.now in list_end (length c.args.callers.now.items) c.args.count c.loop-k.k (items_of c.args.lists.now) c.args.callers.now.items c.loop-k.callers.items (omega (arith, many, c.loop-k-test.false, c.loop-k.auto.k-end)) c.loop-k.invariant.added
