use Rattle.std.proofs.Common.{length, ap, arith, rules}
use Rattle.c_check_initialisers.proofs.StoreLemmas.{store_first, store_on, store_end, store_pushed}
use Rattle.c_check_initialisers.proofs.stores.stores_of.Goals as goal
use Rattle.c_check_initialisers.specs.CellView.{typed_expressions_of}
use Rattle.c_rules.specs.Initialisers.{stores_from}

pub loop-g-init : goal.loop-g-init
loop-g-init c = record {
  counted = omega (arith, c.into_iter-g-iterator.ensures.into_iter_gives.1, ap length c.into_iter-g-iterator.ensures.into_iter_gives.0);
  fits = omega (arith, ap length c.new-stores.ensures.items, ap length c.into_iter-g-iterator.ensures.into_iter_gives.0);
  told = store_first c.new-stores.result.items c.into_iter-g-iterator.result.rest.items c.args.cells.items c.new-stores.ensures.items c.into_iter-g-iterator.ensures.into_iter_gives.0;
}

pub loop-g-preserved : goal.loop-g-preserved
loop-g-preserved c = record {
  counted = omega (arith, c.loop-g.invariant.counted, ap length c.in-Some.ensures.steps.0, c.in-Some.ensures.steps.1);
  fits = omega (arith, c.loop-g.invariant.fits, ap length c.in-Some.ensures.steps.0, store_pushed c.loop-g.stores.items c.push.new.self.items c.in_ok-store.store (search rules));
  told = store_on (stores_from 0 (typed_expressions_of c.args.cells.items)) c.loop-g.stores.items c.push.new.self.items c.in_ok-store.store c.loop-g.g-iterator.rest.items c.next.new.self.rest.items c.in-Some.g c.in-Some.ensures.steps.0 (search rules) c.loop-g.invariant.told
      (omega (arith, c.in_ok-store.ensures.0, c.len.ensures)) c.in_ok-store.ensures.1;
}

pub returns : goal.returns
returns c =
    store_end (stores_from 0 (typed_expressions_of c.args.cells.items)) c.loop-g.stores.items c.loop-g.g-iterator.rest.items (omega (arith, c.loop-g.invariant.counted, c.in-None.ensures.steps.0)) c.loop-g.invariant.told
