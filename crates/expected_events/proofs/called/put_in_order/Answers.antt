use Rattle.expected_events.proofs.CalledLemmas.{ordered_rise, ordered_only, ordered_all}
use Rattle.expected_events.proofs.called.put_in_order.Goals as goal

pub returns-clause-rise : goal.returns-clause-rise
returns-clause-rise g c =
    ordered_rise g.met.T.Ord.total g.met.T.Ord.matches_eq g.met.T.Eq.laws c.args.items.now.items c.sort_unstable.new.self.items c.dedup.new.self.items c.sort_unstable.ensures.permutation c.dedup.ensures.filtered c.sort_unstable.ensures.sorted

pub returns-clause-only : goal.returns-clause-only
returns-clause-only g c =
    ordered_only g.met.T.Ord.total g.met.T.Ord.matches_eq g.met.T.Eq.laws c.args.items.now.items c.sort_unstable.new.self.items c.dedup.new.self.items c.sort_unstable.ensures.permutation c.dedup.ensures.filtered

pub returns-clause-all : goal.returns-clause-all
returns-clause-all g c =
    ordered_all g.met.T.Ord.total g.met.T.Ord.matches_eq g.met.T.Eq.laws c.args.items.now.items c.sort_unstable.new.self.items c.dedup.new.self.items c.sort_unstable.ensures.permutation c.dedup.ensures.filtered
