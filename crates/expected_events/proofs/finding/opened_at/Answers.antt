use Rattle.std.proofs.Common.{[]}
use Rattle.dm_base.proofs.AddingLemmas.{adds_step, adds_end, are_all}
use Rattle.expected_events.specs.Marked.{IsOpenedBy}
use Rattle.expected_events.proofs.RisingLemmas.{adds_start, rise_none, sites_below}
use Rattle.expected_events.proofs.finding.opened_at.Goals as goal

pub loop-call-init : goal.loop-call-init
loop-call-init c = record {
  added = adds_start c.new-sites.result.items (λ d s. IsOpenedBy c.args.at.now s d) c.new-sites.ensures.items;
  rise = rise_none c.new-sites.result.items c.new-sites.ensures.items;
}

pub loop-call-preserved : goal.loop-call-preserved
loop-call-preserved c = record {
  added = adds_step [] c.loop-call.sites.items c.push_opened.new.sites.items (λ d s. IsOpenedBy c.args.at.now s d) c.args.calls.now c.loop-call.call-index c.call-item.result c.loop-call-test.true c.call-item.is c.loop-call.invariant.added c.in_ok-push_opened.ensures.added;
  rise = c.in_ok-push_opened.ensures.rise (sites_below c.args.at.now c.args.calls.now c.loop-call.sites.items c.loop-call.call-index c.call-item.result c.requires c.loop-call-test.true c.call-item.is c.loop-call.invariant.added) c.loop-call.invariant.rise;
}

pub returns-clause-exact : goal.returns-clause-exact
returns-clause-exact c =
    are_all c.loop-call.sites.items _ (adds_end [] c.loop-call.sites.items (λ d s. IsOpenedBy c.args.at.now s d) c.args.calls.now c.loop-call.call-index c.loop-call-test.false c.loop-call.invariant.added)
