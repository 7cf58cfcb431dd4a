use Rattle.std.proofs.Common.{◌≡◌, ◌+◌, List, ◌++◌, take, sym, subst, append-nil, arith, length-append}
use Rattle.std.proofs.lemmas.List.{take_all, length-take}
use Rattle.trace_file.specs.declared.record.Record.{Record}
use Rattle.tool_models.proofs.FollowingLemmas.{next_known, taken_more}
use Rattle.tool_models.proofs.traces_follower.take_records.Goals as goal

pub loop-one-init : goal.loop-one-init
loop-one-init g c = λ graph k version before watched. subst (λ (t : List Record). g.W.Watches.watched c.args.watches.now graph k version t) (sym (append-nil before)) watched

pub take-requires : goal.take-requires
take-requires g c =
    let (graph, k, version, before, watched, few, known) = c.requires in (
      graph,
      k,
      version,
      before ++ take c.loop-one.one-index c.args.records.now,
      c.loop-one.invariant graph k version before watched,
      omega (arith, few, c.loop-one-test.true, length-append before c.args.records.now, length-append before (take c.loop-one.one-index c.args.records.now), length-take c.loop-one.one-index c.args.records.now),
      next_known version before c.args.records.now c.loop-one.one-index c.one-item.result c.loop-one-test.true c.one-item.is known,
    )

pub loop-one-preserved : goal.loop-one-preserved
loop-one-preserved g c = λ graph k version before watched.
    taken_more (λ (t : List Record). g.W.Watches.watched c.take.new.self graph k version t) before c.args.records.now c.loop-one.one-index c.one-item.result c.loop-one-test.true c.one-item.is
    (c.in_ok-take.ensures graph k version (before ++ take c.loop-one.one-index c.args.records.now) (c.loop-one.invariant graph k version before watched))

pub returns : goal.returns
returns g c = λ graph k version before watched.
    let whole : take c.loop-one.one-index c.args.records.now ≡ c.args.records.now = take_all c.loop-one.one-index c.args.records.now (omega arith) in
    subst (λ (t : List Record). g.W.Watches.watched c.loop-one.watches graph k version (before ++ t)) whole (c.loop-one.invariant graph k version before watched)
