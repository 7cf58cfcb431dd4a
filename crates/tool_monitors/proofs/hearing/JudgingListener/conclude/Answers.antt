use Rattle.tool_monitors.proofs.hearing.JudgingListener.conclude.Goals as goal

pub finish-requires : goal.finish-requires
finish-requires g c =
    let given = c.requires in
    (c.args.model.now, given.0, given.1, c.in_ok-count.ensures.same given.0 given.1 given.2)

pub returns-clause-judged : goal.returns-clause-judged
returns-clause-judged g c = λ k h heard. c.in_ok-told.ensures c.args.model.now k h (c.in_ok-count.ensures.same k h heard)
