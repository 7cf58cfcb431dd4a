use Rattle.tool_files.proofs.following.follow_by.Goals as goal

pub finish-requires : goal.finish-requires
finish-requires g c =
    let followed = c.in-Ok.ensures.followed in
    (c.args.model.now, c.args.bound, followed.events, followed.judged)

pub returns-clause-told : goal.returns-clause-told
returns-clause-told g c =
    let followed = c.in-Ok.ensures.followed in
    record { events = followed.events; is = followed.is; told = c.in_ok-finished.ensures c.args.model.now c.args.bound followed.events followed.judged }
