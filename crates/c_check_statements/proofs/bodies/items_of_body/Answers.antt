use Rattle.std.proofs.Common.{sym}
use Rattle.c_check_statements.proofs.bodies.items_of_body.Goals as goal

pub returns-clause-kept : goal.returns-clause-kept
returns-clause-kept c =
    c.leave_names.ensures c.args.env.now c.in_ok-laid.ensures.kept (sym c.len-count.ensures)
