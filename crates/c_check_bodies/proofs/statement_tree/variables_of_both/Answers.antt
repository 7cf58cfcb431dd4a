use Rattle.c_check_bodies.proofs.LaidLemmas.{declared_as}
use Rattle.c_check_bodies.proofs.statement_tree.variables_of_both.Goals as goal

pub returns : goal.returns
returns c =
    declared_as c.in_ok-plain.plain.items c.in_ok-added.added.items c.args.first.plain.items c.args.second.plain.items c.args.first.added.items c.args.second.added.items c.in_ok-plain.ensures c.in_ok-added.ensures
