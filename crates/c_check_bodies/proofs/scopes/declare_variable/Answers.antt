use Rattle.c_check_bodies.proofs.ScopeLemmas.{declared_one}
use Rattle.c_check_bodies.proofs.scopes.declare_variable.Goals as goal
use Rattle.c_check_counts.specs.Bound.{bound}
use Rattle.c_check_counts.specs.Meaning.TheVariants.{Local}

pub returns-clause-kept : goal.returns-clause-kept
returns-clause-kept c =
    declared_one c.declare.result c.args.env.now c.declare.new.self (bound c.args.name.now c.in_ok-depth.depth (Local c.args.number c.in_ok-seen.seen c.in_ok-whole.whole)) c.declare.ensures
