use Rattle.c_check_counts.specs.Bound.{bound}
use Rattle.c_check_counts.specs.Meaning.TheVariants.{Local}
use Rattle.c_check_expressions.proofs.Parameters.{declared_one}
use Rattle.c_check_expressions.proofs.forms.declare_variable.Goals as goal

pub returns-clause-kept : goal.returns-clause-kept
returns-clause-kept c =
    declared_one c.declare.result c.args.env.now c.declare.new.self (bound c.as_slice.result.now c.in_ok-depth.depth (Local c.args.number c.in_ok-seen.seen c.in_ok-whole.whole)) c.declare.ensures
