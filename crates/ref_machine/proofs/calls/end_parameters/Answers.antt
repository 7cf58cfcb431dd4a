use Rattle.c_values.specs.Seen.{seen}
use Rattle.ref_machine.proofs.Turning.{parameter_ended, parameters_ended}
use Rattle.ref_machine.proofs.calls.end_parameters.Goals as goal

pub loop-variable-preserved : goal.loop-variable-preserved
loop-variable-preserved c =
    parameter_ended c.args.activation c.loop-variable.variable c.args.count _ (seen c.loop-variable.memory) (seen c.end.new.self) c.loop-variable-test.true c.loop-variable.invariant c.end.ensures

pub returns : goal.returns
returns c =
    parameters_ended c.args.activation c.loop-variable.variable c.args.count _ (seen c.loop-variable.memory) c.loop-variable-test.false c.loop-variable.invariant
