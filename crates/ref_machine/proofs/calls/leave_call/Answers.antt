use Rattle.std.proofs.Common.{ap, ◌∙◌}
use Rattle.c_values.specs.Seen.{seen}
use Rattle.c_meaning.specs.Results.{with_memory, then_do}
use Rattle.c_meaning.specs.Runs.{result_of}
use Rattle.ref_machine_frames.specs.Frames.{exit_in, place_of, stack, after_value}
use Rattle.ref_machine.proofs.calls.leave_call.Goals as goal

pub returns-clause-same : goal.returns-clause-same
returns-clause-same c p w todo st =
    c.value_of.ensures.same p (seen c.end_parameters.new.memory) w (place_of c.args.call.caller) (stack todo) st
    ∙ ap (λ m. then_do (result_of c.args.call.is_main c.args.call.wanted (exit_in c.args.by) (with_memory st m)) (after_value p w (place_of c.args.call.caller) (stack todo))) c.end_parameters.ensures
