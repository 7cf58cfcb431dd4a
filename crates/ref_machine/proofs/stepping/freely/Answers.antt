use Rattle.std.proofs.Common.{◌∙◌}
use Rattle.ref_machine.proofs.stepping.freely.Goals as goal

pub steps-preserved : goal.steps-preserved
steps-preserved c entries turns n records taken le =
    c.in_ok-next.ensures.same entries turns n records taken le ∙ c.steps.invariant entries turns n records taken le

pub steps-smaller : goal.steps-smaller
steps-smaller c = c.in_ok-next.ensures.less (c.is_free.ensures.0 c.steps-test.true)
