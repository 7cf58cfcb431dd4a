use Rattle.tool_models.proofs.MeasureLemmas.{one_measured}
use Rattle.tool_models.proofs.metering.MeteringPanel.finish.Goals as goal

pub returns : goal.returns
returns g c = λ g' k h come.
    one_measured g.M.Monitor.WHICH c.figures-precision.result g' h c.in_ok-finished.finished.status c.in_ok-finished.finished.text.items (c.figures-precision.ensures g' h come) c.in_ok-finished.ensures.status (rw c.WHICH.ensures at c.in_ok-finished.ensures.text)
