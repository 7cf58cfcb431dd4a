use Rattle.tool_models.proofs.MeasureLemmas.{all_measured_of_file}
use Rattle.tool_models.proofs.measure_command.measure_asked.Goals as goal

pub returns-in-All-clause-measured : goal.returns-in-All-clause-measured
returns-in-All-clause-measured g c =
    rw c.in-All.is (all_measured_of_file c.follow_by-in-All.result (g.S.Store.files c.args.store.now) c.args.trace.now c.args.model.now c.follow_by-in-All.ensures.told)
