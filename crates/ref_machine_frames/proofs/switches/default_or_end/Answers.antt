use Rattle.ref_machine_frames.proofs.Beginnings.{none_selected}
use Rattle.ref_machine_frames.proofs.switches.default_or_end.Goals as goal

pub returns-in-None : goal.returns-in-None
returns-in-None c = none_selected c.args.all.now c.in-None.ensures
