use Rattle.ref_machine_frames.proofs.Beginnings.{default_selected}
use Rattle.ref_machine_frames.proofs.switches.selected.Goals as goal

pub returns-in-None : goal.returns-in-None
returns-in-None c = default_selected c.args.v c.args.all.now c.default_or_end.result c.in-None.ensures c.default_or_end.ensures
