use Rattle.std.proofs.Common.{◌≡◌, drop}
use Rattle.std.specs.List.{list_any}
use Rattle.c_meaning.specs.Meaning.{is_case}
use Rattle.ref_machine_frames.proofs.switches.has_case.Given as goal

abbrev pub invariant-loop-label : goal.invariant-loop-label
invariant-loop-label l = list_any (is_case l.v) (drop l.label-index l.labels) ≡ list_any (is_case l.v) l.labels
