use Rattle.std.proofs.Common.{◌-◌, ℕ, None, length}
use Rattle.model_file.specs.declared.lines.Section.TheVariants.{Silent}
use Rattle.model_file.specs.Progress.{IsPlace, IsAt}
use Rattle.model_file.specs.States.{Fixed, AtEdges, IsLast}
use Rattle.model_file.proofs.draft.read_edges.Given as goal

abbrev pub invariant-loop-found : goal.invariant-loop-found
invariant-loop-found l = record {
  place : IsPlace l.text l.place;
  last : IsLast l.section l.builder;
  told : (n : ℕ) → IsAt (Fixed l.version (AtEdges l.version l.fn.builder n (Silent None))) l.text l.fn.place → IsAt (Fixed l.version (AtEdges l.version l.builder n l.section)) l.text l.place;
}

abbrev pub decreases-loop-found : goal.decreases-loop-found
decreases-loop-found l = length l.text - l.place.byte
