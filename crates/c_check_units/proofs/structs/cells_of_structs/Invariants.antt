use Rattle.c_rules.specs.Scopes.{layout_of}
use Rattle.c_check_values.specs.View.{env_of}
use Rattle.c_check_units.proofs.StructLemmas.{HaveCells}
use Rattle.c_check_units.proofs.structs.cells_of_structs.Given as goal

abbrev pub invariant-loop-s : goal.invariant-loop-s
invariant-loop-s l = HaveCells (layout_of (env_of l.env)) l.s l.counts.items
