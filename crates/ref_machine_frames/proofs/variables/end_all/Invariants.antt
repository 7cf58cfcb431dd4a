use Rattle.std.proofs.Common.{◌≡◌, drop}
use Rattle.c_tree.specs.View.{stmts_of}
use Rattle.c_values.specs.Seen.{seen}
use Rattle.c_meaning.specs.Meaning.{declared_in, without}
use Rattle.ref_machine_frames.proofs.variables.end_all.Given as goal

abbrev pub invariant-loop-statement : goal.invariant-loop-statement
invariant-loop-statement l =
    without l.activation (declared_in (stmts_of (drop l.statement-index l.statements))) (seen l.memory) ≡ without l.activation (declared_in (stmts_of l.statements)) (seen l.initial.memory)
