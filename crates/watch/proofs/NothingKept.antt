-- Lemmas that several crates above use.
use Rattle.std.proofs.Common.{[], arith, refl, ℕ, ◌≡◌}
use Rattle.dm_base.specs.Trace.{depth}
use Rattle.flow_model.specs.Graph.{Graph, HasFunction}
use Rattle.flow_model.specs.Language.DyckRun.{over as dyck_over}
use Rattle.flow_model.specs.Language.StackRun.{over as stack_over}
use Rattle.flow_model.specs.Language.Walk.{over as walk_over}
use Rattle.flow_model.specs.Verdict.{IsKept}
use Rattle.flow_model.specs.declared.which.Which.{Which}
use Rattle.flow_model.specs.declared.which.Which.TheVariants.{Callgraph, Dyck, Stack}

pub nothing_kept : (which : Which) (g : Graph) (bound entry exit : ℕ) → HasFunction g g.start entry exit → IsKept which g bound []
nothing_kept Callgraph g bound entry exit begins = (entry, exit, entry, begins, walk_over)
nothing_kept Stack g bound entry exit begins = (entry, exit, entry, [], begins, stack_over)
nothing_kept Dyck g bound entry exit begins = ((entry, exit, entry, [], begins, dyck_over), let none : depth [] ≡ 0 = refl in omega (arith, none))
