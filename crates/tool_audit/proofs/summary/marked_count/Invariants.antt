use Rattle.std.proofs.Common.{◌≡◌, ◌≤◌, length, filter}
use Rattle.std.specs.List.{range_with_len}
use Rattle.c_meaning.specs.CallGraph.{marked}
use Rattle.c_tree.specs.View.{program_of}
use Rattle.tool_audit.proofs.summary.marked_count.Given as goal

abbrev pub invariant-loop-site : goal.invariant-loop-site
invariant-loop-site l = record { count : l.count ≡ length (filter (marked (program_of l.program)) (range_with_len 0 l.site)); few : l.count ≤ l.site }
