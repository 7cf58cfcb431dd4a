use Rattle.std.proofs.Common.{◌≡◌, ◌++◌, take}
use Rattle.std.specs.Prelude.{flat_map}
use Rattle.c_tree.specs.View.{stmt_of, stmts_of}
use Rattle.c_meaning.specs.Mentions.{mentions_of_stmt, mentions_of_stmts}
use Rattle.flow_graph.specs.Saying.{said}
use Rattle.flow_graph.proofs.saying.+statements.Given as goal

abbrev pub invariant-add_statements-loop-s : goal.invariant-add_statements-loop-s
invariant-add_statements-loop-s l = said l.into.items ≡ said l.fn.into.items ++ flat_map (λ s. mentions_of_stmt (stmt_of s)) (take l.s-index l.ss)

abbrev pub invariant-add_groups-loop-group : goal.invariant-add_groups-loop-group
invariant-add_groups-loop-group l = said l.into.items ≡ said l.fn.into.items ++ flat_map (λ g. mentions_of_stmts (stmts_of g.body.items)) (take l.group-index l.groups)
