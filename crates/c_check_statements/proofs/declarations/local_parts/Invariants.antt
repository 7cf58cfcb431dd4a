use Rattle.std.proofs.Common.{◌≡◌, drop}
use Rattle.c_check_bodies.specs.Numbered.{HaveNumbers, next_of}
use Rattle.c_check_bodies.specs.StatementTreeView.{statement_trees_of}
use Rattle.c_check_bodies.specs.Scoped.{Declares}
use Rattle.c_rules.specs.Blocks.{behind_parts, held_by_parts, local_parts}
use Rattle.c_rules.specs.Counts.{past}
use Rattle.c_rules.specs.Variables.{calls_of_parts, names_of_parts, past_names}
use Rattle.c_check_scopes.specs.View.{before_of, env_of}
use Rattle.c_check_statements.proofs.StatementLemmas.{onto_laid}
use Rattle.c_check_statements.proofs.declarations.local_parts.Given as goal
use Rattle.c_syntax.specs.UnitView.{parts_of}
use Rattle.c_syntax.specs.View.{spec_of}

abbrev pub invariant-loop-part : goal.invariant-loop-part
invariant-loop-part l = record {
  judged : local_parts (env_of l.fn.env) (before_of l.fn.before) (next_of l.fn.next) l.at (spec_of l.spec) (parts_of l.parts)
      ≡ onto_laid (statement_trees_of l.laid) (local_parts (env_of l.env) (before_of l.before) (next_of l.next) l.at (spec_of l.spec) (parts_of (drop l.part-index l.parts)));
  counted : past (before_of l.fn.before) (calls_of_parts (parts_of l.parts)) (held_by_parts (env_of l.fn.env) (next_of l.fn.next) l.at (spec_of l.spec) (parts_of l.parts))
      ≡ past (before_of l.before) (calls_of_parts (parts_of (drop l.part-index l.parts))) (held_by_parts (env_of l.env) (next_of l.next) l.at (spec_of l.spec) (parts_of (drop l.part-index l.parts)));
  meant : behind_parts (env_of l.fn.env) (next_of l.fn.next) l.at (spec_of l.spec) (parts_of l.parts) ≡ behind_parts (env_of l.env) (next_of l.next) l.at (spec_of l.spec) (parts_of (drop l.part-index l.parts));
  numbered : past_names (next_of l.fn.next) (names_of_parts (parts_of l.parts)) ≡ past_names (next_of l.next) (names_of_parts (parts_of (drop l.part-index l.parts)));
  left : HaveNumbers (next_of l.next) (names_of_parts (parts_of (drop l.part-index l.parts)));
  kept : Declares l.fn.env l.env;
}
