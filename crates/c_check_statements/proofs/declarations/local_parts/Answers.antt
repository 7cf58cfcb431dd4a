use Rattle.std.proofs.Common.{[], ◌∷◌, ◌+◌, drop, ap, sym, ◌∙◌}
use Rattle.std.proofs.lemmas.List.{at_drop_all}
use Rattle.c_check_bodies.specs.Named.{name_of_part}
use Rattle.c_check_bodies.specs.Numbered.{next_of}
use Rattle.c_check_declarations.proofs.Parts.{raised}
use Rattle.c_check_bodies.specs.StatementTreeView.{statement_trees_of, statement_tree_of}
use Rattle.c_rules.specs.Blocks.{behind_parts, held_by_parts, local_parts}
use Rattle.c_rules.specs.Checked.{fine}
use Rattle.c_rules.specs.Counts.{past}
use Rattle.c_rules.specs.Variables.{calls_of_parts, names_of_parts, past_names}
use Rattle.c_check_scopes.specs.View.{before_of, env_of}
use Rattle.c_check_statements.proofs.HavingLemmas.{own_have, rest_have}
use Rattle.c_check_statements.proofs.NodeLemmas.{declared_more}
use Rattle.c_check_statements.proofs.DeclarationLemmas.{part_counted, part_fails, part_more, parts_at}
use Rattle.c_check_statements.proofs.StatementLemmas.{more_none, onto_laid}
use Rattle.c_syntax.specs.UnitView.{parts_of}
use Rattle.c_syntax.specs.View.{spec_of}
use Rattle.c_check_statements.proofs.declarations.local_parts.Goals as goal

pub loop-part-preserved : goal.loop-part-preserved
loop-part-preserved c =
    record {
      judged = part_more c.args.at (spec_of c.args.spec.now) c.args.parts.now c.loop-part.part-index c.part-item.result (env_of c.loop-part.env) (env_of c.local_part.new.env) (before_of c.loop-part.before) (before_of c.local_part.new.before) (next_of c.loop-part.next) (next_of c.local_part.new.next) (statement_trees_of c.loop-part.laid) (statement_trees_of c.in_ok-laid.laid) (statement_tree_of c.in_ok-one.one) (local_parts (env_of c.args.env.now) (before_of c.args.before.now) (next_of c.args.next.now) c.args.at (spec_of c.args.spec.now) (parts_of c.args.parts.now)) c.loop-part-test.true c.part-item.is c.loop-part.invariant.judged c.in_ok-one.ensures.judged c.in_ok-one.ensures.meant c.in_ok-one.ensures.counted c.in_ok-one.ensures.numbered c.in_ok-laid.ensures;
      counted = part_counted c.args.at (spec_of c.args.spec.now) c.args.parts.now c.loop-part.part-index c.part-item.result (env_of c.loop-part.env) (env_of c.local_part.new.env) (before_of c.loop-part.before) (before_of c.local_part.new.before) (past (before_of c.args.before.now) (calls_of_parts (parts_of c.args.parts.now)) (held_by_parts (env_of c.args.env.now) (next_of c.args.next.now) c.args.at (spec_of c.args.spec.now) (parts_of c.args.parts.now))) (next_of c.loop-part.next) (next_of c.local_part.new.next) c.loop-part-test.true c.part-item.is c.loop-part.invariant.counted c.in_ok-one.ensures.meant c.in_ok-one.ensures.counted c.in_ok-one.ensures.numbered;
      meant = c.loop-part.invariant.meant ∙ (ap (behind_parts (env_of c.loop-part.env) (next_of c.loop-part.next) c.args.at (spec_of c.args.spec.now)) (parts_at c.args.parts.now c.loop-part.part-index c.part-item.result c.loop-part-test.true c.part-item.is) ∙ (λ j. behind_parts (sym c.in_ok-one.ensures.meant j) (sym c.in_ok-one.ensures.numbered j) c.args.at (spec_of c.args.spec.now) (parts_of (drop (c.loop-part.part-index + 1) c.args.parts.now))));
      numbered = c.loop-part.invariant.numbered ∙ (ap (λ r. past_names (next_of c.loop-part.next) (names_of_parts r)) (parts_at c.args.parts.now c.loop-part.part-index c.part-item.result c.loop-part-test.true c.part-item.is) ∙ ap (λ n. past_names n (names_of_parts (parts_of (drop (c.loop-part.part-index + 1) c.args.parts.now)))) (sym c.in_ok-one.ensures.numbered));
      left = rest_have (next_of c.loop-part.next) (names_of_parts (parts_of (drop c.loop-part.part-index c.args.parts.now))) (name_of_part c.part-item.result ∷ []) (names_of_parts (parts_of (drop (c.loop-part.part-index + 1) c.args.parts.now))) (ap names_of_parts (parts_at c.args.parts.now c.loop-part.part-index c.part-item.result c.loop-part-test.true c.part-item.is)) c.loop-part.invariant.left (next_of c.local_part.new.next) c.in_ok-one.ensures.numbered;
      kept = declared_more c.args.env.now c.loop-part.env c.local_part.new.env c.loop-part.invariant.kept c.in_ok-one.ensures.kept;
    }

pub returns-in_err-one-clause-judged : goal.returns-in_err-one-clause-judged
returns-in_err-one-clause-judged c =
    raised statement_trees_of (local_parts (env_of c.args.env.now) (before_of c.args.before.now) (next_of c.args.next.now) c.args.at (spec_of c.args.spec.now) (parts_of c.args.parts.now)) c.from_residual.result c.in_err-one.field-0.0 c.from_residual.ensures (part_fails c.args.at (spec_of c.args.spec.now) c.args.parts.now c.loop-part.part-index c.part-item.result c.in_err-one.field-0.0 (env_of c.loop-part.env) (before_of c.loop-part.before) (next_of c.loop-part.next) (statement_trees_of c.loop-part.laid) (local_parts (env_of c.args.env.now) (before_of c.args.before.now) (next_of c.args.next.now) c.args.at (spec_of c.args.spec.now) (parts_of c.args.parts.now)) c.loop-part-test.true c.part-item.is c.loop-part.invariant.judged c.in_err-one.ensures.judged)

pub returns-clause-judged : goal.returns-clause-judged
returns-clause-judged c =
    c.loop-part.invariant.judged ∙ (at_drop_all (λ l. onto_laid (statement_trees_of c.loop-part.laid) (local_parts (env_of c.loop-part.env) (before_of c.loop-part.before) (next_of c.loop-part.next) c.args.at (spec_of c.args.spec.now) (parts_of l))) c.args.parts.now c.loop-part.part-index c.loop-part-test.false ∙ ap fine (more_none (statement_trees_of c.loop-part.laid)))

pub local_part-requires : goal.local_part-requires
local_part-requires c =
    own_have (next_of c.loop-part.next) (names_of_parts (parts_of (drop c.loop-part.part-index c.args.parts.now))) (name_of_part c.part-item.result ∷ []) (names_of_parts (parts_of (drop (c.loop-part.part-index + 1) c.args.parts.now))) (ap names_of_parts (parts_at c.args.parts.now c.loop-part.part-index c.part-item.result c.loop-part-test.true c.part-item.is)) c.loop-part.invariant.left
