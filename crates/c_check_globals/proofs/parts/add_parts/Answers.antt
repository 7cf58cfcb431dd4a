use Rattle.std.proofs.Common.{sym}
use Rattle.c_check_units.proofs.Parts.{raised}
use Rattle.c_check_units.specs.OutputView.{output_of}
use Rattle.c_check_globals.proofs.Loops.{part_more, part_fails, part_behind, part_after, parts_end, behind_end, after_end}
use Rattle.c_rules.specs.Checked.{Checked, gives}
use Rattle.c_rules.specs.Items.{Output, after_file_parts, behind_file_parts, file_parts, with_output}
use Rattle.c_rules.specs.Scopes.{Env, Before}
use Rattle.c_check_scopes.specs.View.{before_of, env_of}
use Rattle.c_syntax.specs.UnitView.{parts_of, storage_of}
use Rattle.c_syntax.specs.View.{spec_of}
use Rattle.c_check_globals.proofs.parts.add_parts.Goals as goal

pub loop-p-preserved : goal.loop-p-preserved
loop-p-preserved c =
    let all : Checked Output = gives (file_parts (env_of c.args.env.now) (before_of c.args.before.now) c.args.at (storage_of c.args.class) (spec_of c.args.s.now) (parts_of c.args.ps.now)) (with_output (output_of c.args.into.now)) in
    let last : Env = behind_file_parts (env_of c.args.env.now) (before_of c.args.before.now) c.args.at (storage_of c.args.class) (spec_of c.args.s.now) (parts_of c.args.ps.now) in
    let left : Before = after_file_parts (env_of c.args.env.now) (before_of c.args.before.now) c.args.at (storage_of c.args.class) (spec_of c.args.s.now) (parts_of c.args.ps.now) in (
      part_more (env_of c.loop-p.env) (before_of c.loop-p.before) c.args.at (storage_of c.args.class) (spec_of c.args.s.now) c.args.ps.now c.loop-p.p-index c.p-item.result (env_of c.add_part.new.env) (before_of c.add_part.new.before) (output_of c.loop-p.into) (output_of c.add_part.new.into) all
          c.loop-p-test.true c.p-item.is c.loop-p.invariant.0 c.in_ok-add_part.ensures.judged c.in_ok-add_part.ensures.behind c.in_ok-add_part.ensures.counted,
      part_behind (env_of c.loop-p.env) (before_of c.loop-p.before) c.args.at (storage_of c.args.class) (spec_of c.args.s.now) c.args.ps.now c.loop-p.p-index c.p-item.result (env_of c.add_part.new.env) last (before_of c.add_part.new.before)
          c.loop-p-test.true c.p-item.is c.loop-p.invariant.1 c.in_ok-add_part.ensures.behind c.in_ok-add_part.ensures.counted,
      part_after (env_of c.loop-p.env) (before_of c.loop-p.before) c.args.at (storage_of c.args.class) (spec_of c.args.s.now) c.args.ps.now c.loop-p.p-index c.p-item.result (env_of c.add_part.new.env) (before_of c.add_part.new.before) left
          c.loop-p-test.true c.p-item.is c.loop-p.invariant.2 c.in_ok-add_part.ensures.behind c.in_ok-add_part.ensures.counted,
    )

pub returns-in_err-add_part-clause-judged : goal.returns-in_err-add_part-clause-judged
returns-in_err-add_part-clause-judged c =
    let all : Checked Output = gives (file_parts (env_of c.args.env.now) (before_of c.args.before.now) c.args.at (storage_of c.args.class) (spec_of c.args.s.now) (parts_of c.args.ps.now)) (with_output (output_of c.args.into.now)) in
    raised (λ _. output_of c.add_part.new.into) all c.from_residual.result c.in_err-add_part.field-0.0 c.from_residual.ensures
    (part_fails (env_of c.loop-p.env) (before_of c.loop-p.before) c.args.at (storage_of c.args.class) (spec_of c.args.s.now) c.args.ps.now c.loop-p.p-index c.p-item.result c.in_err-add_part.field-0.0 (output_of c.loop-p.into) all
    c.loop-p-test.true c.p-item.is c.loop-p.invariant.0 c.in_err-add_part.ensures.judged)

pub returns-clause-judged : goal.returns-clause-judged
returns-clause-judged c =
    parts_end (env_of c.loop-p.env) (before_of c.loop-p.before) c.args.at (storage_of c.args.class) (spec_of c.args.s.now) c.args.ps.now c.loop-p.p-index (output_of c.loop-p.into)
    (gives (file_parts (env_of c.args.env.now) (before_of c.args.before.now) c.args.at (storage_of c.args.class) (spec_of c.args.s.now) (parts_of c.args.ps.now)) (with_output (output_of c.args.into.now))) c.loop-p-test.false c.loop-p.invariant.0

pub returns-clause-behind : goal.returns-clause-behind
returns-clause-behind c =
    sym (behind_end (env_of c.loop-p.env) (before_of c.loop-p.before) c.args.at (storage_of c.args.class) (spec_of c.args.s.now) c.args.ps.now c.loop-p.p-index
    (behind_file_parts (env_of c.args.env.now) (before_of c.args.before.now) c.args.at (storage_of c.args.class) (spec_of c.args.s.now) (parts_of c.args.ps.now)) c.loop-p-test.false c.loop-p.invariant.1)

pub returns-clause-counted : goal.returns-clause-counted
returns-clause-counted c =
    sym (after_end (env_of c.loop-p.env) (before_of c.loop-p.before) c.args.at (storage_of c.args.class) (spec_of c.args.s.now) c.args.ps.now c.loop-p.p-index
    (after_file_parts (env_of c.args.env.now) (before_of c.args.before.now) c.args.at (storage_of c.args.class) (spec_of c.args.s.now) (parts_of c.args.ps.now)) c.loop-p-test.false c.loop-p.invariant.2)
