use Rattle.std.proofs.Common.{ap, ◌∙◌}
use Rattle.c_check_declarations.proofs.Parts.{raised}
use Rattle.c_rules.specs.Statements.{labels_of}
use Rattle.c_check_scopes.specs.View.{env_of}
use Rattle.c_check_statements.specs.Listed.{items_of_labels}
use Rattle.c_check_statements.proofs.SwitchLemmas.{label_fails, label_more}
use Rattle.c_syntax.specs.UnitView.{labels_of as labels_seen}
use Rattle.c_check_statements.proofs.labels.labels_of.Goals as goal

pub loop-label-preserved : goal.loop-label-preserved
loop-label-preserved c =
    record {
      judged = label_more (env_of c.args.env.now) (env_of c.loop-label.env) c.args.i c.args.labels.now c.loop-label.label-index c.label-item.result c.loop-label.all.items c.push.new.self.items c.in_ok-one.one (labels_of (env_of c.args.env.now) c.args.i (labels_seen c.args.labels.now)) c.loop-label-test.true c.label-item.is (ap env_of c.loop-label.invariant.kept) c.loop-label.invariant.judged c.in_ok-one.ensures.judged c.in_ok-push.ensures.items;
      kept = c.in_ok-one.ensures.kept ∙ c.loop-label.invariant.kept;
    }

pub returns-in_err-one-clause-judged : goal.returns-in_err-one-clause-judged
returns-in_err-one-clause-judged c =
    raised items_of_labels (labels_of (env_of c.args.env.now) c.args.i (labels_seen c.args.labels.now)) c.from_residual.result c.in_err-one.field-0.0 c.from_residual.ensures (label_fails c.in_err-one.field-0.0 (env_of c.args.env.now) (env_of c.loop-label.env) c.args.i c.args.labels.now c.loop-label.label-index c.label-item.result c.loop-label.all.items (labels_of (env_of c.args.env.now) c.args.i (labels_seen c.args.labels.now)) c.loop-label-test.true c.label-item.is (ap env_of c.loop-label.invariant.kept) c.loop-label.invariant.judged c.in_err-one.ensures.judged)
