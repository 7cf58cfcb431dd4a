use Rattle.std.proofs.Common.{◌≡◌, ◌∙◌, length, ap, arith}
use Rattle.c_syntax.specs.Tree.{a_name, more_exprs}
use Rattle.c_syntax.specs.View.{expr_of}
use Rattle.null_calls_temporaries.specs.Temporaries.{argument_name}
use Rattle.null_calls_temporaries.specs.InstrumentedExpressions as marks
use Rattle.null_calls_expressions.specs.Lists.{exprs_onto}
use Rattle.null_calls_expressions.proofs.MarkedLemmas.{none_kept, none_passed, keeps_more, passes_more, all_kept, all_passed}
use Rattle.null_calls_expressions.proofs.marked.add_arguments.Goals as goal

pub loop-one-init : goal.loop-one-init
loop-one-init c = record {
  counted = omega (arith, c.into_iter-one-iterator.ensures.into_iter_gives.1, ap length c.into_iter-one-iterator.ensures.into_iter_gives.0);
  keeps = none_kept c.args.at c.args.site c.args.arguments.items c.args.list.now.items c.new-passed.result.items c.into_iter-one-iterator.result.rest.items c.new-passed.ensures.items c.into_iter-one-iterator.ensures.into_iter_gives.0;
  gives = none_passed c.args.at c.args.site c.args.arguments.items c.new-passed.result.items c.into_iter-one-iterator.result.rest.items c.new-passed.ensures.items c.into_iter-one-iterator.ensures.into_iter_gives.0;
}

pub loop-one-preserved : goal.loop-one-preserved
loop-one-preserved c =
    let x = c.in-Some.one in
    let xs = c.next.new.self.rest.items in
    let items = c.loop-one.one-iterator.rest.items in
    let passed = c.loop-one.passed.items in
    let i_is : c.len-i.result ≡ length passed = omega (arith, c.len-i.ensures) in
    record {
      counted = omega (arith, c.loop-one.invariant.counted, ap length c.in-Some.ensures.steps.0, c.in-Some.ensures.steps.1);
      keeps = keeps_more c.args.at c.args.site x c.in_ok-given.given items xs passed c.push.new.self.items c.in-Some.ensures.steps.0 c.in_ok-push.ensures.items c.loop-one.list.items c.add_argument.new.list.items _ c.loop-one.invariant.keeps
          (λ rest. c.in_ok-given.ensures.keeps rest ∙ ap (λ n. exprs_onto c.loop-one.list.items (more_exprs (marks.kept_in c.args.at (argument_name c.args.site n) (expr_of x)) rest)) i_is);
      gives = passes_more c.args.at c.args.site x c.in_ok-given.given items xs passed c.push.new.self.items c.in-Some.ensures.steps.0 c.in_ok-push.ensures.items _ c.loop-one.invariant.gives (c.in_ok-given.ensures.gives ∙ ap (λ n. a_name c.args.at (argument_name c.args.site n)) i_is);
    }

pub returns-clause-keeps : goal.returns-clause-keeps
returns-clause-keeps c = all_kept c.args.at c.args.site (length c.loop-one.passed.items) c.loop-one.one-iterator.rest.items c.loop-one.list.items _ (omega (arith, c.loop-one.invariant.counted, c.in-None.ensures.steps.0)) c.loop-one.invariant.keeps

pub returns-clause-gives : goal.returns-clause-gives
returns-clause-gives c = all_passed c.args.at c.args.site (length c.loop-one.passed.items) c.loop-one.one-iterator.rest.items c.loop-one.passed.items _ (omega (arith, c.loop-one.invariant.counted, c.in-None.ensures.steps.0)) c.loop-one.invariant.gives
