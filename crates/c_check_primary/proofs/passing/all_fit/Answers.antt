use Rattle.std.proofs.Common.{◌≡◌, true, false, sym, ◌∙◌, arith, rules}
use Rattle.c_check_values.specs.TypedExpressionView.{typed_expression_of}
use Rattle.c_rules.specs.Conversions.{fits}
use Rattle.c_tree.specs.View.{ctype_of}
use Rattle.c_check_primary.proofs.CallLemmas.{fit_at, fit_end, fit_false, fit_none, fit_true}
use Rattle.c_check_primary.proofs.passing.all_fit.Goals as goal

pub returns-then-i-gs : goal.returns-then-i-gs
returns-then-i-gs c = sym (fit_none c.args.ts.now c.args.gs.now c.loop-i.i (omega arith)) ∙ c.loop-i.invariant

pub returns-then-not-fits : goal.returns-then-not-fits
returns-then-not-fits c =
    let h : fits (ctype_of c.index-ts-i.result) (typed_expression_of c.index-gs-i.result) ≡ false = search rules in
    sym (fit_at c.args.ts.now c.args.gs.now c.loop-i.i c.index-ts-i.result c.index-gs-i.result (omega arith) (omega arith) c.index-ts-i.is c.index-gs-i.is ∙ fit_false _ _ h) ∙ c.loop-i.invariant

pub loop-i-preserved : goal.loop-i-preserved
loop-i-preserved c =
    let h : fits (ctype_of c.index-ts-i.result) (typed_expression_of c.index-gs-i.result) ≡ true = search rules in
    sym (fit_at c.args.ts.now c.args.gs.now c.loop-i.i c.index-ts-i.result c.index-gs-i.result (omega arith) (omega arith) c.index-ts-i.is c.index-gs-i.is ∙ fit_true _ _ h) ∙ c.loop-i.invariant

pub returns : goal.returns
returns c = sym (fit_end c.args.ts.now c.args.gs.now c.loop-i.i (omega arith)) ∙ c.loop-i.invariant
