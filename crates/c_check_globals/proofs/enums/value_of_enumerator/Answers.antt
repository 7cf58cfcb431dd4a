use Rattle.std.proofs.Common.{◌≡◌, ℤ, ap, sym, ◌∙◌}
use Rattle.c_check_units.specs.TypedExpressionView.{typed_expression_of}
use Rattle.c_check_globals.proofs.Moves.{on_ok, same_judged}
use Rattle.c_rules.specs.Checked.{Checked, fine, on}
use Rattle.c_rules.specs.Constants.{number_of}
use Rattle.c_rules.specs.Counts.{place_of}
use Rattle.c_rules.specs.Declarators.{constant_value}
use Rattle.c_rules.specs.Items.{enumerator_value, int_value}
use Rattle.c_check_scopes.specs.View.{env_of}
use Rattle.c_syntax.specs.UnitView.{maybe_of}
use Rattle.c_syntax.specs.View.{expr_of, ident_of}
use Rattle.c_check_globals.proofs.enums.value_of_enumerator.Goals as goal

pub returns-in_ok-given-in-Some-clause-judged : goal.returns-in_ok-given-in-Some-clause-judged
returns-in_ok-given-in-Some-clause-judged c =
    let place = place_of (expr_of c.in-Some.e) in
    let r : Checked ℤ = on (constant_value c.place_of_expression.result (typed_expression_of c.in_ok-given-in-Some.given)) (λ v. int_value c.place_of_expression.result (number_of v)) in
    let s : Checked ℤ = on (constant_value place (typed_expression_of c.in_ok-given-in-Some.given)) (λ v. int_value place (number_of v)) in
    let placed : r ≡ s = ap (λ n. on (constant_value n (typed_expression_of c.in_ok-given-in-Some.given)) (λ v. int_value n (number_of v))) c.place_of_expression.ensures in
    let folded = ap (λ q. on (on q (constant_value place)) (λ v. int_value place (number_of v))) (sym c.in_ok-given-in-Some.ensures.judged) in
    let whole = ap (λ o. enumerator_value (env_of c.args.env.now) (fine c.args.next) (ident_of c.args.x.now) (maybe_of o)) (sym c.in-Some.is) in
    same_judged (λ v. v) c.enumerator_constant.result r (enumerator_value (env_of c.args.env.now) (fine c.args.next) (ident_of c.args.x.now) (maybe_of c.args.e.now)) (placed ∙ (folded ∙ whole)) c.enumerator_constant.ensures

pub returns-in_ok-given-in-Some-clause-kept : goal.returns-in_ok-given-in-Some-clause-kept
returns-in_ok-given-in-Some-clause-kept c = on_ok c.enumerator_constant.result _ c.in_ok-given-in-Some.ensures.kept
