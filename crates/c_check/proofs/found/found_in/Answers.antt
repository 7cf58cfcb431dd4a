use Rattle.std.proofs.Common.{◌≡◌, ap, subst, sym, ◌∙◌}
use Rattle.c_check_values.proofs.Parts.{names_on, raised}
use Rattle.c_check_values.specs.Agreement.{Names}
use Rattle.c_check.specs.OutputView.{output_of}
use Rattle.c_rules.specs.Checked.{Checked, Met, faults, on}
use Rattle.c_rules.specs.Items.{Output, items}
use Rattle.c_rules.specs.Scopes.{nothing_before}
use Rattle.c_rules.specs.Units.{env_before, few_names}
use Rattle.c_check_values.specs.View.{before_of, env_of}
use Rattle.c_syntax.specs.UnitView.{items_of}
use Rattle.c_check.proofs.found.found_in.Goals as goal

pub returns-in_err-env-clause-judged : goal.returns-in_err-env-clause-judged
returns-in_err-env-clause-judged c =
    let u = items_of c.args.listed.now in
    let k : Met → Checked Output = λ _. items (env_before c.args.mode u) nothing_before u in
    raised (λ f. output_of f.output) (on (few_names u) k) c.from_residual.result c.in_err-env.field-0.0 c.from_residual.ensures
    (names_on c.in_err-env.field-0.0 (few_names u) k c.in_err-env.ensures.judged)

pub returns-in_err-output-clause-judged : goal.returns-in_err-output-clause-judged
returns-in_err-output-clause-judged c =
    let u = items_of c.args.listed.now in
    let k : Met → Checked Output = λ _. items (env_before c.args.mode u) nothing_before u in
    let r : Checked Output = items (env_of c.in_ok-env.env) (before_of c.nothing_before-before.result) u in
    let s : Checked Output = on (few_names u) k in
    let same : r ≡ s = (λ i. items (c.in_ok-env.ensures.known i) (c.nothing_before-before.ensures i) u) ∙ sym (ap (λ q. on q k) c.in_ok-env.ensures.judged) in
    raised (λ f. output_of f.output) s c.from_residual-in_err-output.result c.in_err-output.field-0.0 c.from_residual-in_err-output.ensures
    (subst (λ q. Names c.in_err-output.field-0.0 (faults q)) same c.in_err-output.ensures.judged)
