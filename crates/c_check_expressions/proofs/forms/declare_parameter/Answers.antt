use Rattle.std.proofs.Common.{◌≡◌, Some, sym, ◌∙◌}
use Rattle.c_check_types.proofs.Parts.{raised}
use Rattle.c_rules.specs.Checked.{fine}
use Rattle.c_rules.specs.Declarators.{with_name_demands}
use Rattle.c_check_counts.specs.View.{env_of}
use Rattle.c_syntax.specs.View.{ident_of}
use Rattle.c_tree.specs.View.{ctype_of}
use Rattle.c_check_expressions.specs.Parts.{name_of_param}
use Rattle.c_check_expressions.proofs.Parameters.{behind_named, demands_fail, demands_met}
use Rattle.c_check_expressions.proofs.forms.declare_parameter.Goals as goal

pub returns-in_err-new_name-in-Some-clause-judged : goal.returns-in_err-new_name-in-Some-clause-judged
returns-in_err-new_name-in-Some-clause-judged c =
    let t = ctype_of c.args.ctype.now in
    let h : name_of_param c.args.p.now ≡ Some (ident_of c.in-Some.x.now) = sym c.in-Some.ensures in
    raised (λ _. t) (with_name_demands (env_of c.args.env.now) (name_of_param c.args.p.now) (fine t)) c.from_residual.result c.in_err-new_name-in-Some.field-0.0 c.from_residual.ensures
    (demands_fail c.in_err-new_name-in-Some.field-0.0 (env_of c.args.env.now) (name_of_param c.args.p.now) (ident_of c.in-Some.x.now) t h c.in_err-new_name-in-Some.ensures)

pub returns-in_ok-declare_variable-in-Some-clause-judged : goal.returns-in_ok-declare_variable-in-Some-clause-judged
returns-in_ok-declare_variable-in-Some-clause-judged c =
    demands_met (env_of c.args.env.now) (name_of_param c.args.p.now) (ident_of c.in-Some.x.now) (ctype_of c.args.ctype.now) (sym c.in-Some.ensures) c.in_ok-new_name-in-Some.ensures

pub returns-in_ok-declare_variable-in-Some-clause-meant : goal.returns-in_ok-declare_variable-in-Some-clause-meant
returns-in_ok-declare_variable-in-Some-clause-meant c =
    let t = ctype_of c.args.ctype.now in
    c.in_ok-declare_variable-in-Some.ensures.meant
    ∙ sym (behind_named (env_of c.args.env.now) 0 (name_of_param c.args.p.now) (ident_of c.in-Some.x.now) t (sym c.in-Some.ensures) c.in_ok-new_name-in-Some.ensures)
