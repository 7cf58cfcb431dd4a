use Rattle.std.proofs.Common.{rules, ◌≡◌, map, IfOk, subst}
use Rattle.c_check_values.specs.TypedExpressionView.{typed_expression_of}
use Rattle.c_check_assignments.proofs.CommaLemmas.{comma_made}
use Rattle.c_check_assignments.proofs.comma.comma_of.Goals as goal

pub returns : goal.returns
returns c =
    subst (λ w. IfOk c.typed_value.result (λ g. typed_expression_of g ≡ w))
    (comma_made c.in_ok-last.field-0.last c.in_ok-last.field-0.trees (map typed_expression_of c.args.gs.items) (search rules) (search rules)) c.typed_value.ensures
