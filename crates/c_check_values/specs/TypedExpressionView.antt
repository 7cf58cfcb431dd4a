-- What the parts of a checker in Rust are seen as.
use Rattle.c_tree.specs.View.{ctype_of, expr_of}
use Rattle.c_check_values.specs.declared.typed_expression.TypedExpression.{TypedExpression as TypedExpressionTree}
use Rattle.c_check_values.specs.declared.typed_expression.Form.{Form as FormTree}
use Rattle.c_check_values.specs.declared.typed_expression.Form.TheVariants as forms
use Rattle.c_check_values.specs.declared.typed_expression.Constant.{Constant as ConstantTree}
use Rattle.c_check_values.specs.declared.typed_expression.Constant.TheVariants as constants
use Rattle.c_check_scopes.specs.TypedExpression.{TypedExpression, Form, a_value, a_place, behind, Constant, not_constant, undefined, known}

abbrev pub form_of : FormTree → Form
form_of (forms.Value e) = a_value (expr_of e)
form_of (forms.Place e) = a_place (expr_of e)
form_of (forms.Behind e) = behind (expr_of e)

abbrev pub constant_of : ConstantTree → Constant
constant_of constants.Not = not_constant
constant_of constants.Undefined = undefined
constant_of (constants.Known v) = known v

abbrev pub typed_expression_of : TypedExpressionTree → TypedExpression
typed_expression_of g = record { ctype = ctype_of g.ctype; form = form_of g.form; constant = constant_of g.constant }
