use Rattle.c_syntax_printing.proofs.Combine.{fails_under}
use Rattle.c_syntax_printing.proofs.ExprForms.{paren_form, index_form, call_form, member_form}
use Rattle.c_syntax_printing.proofs.OperandFails.{postfix_fails, suffixes_fail, operand_fails, operators_fail, cast_fails}
use Rattle.c_syntax_printing.proofs.refusals.an_operand_fails_where_its_rest_fails.Goals as goal

pub returns : goal.returns
returns g = record {
  parentheses = λ b t i r h f. fails_under (λ k j a. paren_form b h a) f;
  first = λ b i r f. postfix_fails b f;
  suffixes = λ b c i j r a f. suffixes_fail b c a f;
  index = λ b t i r h f. fails_under (λ k j a. index_form b h a) f;
  call = λ b t i r h f. fails_under (λ k j a. call_form b h a) f;
  member = λ b x t i r h f. fails_under (λ k j a. member_form b x h a) f;
  cast = λ b t i r h l f. cast_fails b h l f;
  left = λ b n i r f. operand_fails b n f;
  right = λ b c n i j r a f. operators_fail b c n a f;
}
