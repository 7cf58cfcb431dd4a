use Rattle.c_syntax_printing.proofs.Combine.{fails_under}
use Rattle.c_syntax_printing.proofs.OperandFails.{evaluation_fails}
use Rattle.c_syntax_printing.proofs.StmtForms.{if_form, while_form, do_form, for_form, switch_form, return_form, break_form, continue_form, block_form}
use Rattle.c_syntax_printing.proofs.refusals.a_statement_fails_where_its_rest_fails.Goals as goal

pub returns : goal.returns
returns g = record {
  if_statement = λ b t i r w f. fails_under (λ k j a. if_form b w a) f;
  while_statement = λ b t i r w f. fails_under (λ k j a. while_form b w a) f;
  do_statement = λ b t i r w f. fails_under (λ k j a. do_form b w a) f;
  for_statement = λ b t i r w f. fails_under (λ k j a. for_form b w a) f;
  switch_statement = λ b t i r w f. fails_under (λ k j a. switch_form b w a) f;
  return_statement = λ b t i r w f. fails_under (λ k j a. return_form b w a) f;
  break_statement = λ b t i r w f. fails_under (λ k j a. break_form b w a) f;
  continue_statement = λ b t i r w f. fails_under (λ k j a. continue_form b w a) f;
  block = λ b t i r w f. fails_under (λ k j a. block_form b w a) f;
  evaluation = λ b i r h f. evaluation_fails b h f;
}
