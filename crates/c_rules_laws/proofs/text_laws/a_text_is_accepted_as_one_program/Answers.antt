use Rattle.c_rules_laws.proofs.Texts.{one_program}
use Rattle.c_rules_laws.proofs.text_laws.a_text_is_accepted_as_one_program.Goals as goal

pub returns : goal.returns
returns c = one_program c.a_text_has_one_list_of_tokens.ensures c.a_list_of_tokens_has_one_unit.ensures c.a_unit_types_one_program.ensures
