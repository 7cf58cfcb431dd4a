use Rattle.c_rules_laws.proofs.Texts.{in_both_modes}
use Rattle.c_rules_laws.proofs.text_laws.a_plain_text_is_accepted_in_both_modes.Goals as goal

pub returns : goal.returns
returns c = in_both_modes c.a_plain_unit_is_typed_alike_in_both_modes.ensures
