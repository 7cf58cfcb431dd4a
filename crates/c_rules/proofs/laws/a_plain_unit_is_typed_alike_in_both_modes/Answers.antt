use Rattle.c_rules.proofs.ModeItems.{typed_leads}
use Rattle.c_rules.proofs.laws.a_plain_unit_is_typed_alike_in_both_modes.Goals as goal

pub returns : goal.returns
returns c = typed_leads
