use Rattle.c_rules_laws.proofs.Fine.{spelled_lexical}
use Rattle.c_rules_laws.proofs.unit_laws.a_spelled_unit_is_lexical.Goals as goal

pub returns : goal.returns
returns c = spelled_lexical
