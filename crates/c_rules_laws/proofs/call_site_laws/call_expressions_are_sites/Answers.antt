use Rattle.c_rules_laws.proofs.Callers.{unit_sites}
use Rattle.c_rules_laws.proofs.call_site_laws.call_expressions_are_sites.Goals as goal

pub returns : goal.returns
returns c = unit_sites
