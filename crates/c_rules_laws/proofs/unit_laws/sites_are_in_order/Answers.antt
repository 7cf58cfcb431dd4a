use Rattle.c_rules_laws.proofs.Fine.{expressions_sites, statements_sites}
use Rattle.c_rules_laws.proofs.unit_laws.sites_are_in_order.Goals as goal

pub returns-clause-expressions : goal.returns-clause-expressions
returns-clause-expressions c = expressions_sites

pub returns-clause-statements : goal.returns-clause-statements
returns-clause-statements c = statements_sites
