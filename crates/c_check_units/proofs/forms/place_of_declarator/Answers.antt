use Rattle.c_check_units.proofs.FormLemmas.{declarator_place}
use Rattle.c_check_units.proofs.forms.place_of_declarator.Goals as goal

pub returns : goal.returns
returns c at = declarator_place at c.args.d.now.at c.args.d.now.kind
