use Rattle.c_check_units.proofs.FormLemmas.{expression_place}
use Rattle.c_check_units.proofs.forms.place_of_expression.Goals as goal

pub returns : goal.returns
returns c = expression_place c.args.e.now.at c.args.e.now.kind
