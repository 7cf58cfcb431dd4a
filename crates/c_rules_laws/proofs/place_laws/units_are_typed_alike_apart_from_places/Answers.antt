use Rattle.c_rules_laws.proofs.Units.{typed_alike}
use Rattle.c_rules_laws.proofs.place_laws.units_are_typed_alike_apart_from_places.Goals as goal

pub returns : goal.returns
returns c = typed_alike
