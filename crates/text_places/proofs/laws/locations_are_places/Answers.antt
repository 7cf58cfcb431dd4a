use Rattle.text_places.proofs.LocationLemmas.{one_place}
use Rattle.text_places.proofs.laws.locations_are_places.Goals as goal

pub returns : goal.returns
returns c = one_place
