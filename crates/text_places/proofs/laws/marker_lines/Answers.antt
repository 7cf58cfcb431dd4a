use Rattle.text_places.proofs.MarkerLemmas.{markers_are_told}
use Rattle.text_places.proofs.laws.marker_lines.Goals as goal

pub returns : goal.returns
returns c = markers_are_told
