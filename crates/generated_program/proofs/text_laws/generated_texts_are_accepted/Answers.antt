use Rattle.generated_program.proofs.Read.{accepted}
use Rattle.generated_program.proofs.text_laws.generated_texts_are_accepted.Goals as goal

pub returns : goal.returns
returns c = accepted c.writable_units_are_read_back.ensures c.units_are_typed_alike_apart_from_places.ensures
