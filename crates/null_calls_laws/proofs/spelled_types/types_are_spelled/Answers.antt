use Rattle.null_calls_laws.proofs.Closed.{declared_types_are_spelled}
use Rattle.null_calls_laws.proofs.Spellings.{spellings_declare}
use Rattle.null_calls_laws.proofs.spelled_types.types_are_spelled.Goals as goal

pub returns : goal.returns
returns c = record { spellings = spellings_declare; declared = declared_types_are_spelled }
