use Rattle.null_calls_laws.proofs.NameLemmas.{names_are_free, names_differ}
use Rattle.null_calls_laws.proofs.temporary_names.temporaries_have_names.Goals as goal

pub returns : goal.returns
returns c = record { free = names_are_free; differ = names_differ }
