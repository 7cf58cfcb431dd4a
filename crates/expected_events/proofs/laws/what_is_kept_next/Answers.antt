use Rattle.expected_events.proofs.KeptLemmas.{calls_are_kept, names_come, none_fits_rejected}
use Rattle.expected_events.proofs.laws.what_is_kept_next.Goals as goal

pub returns-clause-calls : goal.returns-clause-calls
returns-clause-calls c = calls_are_kept

pub returns-clause-names : goal.returns-clause-names
returns-clause-names c = names_come

pub returns-clause-rejected : goal.returns-clause-rejected
returns-clause-rejected c = none_fits_rejected
