use Rattle.null_calls_laws.proofs.Unsited.{sites_change_nothing, instrumented_runs_are_one}
use Rattle.null_calls_laws.proofs.laws.sites_change_nothing.Goals as goal

-- src/laws.rt:6:1
pub returns-clause-sites : goal.returns-clause-sites
returns-clause-sites c = sites_change_nothing

-- src/laws.rt:6:1
pub returns-clause-instrumented_unit : goal.returns-clause-instrumented_unit
returns-clause-instrumented_unit c = instrumented_runs_are_one
