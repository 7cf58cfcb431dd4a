use Rattle.c_meaning.proofs.FurtherWorlds.{further_objects_change_nothing, runs_do_alike}
use Rattle.c_meaning.proofs.further_objects.further_objects_change_nothing.Goals as goal

-- src/laws.rt:9:1
pub returns-clause-parts : goal.returns-clause-parts
returns-clause-parts c = further_objects_change_nothing

-- src/laws.rt:9:1
pub returns-clause-runs : goal.returns-clause-runs
returns-clause-runs c = runs_do_alike
