use Rattle.c_meaning.proofs.Worlds.{places_are_inside, pointers_are_inside, runs_are_typed, runs_begin_typed, types_are_kept}
use Rattle.c_meaning.proofs.values.values_have_kinds.Goals as goal

-- src/laws.rt:8:1
pub returns-clause-runs : goal.returns-clause-runs
returns-clause-runs c = runs_are_typed

-- src/laws.rt:8:1
pub returns-clause-beginning : goal.returns-clause-beginning
returns-clause-beginning c = runs_begin_typed

-- src/laws.rt:8:1
pub returns-clause-parts : goal.returns-clause-parts
returns-clause-parts c = types_are_kept

-- src/laws.rt:8:1
pub returns-clause-pointers : goal.returns-clause-pointers
returns-clause-pointers c = pointers_are_inside

-- src/laws.rt:8:1
pub returns-clause-places : goal.returns-clause-places
returns-clause-places c = places_are_inside
