use Rattle.c_meaning.specs.ShapeOf.{shapes_of}
use Rattle.c_meaning.proofs.Open.{bounded}
use Rattle.c_meaning.proofs.depth_laws.open_calls_are_bounded.Goals as goal

pub returns-clause-shapes : goal.returns-clause-shapes
returns-clause-shapes c = bounded

pub returns-clause-programs : goal.returns-clause-programs
returns-clause-programs c rank p = bounded rank (shapes_of p)
