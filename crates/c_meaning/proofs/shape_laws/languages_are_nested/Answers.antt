use Rattle.dm_base.specs.Trace.{erase}
use Rattle.c_meaning.proofs.Erasing.{front}
use Rattle.c_meaning.proofs.Walking.{walked}
use Rattle.c_meaning.proofs.shape_laws.languages_are_nested.Goals as goal

pub returns-clause-dyck : goal.returns-clause-dyck
returns-clause-dyck c env t h = front env h

pub returns-clause-stack : goal.returns-clause-stack
returns-clause-stack c env t h = walked env env.main (erase t) h
