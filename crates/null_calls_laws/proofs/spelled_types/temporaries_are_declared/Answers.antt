use Rattle.null_calls_laws.proofs.Counted.{temporaries_are_declared}
use Rattle.null_calls_laws.proofs.spelled_types.temporaries_are_declared.Goals as goal

-- src/laws.rt:15:1
pub returns : goal.returns
returns c = temporaries_are_declared
