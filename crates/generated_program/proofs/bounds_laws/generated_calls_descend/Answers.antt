use Rattle.generated_program.specs.Typed.{generated_program}
use Rattle.generated_program.specs.Bounds.{number_of}
use Rattle.generated_program.proofs.Laid.{descend}
use Rattle.generated_program.proofs.bounds_laws.generated_calls_descend.Goals as goal

pub returns-clause-descend : goal.returns-clause-descend
returns-clause-descend c = descend

pub returns-clause-few : goal.returns-clause-few
returns-clause-few c number last t h =
    c.open_calls_are_bounded.ensures.programs number_of (generated_program number last) (descend number last) t h
