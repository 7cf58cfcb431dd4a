use Rattle.generated_program.proofs.Counted.{numbers}
use Rattle.generated_program.proofs.bounds_laws.generated_programs_are_small.Goals as goal

pub returns : goal.returns
returns c = numbers
