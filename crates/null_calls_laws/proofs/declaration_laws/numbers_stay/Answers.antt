use Rattle.null_calls_laws.proofs.Numbers.{numbers_stay}
use Rattle.null_calls_laws.proofs.declaration_laws.numbers_stay.Goals as goal

pub returns : goal.returns
returns c = numbers_stay
