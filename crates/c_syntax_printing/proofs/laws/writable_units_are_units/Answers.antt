use Rattle.c_syntax_printing.proofs.WritableTokens.{writable_are_units}
use Rattle.c_syntax_printing.proofs.laws.writable_units_are_units.Goals as goal

pub returns : goal.returns
returns c = writable_are_units
