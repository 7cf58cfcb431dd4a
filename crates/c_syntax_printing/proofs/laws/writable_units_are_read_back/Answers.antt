use Rattle.c_syntax_printing.proofs.WritableReadBack.{writable_read_back}
use Rattle.c_syntax_printing.proofs.laws.writable_units_are_read_back.Goals as goal

pub returns : goal.returns
returns c = writable_read_back
