use Rattle.c_syntax_printing.proofs.WritableReadBack.{spelled_writable}
use Rattle.c_syntax_printing.proofs.laws.spelled_units_are_writable.Goals as goal

pub returns : goal.returns
returns c = spelled_writable
