use Rattle.c_syntax.specs.UnitView.{items_of}
use Rattle.c_syntax_printing.proofs.ReadBack.{read_back}
use Rattle.c_syntax_printing.proofs.printing.print.Goals as goal

pub returns-clause-back : goal.returns-clause-back
returns-clause-back c = read_back (items_of c.args.unit.now.items.items) c.in_ok-text.text.items c.in_ok-text.ensures c.args.unit.now.spelled
