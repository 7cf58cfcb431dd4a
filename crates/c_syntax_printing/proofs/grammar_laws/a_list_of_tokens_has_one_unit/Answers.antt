use Rattle.std.proofs.Common.{refl}
use Rattle.c_syntax_printing.proofs.OneUnit.{same_items}
use Rattle.c_syntax_printing.proofs.grammar_laws.a_list_of_tokens_has_one_unit.Goals as goal

pub returns : goal.returns
returns c d x one other tokens r v = (same_items r v refl refl).0
