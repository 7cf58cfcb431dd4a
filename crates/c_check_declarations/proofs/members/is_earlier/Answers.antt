use Rattle.std.proofs.Common.{sym, ◌∙◌}
use Rattle.c_check_values.proofs.SeenLemmas.{among_reverse}
use Rattle.c_check_declarations.proofs.members.is_earlier.Goals as goal

pub returns : goal.returns
returns c = c.contains.ensures ∙ sym (among_reverse c.args.earlier.now c.args.name.now)
