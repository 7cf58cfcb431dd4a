use Rattle.std.proofs.Common.{sym, ◌∙◌}
use Rattle.c_check_values.proofs.SeenLemmas.{among_reverse}
use Rattle.c_check_declarations.proofs.tags.is_mentioned.Goals as goal

pub returns : goal.returns
returns c = c.contains.ensures ∙ sym (among_reverse c.args.env.now.tags c.args.tag.now)
