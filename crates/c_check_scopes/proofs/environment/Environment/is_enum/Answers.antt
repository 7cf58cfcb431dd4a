use Rattle.std.proofs.Common.{sym, ◌∙◌}
use Rattle.c_check_scopes.proofs.SeenLemmas.{among_reverse}
use Rattle.c_check_scopes.proofs.environment.Environment.is_enum.Goals as goal

pub returns : goal.returns
returns c = c.contains.ensures ∙ sym (among_reverse c.args.self.now.enums c.args.tag.now)
