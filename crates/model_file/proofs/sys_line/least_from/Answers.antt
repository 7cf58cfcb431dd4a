use Rattle.std.proofs.Common.{sym, ◌∙◌}
use Rattle.std.proofs.lemmas.Bool.{false≢true}
use Rattle.model_file.specs.ModelText.{IsSpelledSys}
use Rattle.model_file.specs.SysBounds.{name_order}
use Rattle.model_file.proofs.Levels.{least_none}
use Rattle.model_file.proofs.SysLemmas.{free_from, first_room, first_full}
use Rattle.model_file.proofs.sys_line.least_from.Goals as goal

pub returns-then-has_name_after : goal.returns-then-has_name_after
returns-then-has_name_after c = rw (c.in-Some.is, c.from.ensures) (first_room c.args.version c.in-Some.edge (c.has_name_after.ensures.0 c.if-has_name_after.true))

pub returns-else-has_name_after : goal.returns-else-has_name_after
returns-else-has_name_after c = rw (c.in-Some.is, c.from-else-has_name_after.ensures) (first_full c.args.version c.in-Some.edge (λ room. false≢true (sym c.if-has_name_after.false ∙ c.has_name_after.ensures.1 room)))

pub returns-in-None : goal.returns-in-None
returns-in-None c = rw c.in-None.is (least_none (IsSpelledSys c.args.version) (λ e. e.from) name_order 4294967296 (free_from c.args.version))
