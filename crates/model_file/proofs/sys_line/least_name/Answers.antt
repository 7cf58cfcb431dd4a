use Rattle.std.proofs.Common.{sym, ◌∙◌}
use Rattle.std.proofs.lemmas.Bool.{false≢true}
use Rattle.model_file.specs.SysBounds.{BeginsAt, end_order}
use Rattle.model_file.proofs.Levels.{least_none}
use Rattle.model_file.proofs.SysLemmas.{free_name, name_room, name_full}
use Rattle.model_file.proofs.sys_line.least_name.Goals as goal

pub returns-then-has_end_after : goal.returns-then-has_end_after
returns-then-has_end_after c = rw (c.in-Some.is, c.index.ensures.index) (λ from small. name_room c.args.version from c.in-Some.edge small (c.has_end_after.ensures.0 c.if-has_end_after.true))

pub returns-else-has_end_after : goal.returns-else-has_end_after
returns-else-has_end_after c = rw (c.in-Some.is, c.index-else-has_end_after.ensures.index) (λ from small. name_full c.args.version from c.in-Some.edge small (λ room. false≢true (sym c.if-has_end_after.false ∙ c.has_end_after.ensures.1 room)))

pub returns-in-None : goal.returns-in-None
returns-in-None c = rw c.in-None.is (λ from small. least_none (BeginsAt c.args.version from) (λ e. e.name) end_order 24 (free_name c.args.version from small))
