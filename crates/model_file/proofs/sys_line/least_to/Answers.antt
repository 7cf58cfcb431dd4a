use Rattle.std.proofs.Common.{sym, ◌∙◌}
use Rattle.std.proofs.lemmas.Bool.{false≢true}
use Rattle.model_file.specs.SysBounds.{IsNamed, pattern_order}
use Rattle.model_file.proofs.Levels.{least_none}
use Rattle.model_file.proofs.SysLemmas.{free_to, to_room, to_full}
use Rattle.model_file.proofs.sys_line.least_to.Goals as goal

pub returns-then-has_pattern_after : goal.returns-then-has_pattern_after
returns-then-has_pattern_after c = rw (c.in-Some.is, c.from.ensures) (λ from name same small known. to_room c.args.version from name c.in-Some.edge same small known (c.has_pattern_after.ensures.0 c.if-has_pattern_after.true))

pub returns-else-has_pattern_after : goal.returns-else-has_pattern_after
returns-else-has_pattern_after c = rw (c.in-Some.is, c.from-else-has_pattern_after.ensures) (λ from name same small known. to_full c.args.version from name c.in-Some.edge same small known (λ room. false≢true (sym c.if-has_pattern_after.false ∙ c.has_pattern_after.ensures.1 room)))

pub returns-in-None : goal.returns-in-None
returns-in-None c = rw c.in-None.is (λ from name same small known. least_none (IsNamed c.args.version from name) (λ e. e.to) pattern_order 4294967296 (free_to c.args.version from name small known))
