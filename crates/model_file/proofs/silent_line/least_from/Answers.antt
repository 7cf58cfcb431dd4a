use Rattle.model_file.proofs.SilentLemmas.{least_free, least_tied, least_past}
use Rattle.model_file.proofs.silent_line.least_from.Goals as goal

pub returns-then-edge-lt4294967295 : goal.returns-then-edge-lt4294967295
returns-then-edge-lt4294967295 c = rw (c.in-Some.is, c.from.ensures) (least_tied c.in-Some.edge c.if-edge-lt4294967295.true)

pub returns-else-edge-lt4294967295 : goal.returns-else-edge-lt4294967295
returns-else-edge-lt4294967295 c = rw (c.in-Some.is, c.from-else-edge-lt4294967295.ensures) (least_past c.in-Some.edge c.if-edge-lt4294967295.false)

pub returns-in-None : goal.returns-in-None
returns-in-None c = rw c.in-None.is least_free
