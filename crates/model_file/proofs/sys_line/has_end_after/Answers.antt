use Rattle.std.proofs.Common.{refl, arith}
use Rattle.model_file.proofs.SysLemmas.{end_after_past, end_after_same, end_after_only}
use Rattle.model_file.proofs.sys_line.has_end_after.Goals as goal

pub returns-then-edge-lt4294967295 : goal.returns-then-edge-lt4294967295
returns-then-edge-lt4294967295 c = (λ is. end_after_past c.args.version c.args.edge.now c.if-edge-lt4294967295.true, λ room. refl)

pub returns : goal.returns
returns c =
    (λ is. end_after_same c.args.version c.args.edge.now (omega arith) (c.has_pattern_after.ensures.0 is), λ room. c.has_pattern_after.ensures.1 (end_after_only c.args.version c.args.edge.now c.if-edge-lt4294967295.false room))
