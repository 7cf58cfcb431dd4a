use Rattle.std.proofs.Common.{refl, arith}
use Rattle.model_file.proofs.SysLemmas.{name_after_past, name_after_same, name_after_only}
use Rattle.model_file.proofs.sys_line.has_name_after.Goals as goal

pub returns-then-index-lt23 : goal.returns-then-index-lt23
returns-then-index-lt23 c = (λ is. name_after_past c.args.version c.args.edge.now (omega (arith, c.index.ensures.index)), λ room. refl)

pub returns : goal.returns
returns c =
    (λ is. name_after_same c.args.version c.args.edge.now (omega (arith, c.index.ensures.index, c.index.ensures.known)) (c.has_end_after.ensures.0 is), λ room. c.has_end_after.ensures.1 (name_after_only c.args.version c.args.edge.now (omega (arith, c.index.ensures.index)) room))
