use Rattle.std.proofs.Common.{map, ap, ◌∙◌}
use Rattle.std.proofs.lemmas.List.{take_all}
use Rattle.c_syntax_nodes.specs.Copied.{part_of}
use Rattle.c_syntax_nodes.proofs.CopyLemmas.{same_parts}
use Rattle.c_syntax_nodes.proofs.parts.copy_parts.Goals as goal

pub returns : goal.returns
returns c = same_parts c.loop-i.copied.items c.args.ps.now (c.loop-i.invariant ∙ ap (map part_of) (take_all c.loop-i.i c.args.ps.now c.loop-i-test.false))
