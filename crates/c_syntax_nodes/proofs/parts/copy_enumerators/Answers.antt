use Rattle.std.proofs.Common.{map, ap, ◌∙◌}
use Rattle.std.proofs.lemmas.List.{take_all}
use Rattle.c_syntax_nodes.specs.Copied.{enumerator_of}
use Rattle.c_syntax_nodes.proofs.CopyLemmas.{same_enumerators}
use Rattle.c_syntax_nodes.proofs.parts.copy_enumerators.Goals as goal

pub returns : goal.returns
returns c = same_enumerators c.loop-i.copied.items c.args.list.now (c.loop-i.invariant ∙ ap (map enumerator_of) (take_all c.loop-i.i c.args.list.now c.loop-i-test.false))
