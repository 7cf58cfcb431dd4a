use Rattle.std.proofs.Common.{map, ap, ◌∙◌}
use Rattle.std.proofs.lemmas.List.{take_all}
use Rattle.c_syntax.specs.View.{declarator_of}
use Rattle.c_syntax_nodes.proofs.CopyLemmas.{same_declarators}
use Rattle.c_syntax_nodes.proofs.parts.copy_declarators.Goals as goal

pub returns : goal.returns
returns c = same_declarators c.loop-i.copied.items c.args.ds.now (c.loop-i.invariant ∙ ap (map declarator_of) (take_all c.loop-i.i c.args.ds.now c.loop-i-test.false))
