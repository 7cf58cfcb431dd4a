use Rattle.std.proofs.Common.{map, ap, ◌∙◌}
use Rattle.std.proofs.lemmas.List.{take_all}
use Rattle.c_syntax_nodes.specs.Copied.{member_of}
use Rattle.c_syntax_nodes.proofs.CopyLemmas.{same_members}
use Rattle.c_syntax_nodes.proofs.parts.copy_members.Goals as goal

pub returns : goal.returns
returns c = same_members c.loop-i.copied.items c.args.members.now (c.loop-i.invariant ∙ ap (map member_of) (take_all c.loop-i.i c.args.members.now c.loop-i-test.false))
