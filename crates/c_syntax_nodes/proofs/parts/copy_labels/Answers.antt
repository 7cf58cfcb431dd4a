use Rattle.std.proofs.Common.{map, ap, ◌∙◌}
use Rattle.std.proofs.lemmas.List.{take_all}
use Rattle.c_syntax_nodes.specs.Copied.{label_of}
use Rattle.c_syntax_nodes.proofs.CopyLemmas.{same_labels}
use Rattle.c_syntax_nodes.proofs.parts.copy_labels.Goals as goal

pub returns : goal.returns
returns c = same_labels c.loop-i.copied.items c.args.labels.now (c.loop-i.invariant ∙ ap (map label_of) (take_all c.loop-i.i c.args.labels.now c.loop-i-test.false))
