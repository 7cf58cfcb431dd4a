use Rattle.std.proofs.Common.{map, ap, ◌∙◌}
use Rattle.c_syntax.specs.UnitView.{init_of}
use Rattle.c_syntax_nodes.proofs.CopyLemmas.{list_same}
use Rattle.c_syntax_nodes.proofs.parts.+copying_init.Goals as goal

pub copy_init-returns-in_ok-values-in-List : goal.copy_init-returns-in_ok-values-in-List
copy_init-returns-in_ok-values-in-List t c = c.list_node.ensures ∙ list_same c.args.i.now c.in-List.inits c.in_ok-values-in-List.values c.in-List.is (c.in_ok-values-in-List.ensures ∙ ap (map init_of) c.deref.ensures.value)
