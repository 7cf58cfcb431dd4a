use Rattle.std.proofs.Common.{◌∙◌, ap}
use Rattle.c_tree.specs.Tree.{function}
use Rattle.c_tree.specs.View.{ctype_of, types_of}
use Rattle.c_tree.proofs.Rows.{function_is}
use Rattle.c_tree.specs.Prototypes.{type_meant}
use Rattle.flow_graph.proofs.TypesLemmas.{same_parameters}
use Rattle.flow_graph.proofs.sys_types.type_by.Goals as goal

pub returns : goal.returns
returns c = function_is c.in_ok-gives-2.gives c.in_ok-takes.takes ∙ ap (λ t. function t (types_of c.in_ok-takes.takes.items)) (ap ctype_of c.in_ok-gives-2.ensures.ok ∙ c.in_ok-gives.ensures) ∙ ap (function (type_meant c.args.p.now.gives)) (same_parameters c.in_ok-takes.takes.items c.args.p.now.takes.now c.in_ok-takes.ensures)
