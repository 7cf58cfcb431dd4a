-- For private contracts and proofs alone: single parts of lists of trees.
use Rattle.c_syntax.specs.declared.tree.Param.{Param as ParamTree}
use Rattle.c_syntax.specs.declared.tree.Label.{Label}
use Rattle.c_syntax.specs.declared.tree.DeclPart.{DeclPart}
use Rattle.c_syntax.specs.declared.tree.Member.{Member}
use Rattle.c_syntax.specs.declared.tree.Enumerator.{Enumerator}
use Rattle.c_syntax.specs.Tree.{Params, no_params, Labels, no_labels, Parts, no_parts, more_parts, Members, no_members, more_members, Enumerators, no_enumerators, more_enumerators}
use Rattle.c_syntax.specs.View.{ident_of, spec_of, declarator_of, param_before}
use Rattle.c_syntax.specs.UnitView.{maybe_of, label_before, maybe_init_of, declarators_of}

abbrev pub param_of : ParamTree → Params
param_of p = param_before p no_params

abbrev pub label_of : Label → Labels
label_of x = label_before x.at x.kind no_labels

abbrev pub part_of : DeclPart → Parts
part_of p = more_parts (declarator_of p.declarator) (maybe_init_of p.init) no_parts

abbrev pub member_of : Member → Members
member_of x = more_members x.at (spec_of x.spec) (declarators_of x.declarators.items) no_members

abbrev pub enumerator_of : Enumerator → Enumerators
enumerator_of x = more_enumerators (ident_of x.name) (maybe_of x.value) no_enumerators
