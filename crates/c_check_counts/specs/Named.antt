-- For private contracts and proofs alone: what single parts of lists of trees hold.
use Rattle.std.specs.Prelude.{List, [], ◌∷◌, Bool, true, false, not, ◌&&◌, if◌then◌else◌}
use Rattle.c_syntax.specs.declared.tree.DeclPart.{DeclPart}
use Rattle.c_syntax.specs.declared.tree.BlockItem.{BlockItem}
use Rattle.c_syntax.specs.declared.tree.Group.{Group}
use Rattle.c_syntax.specs.Tree as syntax
use Rattle.c_syntax.specs.Tree.{Declarator, no_block_items, no_groups}
use Rattle.c_syntax.specs.View.{declarator_of}
use Rattle.c_syntax.specs.UnitView.{block_item_before, group_before, maybe_init_of}
use Rattle.c_check_scopes.specs.Names.{Name}
use Rattle.c_check_scopes.specs.Declarators.{name_of}
use Rattle.c_check_scopes.specs.Functions.{declares_function}
use Rattle.c_check_scopes.specs.Items.{defines}
use Rattle.c_check_scopes.specs.Variables as variables

abbrev pub name_of_part : DeclPart → Name
name_of_part p = variables.name_or_empty (name_of (declarator_of p.declarator))

abbrev pub names_of_block_item : BlockItem → List Name
names_of_block_item x = variables.names_of_block (block_item_before x no_block_items)

abbrev pub names_of_group : Group → List Name
names_of_group g = variables.names_of_groups (group_before g no_groups)

abbrev pub is_named : Declarator → Bool
is_named (syntax.named at x) = true
is_named d = false

abbrev pub is_object : syntax.Storage → DeclPart → Bool
is_object class p = not (declares_function (declarator_of p.declarator)) && defines class (maybe_init_of p.init)

abbrev pub objects_of_part : syntax.Storage → DeclPart → List Name
objects_of_part class p = if is_object class p then name_of_part p ∷ [] else []
