-- For private contracts and proofs alone: single parts of lists of trees, and the items of a body.
use Rattle.std.specs.Prelude.{List, Option, None, Some}
use Rattle.std.specs.Borrow.{Bor}
use Rattle.c_syntax.specs.declared.tree.DeclPart.{DeclPart}
use Rattle.c_syntax.specs.declared.tree.BlockItem.{BlockItem}
use Rattle.c_syntax.specs.Tree.{Parts, more_parts, BlockItems, no_block_items, block_stmt, Stmt}
use Rattle.c_syntax.specs.View.{declarator_of}
use Rattle.c_syntax.specs.UnitView.{maybe_init_of}
use Rattle.c_syntax.specs.WritesUnit.{block_items_of}

abbrev pub part_before : DeclPart → Parts → Parts
part_before p rest = more_parts (declarator_of p.declarator) (maybe_init_of p.init) rest

-- the items of a block, or else the statement alone
abbrev pub items_where : Option (Bor (List BlockItem)) → Stmt → BlockItems
items_where None s = block_stmt s no_block_items
items_where (Some list) s = block_items_of list.now
