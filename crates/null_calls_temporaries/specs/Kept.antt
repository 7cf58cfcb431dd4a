-- What the temporaries of the code stand for, and items of a block before others.
use Rattle.std.specs.Prelude.{ℕ, List, [], ◌∷◌, map}
use Rattle.c_tree.specs.View.{ctype_of}
use Rattle.c_syntax.specs.declared.tree.BlockItem.{BlockItem}
use Rattle.c_syntax.specs.Tree.{Spec, Declarator, Decl, decl, no_storage, more_parts, no_init, no_parts, BlockItems}
use Rattle.c_syntax.specs.UnitView.{block_item_before}
use Rattle.null_calls_laws.specs.Temporaries as term
use Rattle.null_calls_temporaries.specs.declared.temporaries.Temporary.{Temporary}

abbrev pub temporary_of : Temporary → term.Temporary
temporary_of x = record { name = x.name; ctype = ctype_of x.ctype.now }

abbrev pub temporaries_of : List Temporary → List term.Temporary
temporaries_of xs = map temporary_of xs

-- items of a block, and then others
abbrev pub items_onto : List BlockItem → BlockItems → BlockItems
items_onto [] rest = rest
items_onto (x ∷ xs) rest = block_item_before x (items_onto xs rest)

-- a declaration of one variable without a storage class or an initialiser
abbrev pub alone : ℕ → Spec → Declarator → Decl
alone at s d = decl at no_storage s (more_parts d no_init no_parts)
