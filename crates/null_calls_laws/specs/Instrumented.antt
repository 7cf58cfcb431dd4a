-- The instrumented unit: the two null calls are declared, each function declares its temporaries, and each marked call stands between its
-- null calls.
use Rattle.std.specs.Prelude.{ℕ, ◌+◌, List}
use Rattle.c_meaning.specs.Tree.{Program}
use Rattle.c_rules.specs.Tree.{no_storage, unsigned_int, void, nothing, named, function, no_params, more_params, no_init, no_parts, more_parts, decl}
use Rattle.c_rules.specs.Tree.{Stmt, block, BlockItems, Item, struct_item, enum_item, tag_item, decl_item, function_item, Items, no_items, more_items}
use Rattle.c_rules.specs.Names.{Name}
use Rattle.c_rules.specs.Functions.{items_of_body}
use Rattle.c_rules.specs.Variables.{calls_of_block}
use Rattle.c_rules.specs.Units.{tags_of}
use Rattle.null_calls_laws.specs.MarkedCalls.{Sites, sites_of}
use Rattle.null_calls_laws.specs.Temporaries.{pre_name, post_name, declared_before}
use Rattle.null_calls_laws.specs.InstrumentedStatements.{items_of_block, kept_of_block}

-- `void x ( unsigned int ) ;`
abbrev pub null_prototype : Name → Item
null_prototype x =
    decl_item 0 (decl 0 no_storage void (more_parts (function 0 (named 0 (record { name = x; at = 0 })) (more_params 0 unsigned_int nothing no_params)) no_init no_parts))

-- the calls in an item: in the body of a function alone, since a static object's initialiser has none
abbrev pub calls_of_item : Item → ℕ
calls_of_item (function_item at class s d body) = calls_of_block (items_of_body body)
calls_of_item i = 0

module _ (sites : Sites) (tags : List Name) where
  -- a function's body begins with the declarations of its temporaries
  abbrev pub body_of : (at before : ℕ) → BlockItems → Stmt
  body_of at b is = block at (declared_before tags at (kept_of_block sites b is) (items_of_block sites b is))

  abbrev pub item : (before : ℕ) → Item → Item
  item b (function_item at class s d body) = function_item at class s d (body_of at b (items_of_body body))
  item b (struct_item at x ms) = struct_item at x ms
  item b (enum_item at x es) = enum_item at x es
  item b (tag_item at x) = tag_item at x
  item b (decl_item at d) = decl_item at d

  abbrev pub items : (before : ℕ) → Items → Items
  items b no_items = no_items
  items b (more_items i is) = more_items (item b i) (items (b + calls_of_item i) is)

-- the unit with null calls round the marked calls of the program that it is typed as
abbrev pub instrumented_unit : Program → Items → Items
instrumented_unit p u = more_items (null_prototype pre_name) (more_items (null_prototype post_name) (items (sites_of p) (tags_of u) 0 u))
