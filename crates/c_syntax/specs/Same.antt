-- Trees without their places: two that are the same without places are equal apart from places.
use Rattle.std.specs.Prelude.{◌≡◌}
use Rattle.c_syntax.specs.Tree.{Ident, Spec, void, char, unsigned_char, int, unsigned_int, struct, enum}
use Rattle.c_syntax.specs.Tree.{Expr, a_name, an_int, a_char, a_str, comma, sizeof_type, cast, call, member, postfix, prefix, unary, index, binary, assign, conditional}
use Rattle.c_syntax.specs.Tree.{Exprs, no_exprs, more_exprs, Maybe, absent, there, TypeName, type_name, Declarator, nothing, named, pointer, array, function, Params, no_params, more_params}
use Rattle.c_syntax.specs.Tree.{Init, one, list, Inits, no_inits, more_inits, MaybeInit, no_init, an_init, Parts, no_parts, more_parts, Decl, decl}
use Rattle.c_syntax.specs.Tree.{First, first_absent, first_expr, first_decl, Labels, no_labels, case_label, default_label}
use Rattle.c_syntax.specs.Tree.{Stmt, block, empty, evaluate, only_if, if_else, while_loop, do_loop, for_loop, switch_on, break_off, continue_on, return_from, BlockItems, no_block_items, block_decl, block_stmt, Stmts, no_stmts, more_stmts, Groups, no_groups, more_groups}
use Rattle.c_syntax.specs.Tree.{Declarators, no_declarators, more_declarators, Members, no_members, more_members, Enumerators, no_enumerators, more_enumerators, Tag, no_tag, tag, Item, struct_item, enum_item, tag_item, decl_item, function_item, Items, no_items, more_items}

-- in each of them every place is 0
abbrev pub unplaced_ident : Ident → Ident
unplaced_ident x = record { name = x.name; at = 0 }

abbrev pub unplaced_spec : Spec → Spec
unplaced_spec void = void
unplaced_spec char = char
unplaced_spec unsigned_char = unsigned_char
unplaced_spec int = int
unplaced_spec unsigned_int = unsigned_int
unplaced_spec (struct x) = struct (unplaced_ident x)
unplaced_spec (enum x) = enum (unplaced_ident x)

abbrev mutual
  pub unplaced : Expr → Expr
  unplaced (a_name at name) = a_name 0 name
  unplaced (an_int at number unsigned) = an_int 0 number unsigned
  unplaced (a_char at c) = a_char 0 c
  unplaced (a_str at bytes) = a_str 0 bytes
  unplaced (comma at es) = comma 0 (unplaced_exprs es)
  unplaced (sizeof_type at n) = sizeof_type 0 (unplaced_type n)
  unplaced (cast at n a) = cast 0 (unplaced_type n) (unplaced a)
  unplaced (call at a es) = call 0 (unplaced a) (unplaced_exprs es)
  unplaced (member at access a x) = member 0 access (unplaced a) (unplaced_ident x)
  unplaced (postfix at p a) = postfix 0 p (unplaced a)
  unplaced (prefix at p a) = prefix 0 p (unplaced a)
  unplaced (unary at op a) = unary 0 op (unplaced a)
  unplaced (index at a b) = index 0 (unplaced a) (unplaced b)
  unplaced (binary at o a b) = binary 0 o (unplaced a) (unplaced b)
  unplaced (assign at op a b) = assign 0 op (unplaced a) (unplaced b)
  unplaced (conditional at a b c) = conditional 0 (unplaced a) (unplaced b) (unplaced c)

  pub unplaced_exprs : Exprs → Exprs
  unplaced_exprs no_exprs = no_exprs
  unplaced_exprs (more_exprs a rest) = more_exprs (unplaced a) (unplaced_exprs rest)

  pub unplaced_maybe : Maybe → Maybe
  unplaced_maybe absent = absent
  unplaced_maybe (there e) = there (unplaced e)

  pub unplaced_type : TypeName → TypeName
  unplaced_type (type_name at s e) = type_name 0 (unplaced_spec s) (unplaced_declarator e)

  pub unplaced_declarator : Declarator → Declarator
  unplaced_declarator nothing = nothing
  unplaced_declarator (named at x) = named 0 (unplaced_ident x)
  unplaced_declarator (pointer at e) = pointer 0 (unplaced_declarator e)
  unplaced_declarator (array at e size) = array 0 (unplaced_declarator e) (unplaced_maybe size)
  unplaced_declarator (function at e ps) = function 0 (unplaced_declarator e) (unplaced_params ps)

  pub unplaced_params : Params → Params
  unplaced_params no_params = no_params
  unplaced_params (more_params at s e rest) = more_params 0 (unplaced_spec s) (unplaced_declarator e) (unplaced_params rest)

abbrev mutual
  pub unplaced_init : Init → Init
  unplaced_init (one at e) = one 0 (unplaced e)
  unplaced_init (list at is) = list 0 (unplaced_inits is)

  pub unplaced_inits : Inits → Inits
  unplaced_inits no_inits = no_inits
  unplaced_inits (more_inits a rest) = more_inits (unplaced_init a) (unplaced_inits rest)

abbrev pub unplaced_maybe_init : MaybeInit → MaybeInit
unplaced_maybe_init no_init = no_init
unplaced_maybe_init (an_init a) = an_init (unplaced_init a)

abbrev pub unplaced_parts : Parts → Parts
unplaced_parts no_parts = no_parts
unplaced_parts (more_parts e v rest) = more_parts (unplaced_declarator e) (unplaced_maybe_init v) (unplaced_parts rest)

abbrev pub unplaced_decl : Decl → Decl
unplaced_decl (decl at st s ps) = decl 0 st (unplaced_spec s) (unplaced_parts ps)

abbrev pub unplaced_first : First → First
unplaced_first first_absent = first_absent
unplaced_first (first_expr e) = first_expr (unplaced e)
unplaced_first (first_decl x) = first_decl (unplaced_decl x)

abbrev pub unplaced_labels : Labels → Labels
unplaced_labels no_labels = no_labels
unplaced_labels (case_label at e rest) = case_label 0 (unplaced e) (unplaced_labels rest)
unplaced_labels (default_label at rest) = default_label 0 (unplaced_labels rest)

abbrev mutual
  pub unplaced_stmt : Stmt → Stmt
  unplaced_stmt (block at items) = block 0 (unplaced_block_items items)
  unplaced_stmt (empty at) = empty 0
  unplaced_stmt (evaluate at e) = evaluate 0 (unplaced e)
  unplaced_stmt (only_if at e s) = only_if 0 (unplaced e) (unplaced_stmt s)
  unplaced_stmt (if_else at e s r) = if_else 0 (unplaced e) (unplaced_stmt s) (unplaced_stmt r)
  unplaced_stmt (while_loop at e s) = while_loop 0 (unplaced e) (unplaced_stmt s)
  unplaced_stmt (do_loop at s e) = do_loop 0 (unplaced_stmt s) (unplaced e)
  unplaced_stmt (for_loop at first test step s) = for_loop 0 (unplaced_first first) (unplaced_maybe test) (unplaced_maybe step) (unplaced_stmt s)
  unplaced_stmt (switch_on at e gs) = switch_on 0 (unplaced e) (unplaced_groups gs)
  unplaced_stmt (break_off at) = break_off 0
  unplaced_stmt (continue_on at) = continue_on 0
  unplaced_stmt (return_from at e) = return_from 0 (unplaced_maybe e)

  pub unplaced_block_items : BlockItems → BlockItems
  unplaced_block_items no_block_items = no_block_items
  unplaced_block_items (block_decl x rest) = block_decl (unplaced_decl x) (unplaced_block_items rest)
  unplaced_block_items (block_stmt s rest) = block_stmt (unplaced_stmt s) (unplaced_block_items rest)

  pub unplaced_stmts : Stmts → Stmts
  unplaced_stmts no_stmts = no_stmts
  unplaced_stmts (more_stmts s rest) = more_stmts (unplaced_stmt s) (unplaced_stmts rest)

  pub unplaced_groups : Groups → Groups
  unplaced_groups no_groups = no_groups
  unplaced_groups (more_groups ls ss rest) = more_groups (unplaced_labels ls) (unplaced_stmts ss) (unplaced_groups rest)

abbrev pub unplaced_declarators : Declarators → Declarators
unplaced_declarators no_declarators = no_declarators
unplaced_declarators (more_declarators e rest) = more_declarators (unplaced_declarator e) (unplaced_declarators rest)

abbrev pub unplaced_members : Members → Members
unplaced_members no_members = no_members
unplaced_members (more_members at s es rest) = more_members 0 (unplaced_spec s) (unplaced_declarators es) (unplaced_members rest)

abbrev pub unplaced_enumerators : Enumerators → Enumerators
unplaced_enumerators no_enumerators = no_enumerators
unplaced_enumerators (more_enumerators x e rest) = more_enumerators (unplaced_ident x) (unplaced_maybe e) (unplaced_enumerators rest)

abbrev pub unplaced_tag : Tag → Tag
unplaced_tag no_tag = no_tag
unplaced_tag (tag x) = tag (unplaced_ident x)

abbrev pub unplaced_item : Item → Item
unplaced_item (struct_item at x ms) = struct_item 0 (unplaced_ident x) (unplaced_members ms)
unplaced_item (enum_item at g es) = enum_item 0 (unplaced_tag g) (unplaced_enumerators es)
unplaced_item (tag_item at x) = tag_item 0 (unplaced_ident x)
unplaced_item (decl_item at x) = decl_item 0 (unplaced_decl x)
unplaced_item (function_item at st s e b) = function_item 0 st (unplaced_spec s) (unplaced_declarator e) (unplaced_stmt b)

abbrev pub unplaced_unit : Items → Items
unplaced_unit no_items = no_items
unplaced_unit (more_items a rest) = more_items (unplaced_item a) (unplaced_unit rest)

-- the units are equal apart from places
abbrev pub AreSame : Items → Items → Type 0
AreSame u v = unplaced_unit u ≡ unplaced_unit v
