-- How deep the counted nodes of a tree stand in each other: statements, expressions, declarators and initialisers in braces.
-- What stands inside one counted node, and inside no other below it, has the depth 1 more.
use Rattle.std.specs.Prelude.{ℕ, suc, max}
use Rattle.c_lexer.specs.Mode.{Mode}
use Rattle.c_lexer.specs.Mode.TheVariants.{Plain, Instrumented}
use Rattle.c_syntax.specs.Tree.{Expr, a_name, an_int, a_char, a_str, comma, sizeof_type, cast, call, member, postfix, prefix, unary, index, binary, assign, conditional}
use Rattle.c_syntax.specs.Tree.{Exprs, no_exprs, more_exprs, Maybe, absent, there, TypeName, type_name, Declarator, nothing, named, pointer, array, function, Params, no_params, more_params}
use Rattle.c_syntax.specs.Tree.{Init, one, list, Inits, no_inits, more_inits, MaybeInit, no_init, an_init, Parts, no_parts, more_parts, Decl, decl}
use Rattle.c_syntax.specs.Tree.{First, first_absent, first_expr, first_decl, Labels, no_labels, case_label, default_label}
use Rattle.c_syntax.specs.Tree.{Stmt, block, empty, evaluate, only_if, if_else, while_loop, do_loop, for_loop, switch_on, break_off, continue_on, return_from, BlockItems, no_block_items, block_decl, block_stmt, Stmts, no_stmts, more_stmts, Groups, no_groups, more_groups}
use Rattle.c_syntax.specs.Tree.{Declarators, no_declarators, more_declarators, Members, no_members, more_members, Enumerators, no_enumerators, more_enumerators, Item, struct_item, enum_item, tag_item, decl_item, function_item, Items, no_items, more_items}

-- the greatest depth of a counted node
abbrev pub deepest : Mode → ℕ
deepest Plain = 200
deepest Instrumented = 500

-- the greatest number of pairs of parentheses that make no node, round one token
abbrev pub most_pairs : ℕ
most_pairs = 500

abbrev mutual
  pub height : Expr → ℕ
  height (a_name at name) = 1
  height (an_int at number unsigned) = 1
  height (a_char at c) = 1
  height (a_str at bytes) = 1
  height (comma at es) = suc (height_of_exprs es)
  height (sizeof_type at n) = suc (height_of_type n)
  height (cast at n a) = suc (max (height_of_type n) (height a))
  height (call at a es) = suc (max (height a) (height_of_exprs es))
  height (member at access a ident) = suc (height a)
  height (postfix at p a) = suc (height a)
  height (prefix at p a) = suc (height a)
  height (unary at op a) = suc (height a)
  height (index at a b) = suc (max (height a) (height b))
  height (binary at o a b) = suc (max (height a) (height b))
  height (assign at op a b) = suc (max (height a) (height b))
  height (conditional at a b c) = suc (max (height a) (max (height b) (height c)))

  pub height_of_exprs : Exprs → ℕ
  height_of_exprs no_exprs = 0
  height_of_exprs (more_exprs a rest) = max (height a) (height_of_exprs rest)

  pub height_of_maybe : Maybe → ℕ
  height_of_maybe absent = 0
  height_of_maybe (there e) = height e

  pub height_of_type : TypeName → ℕ
  height_of_type (type_name at s e) = height_of_declarator e

  pub height_of_declarator : Declarator → ℕ
  height_of_declarator nothing = 0
  height_of_declarator (named at ident) = 1
  height_of_declarator (pointer at e) = suc (height_of_declarator e)
  height_of_declarator (array at e size) = suc (max (height_of_declarator e) (height_of_maybe size))
  height_of_declarator (function at e ps) = suc (max (height_of_declarator e) (height_of_params ps))

  pub height_of_params : Params → ℕ
  height_of_params no_params = 0
  height_of_params (more_params at s e rest) = max (height_of_declarator e) (height_of_params rest)

abbrev mutual
  pub height_of_init : Init → ℕ
  height_of_init (one at e) = height e
  height_of_init (list at is) = suc (height_of_inits is)

  pub height_of_inits : Inits → ℕ
  height_of_inits no_inits = 0
  height_of_inits (more_inits a rest) = max (height_of_init a) (height_of_inits rest)

abbrev pub height_of_maybe_init : MaybeInit → ℕ
height_of_maybe_init no_init = 0
height_of_maybe_init (an_init a) = height_of_init a

abbrev pub height_of_parts : Parts → ℕ
height_of_parts no_parts = 0
height_of_parts (more_parts e v rest) = max (height_of_declarator e) (max (height_of_maybe_init v) (height_of_parts rest))

abbrev pub height_of_decl : Decl → ℕ
height_of_decl (decl at st s ps) = height_of_parts ps

abbrev pub height_of_first : First → ℕ
height_of_first first_absent = 0
height_of_first (first_expr e) = height e
height_of_first (first_decl x) = height_of_decl x

abbrev pub height_of_labels : Labels → ℕ
height_of_labels no_labels = 0
height_of_labels (case_label at e rest) = max (height e) (height_of_labels rest)
height_of_labels (default_label at rest) = height_of_labels rest

abbrev mutual
  pub height_of_stmt : Stmt → ℕ
  height_of_stmt (block at items) = suc (height_of_block_items items)
  height_of_stmt (empty at) = 1
  height_of_stmt (evaluate at e) = suc (height e)
  height_of_stmt (only_if at e s) = suc (max (height e) (height_of_stmt s))
  height_of_stmt (if_else at e s r) = suc (max (height e) (max (height_of_stmt s) (height_of_stmt r)))
  height_of_stmt (while_loop at e s) = suc (max (height e) (height_of_stmt s))
  height_of_stmt (do_loop at s e) = suc (max (height_of_stmt s) (height e))
  height_of_stmt (for_loop at first test step s) = suc (max (height_of_first first) (max (height_of_maybe test) (max (height_of_maybe step) (height_of_stmt s))))
  height_of_stmt (switch_on at e gs) = suc (max (height e) (height_of_groups gs))
  height_of_stmt (break_off at) = 1
  height_of_stmt (continue_on at) = 1
  height_of_stmt (return_from at e) = suc (height_of_maybe e)

  pub height_of_block_items : BlockItems → ℕ
  height_of_block_items no_block_items = 0
  height_of_block_items (block_decl x rest) = max (height_of_decl x) (height_of_block_items rest)
  height_of_block_items (block_stmt s rest) = max (height_of_stmt s) (height_of_block_items rest)

  pub height_of_stmts : Stmts → ℕ
  height_of_stmts no_stmts = 0
  height_of_stmts (more_stmts s rest) = max (height_of_stmt s) (height_of_stmts rest)

  pub height_of_groups : Groups → ℕ
  height_of_groups no_groups = 0
  height_of_groups (more_groups ls ss rest) = max (height_of_labels ls) (max (height_of_stmts ss) (height_of_groups rest))

abbrev pub height_of_declarators : Declarators → ℕ
height_of_declarators no_declarators = 0
height_of_declarators (more_declarators e rest) = max (height_of_declarator e) (height_of_declarators rest)

abbrev pub height_of_members : Members → ℕ
height_of_members no_members = 0
height_of_members (more_members at s es rest) = max (height_of_declarators es) (height_of_members rest)

abbrev pub height_of_enumerators : Enumerators → ℕ
height_of_enumerators no_enumerators = 0
height_of_enumerators (more_enumerators ident e rest) = max (height_of_maybe e) (height_of_enumerators rest)

abbrev pub height_of_item : Item → ℕ
height_of_item (struct_item at ident ms) = height_of_members ms
height_of_item (enum_item at g es) = height_of_enumerators es
height_of_item (tag_item at ident) = 0
height_of_item (decl_item at x) = height_of_decl x
height_of_item (function_item at st s e b) = max (height_of_declarator e) (height_of_stmt b)

abbrev pub height_of_unit : Items → ℕ
height_of_unit no_items = 0
height_of_unit (more_items a rest) = max (height_of_item a) (height_of_unit rest)
