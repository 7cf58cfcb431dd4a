-- The depth of nodes is seen without places.
use Rattle.std.proofs.Common.{◌≡◌, ℕ, suc, max, refl, ap, sym, ◌∙◌}
use Rattle.c_syntax.specs.Tree.{Expr, comma, sizeof_type, cast, call, member, postfix, prefix, unary, index, binary, assign, conditional}
use Rattle.c_syntax.specs.Tree.{Exprs, no_exprs, more_exprs, Maybe, absent, there, TypeName, type_name, Declarator, pointer, array, function, Params, no_params, more_params}
use Rattle.c_syntax.specs.Tree.{Init, one, list, Inits, no_inits, more_inits, MaybeInit, no_init, an_init, Parts, no_parts, more_parts, Decl, decl}
use Rattle.c_syntax.specs.Tree.{First, first_absent, first_expr, first_decl, Labels, no_labels, case_label, default_label}
use Rattle.c_syntax.specs.Tree.{Stmt, block, evaluate, only_if, if_else, while_loop, do_loop, for_loop, switch_on, return_from, BlockItems, no_block_items, block_decl, block_stmt, Stmts, no_stmts, more_stmts, Groups, no_groups, more_groups}
use Rattle.c_syntax.specs.Tree.{Declarators, no_declarators, more_declarators, Members, no_members, more_members, Enumerators, no_enumerators, more_enumerators, Item, struct_item, enum_item, tag_item, decl_item, function_item, Items, no_items, more_items}
use Rattle.c_syntax.specs.Limits.{height, height_of_exprs, height_of_maybe, height_of_type, height_of_declarator, height_of_params, height_of_init, height_of_inits, height_of_maybe_init, height_of_parts, height_of_decl, height_of_first, height_of_labels, height_of_stmt, height_of_block_items, height_of_stmts, height_of_groups, height_of_declarators, height_of_members, height_of_enumerators, height_of_item, height_of_unit}
use Rattle.c_syntax.specs.Same.{unplaced, unplaced_exprs, unplaced_maybe, unplaced_type, unplaced_declarator, unplaced_params, unplaced_init, unplaced_inits, unplaced_maybe_init, unplaced_parts, unplaced_decl, unplaced_first, unplaced_labels, unplaced_stmt, unplaced_block_items, unplaced_stmts, unplaced_groups, unplaced_declarators, unplaced_members, unplaced_enumerators, unplaced_item, unplaced_unit, AreSame}

pub both : {a b x y : ℕ} → a ≡ x → b ≡ y → max a b ≡ max x y
both p q = cc

mutual
  expr_height : (e : Expr) → height (unplaced e) ≡ height e
  expr_height (comma at es) = ap suc (exprs_height es)
  expr_height (sizeof_type at n) = ap suc (type_height n)
  expr_height (cast at n a) = ap suc (both (type_height n) (expr_height a))
  expr_height (call at a es) = ap suc (both (expr_height a) (exprs_height es))
  expr_height (member at access a x) = ap suc (expr_height a)
  expr_height (postfix at o a) = ap suc (expr_height a)
  expr_height (prefix at o a) = ap suc (expr_height a)
  expr_height (unary at op a) = ap suc (expr_height a)
  expr_height (index at a b) = ap suc (both (expr_height a) (expr_height b))
  expr_height (binary at o a b) = ap suc (both (expr_height a) (expr_height b))
  expr_height (assign at op a b) = ap suc (both (expr_height a) (expr_height b))
  expr_height (conditional at a b c) = ap suc (both (expr_height a) (both (expr_height b) (expr_height c)))
  expr_height e = refl

  exprs_height : (es : Exprs) → height_of_exprs (unplaced_exprs es) ≡ height_of_exprs es
  exprs_height no_exprs = refl
  exprs_height (more_exprs a es) = both (expr_height a) (exprs_height es)

  maybe_height : (e : Maybe) → height_of_maybe (unplaced_maybe e) ≡ height_of_maybe e
  maybe_height absent = refl
  maybe_height (there e) = expr_height e

  type_height : (n : TypeName) → height_of_type (unplaced_type n) ≡ height_of_type n
  type_height (type_name at s e) = declarator_height e

  declarator_height : (e : Declarator) → height_of_declarator (unplaced_declarator e) ≡ height_of_declarator e
  declarator_height (pointer at e) = ap suc (declarator_height e)
  declarator_height (array at e size) = ap suc (both (declarator_height e) (maybe_height size))
  declarator_height (function at e ps) = ap suc (both (declarator_height e) (params_height ps))
  declarator_height e = refl

  params_height : (ps : Params) → height_of_params (unplaced_params ps) ≡ height_of_params ps
  params_height no_params = refl
  params_height (more_params at s e ps) = both (declarator_height e) (params_height ps)

mutual
  init_height : (a : Init) → height_of_init (unplaced_init a) ≡ height_of_init a
  init_height (one at e) = expr_height e
  init_height (list at is) = ap suc (inits_height is)

  inits_height : (is : Inits) → height_of_inits (unplaced_inits is) ≡ height_of_inits is
  inits_height no_inits = refl
  inits_height (more_inits a is) = both (init_height a) (inits_height is)

maybe_init_height : (v : MaybeInit) → height_of_maybe_init (unplaced_maybe_init v) ≡ height_of_maybe_init v
maybe_init_height no_init = refl
maybe_init_height (an_init a) = init_height a

parts_height : (ps : Parts) → height_of_parts (unplaced_parts ps) ≡ height_of_parts ps
parts_height no_parts = refl
parts_height (more_parts e v ps) = both (declarator_height e) (both (maybe_init_height v) (parts_height ps))

decl_height : (x : Decl) → height_of_decl (unplaced_decl x) ≡ height_of_decl x
decl_height (decl at st s ps) = parts_height ps

first_height : (f : First) → height_of_first (unplaced_first f) ≡ height_of_first f
first_height first_absent = refl
first_height (first_expr e) = expr_height e
first_height (first_decl x) = decl_height x

labels_height : (ls : Labels) → height_of_labels (unplaced_labels ls) ≡ height_of_labels ls
labels_height no_labels = refl
labels_height (case_label at e ls) = both (expr_height e) (labels_height ls)
labels_height (default_label at ls) = labels_height ls

mutual
  stmt_height : (s : Stmt) → height_of_stmt (unplaced_stmt s) ≡ height_of_stmt s
  stmt_height (block at is) = ap suc (block_items_height is)
  stmt_height (evaluate at e) = ap suc (expr_height e)
  stmt_height (only_if at e s) = ap suc (both (expr_height e) (stmt_height s))
  stmt_height (if_else at e s r) = ap suc (both (expr_height e) (both (stmt_height s) (stmt_height r)))
  stmt_height (while_loop at e s) = ap suc (both (expr_height e) (stmt_height s))
  stmt_height (do_loop at s e) = ap suc (both (stmt_height s) (expr_height e))
  stmt_height (for_loop at f a b s) = ap suc (both (first_height f) (both (maybe_height a) (both (maybe_height b) (stmt_height s))))
  stmt_height (switch_on at e gs) = ap suc (both (expr_height e) (groups_height gs))
  stmt_height (return_from at e) = ap suc (maybe_height e)
  stmt_height s = refl

  block_items_height : (is : BlockItems) → height_of_block_items (unplaced_block_items is) ≡ height_of_block_items is
  block_items_height no_block_items = refl
  block_items_height (block_decl x is) = both (decl_height x) (block_items_height is)
  block_items_height (block_stmt s is) = both (stmt_height s) (block_items_height is)

  stmts_height : (ss : Stmts) → height_of_stmts (unplaced_stmts ss) ≡ height_of_stmts ss
  stmts_height no_stmts = refl
  stmts_height (more_stmts s ss) = both (stmt_height s) (stmts_height ss)

  groups_height : (gs : Groups) → height_of_groups (unplaced_groups gs) ≡ height_of_groups gs
  groups_height no_groups = refl
  groups_height (more_groups ls ss gs) = both (labels_height ls) (both (stmts_height ss) (groups_height gs))

declarators_height : (es : Declarators) → height_of_declarators (unplaced_declarators es) ≡ height_of_declarators es
declarators_height no_declarators = refl
declarators_height (more_declarators e es) = both (declarator_height e) (declarators_height es)

members_height : (ms : Members) → height_of_members (unplaced_members ms) ≡ height_of_members ms
members_height no_members = refl
members_height (more_members at s es ms) = both (declarators_height es) (members_height ms)

enumerators_height : (es : Enumerators) → height_of_enumerators (unplaced_enumerators es) ≡ height_of_enumerators es
enumerators_height no_enumerators = refl
enumerators_height (more_enumerators x e es) = both (maybe_height e) (enumerators_height es)

item_height : (a : Item) → height_of_item (unplaced_item a) ≡ height_of_item a
item_height (struct_item at x ms) = members_height ms
item_height (enum_item at g es) = enumerators_height es
item_height (tag_item at x) = refl
item_height (decl_item at x) = decl_height x
item_height (function_item at st s e b) = both (declarator_height e) (stmt_height b)

unit_height : (u : Items) → height_of_unit (unplaced_unit u) ≡ height_of_unit u
unit_height no_items = refl
unit_height (more_items a u) = both (item_height a) (unit_height u)

-- units that are the same have nodes of the same depth
pub same_height : (u v : Items) → AreSame u v → height_of_unit u ≡ height_of_unit v
same_height u v q = sym (unit_height u) ∙ (ap height_of_unit q ∙ unit_height v)
