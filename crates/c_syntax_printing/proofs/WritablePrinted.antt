-- What is written with tokens that there are: each tree that is writable is printed so.
use Rattle.std.proofs.Common.{lit<}
use Rattle.c_syntax.specs.Tree.{Storage, no_storage, static, extern, Spec, void, char, unsigned_char, int, unsigned_int, struct, enum}
use Rattle.c_syntax.specs.Tree.{Expr, a_name, an_int, a_char, a_str, comma, sizeof_type, cast, call, member, postfix, prefix, unary, index, binary, assign, conditional, Exprs, no_exprs, more_exprs, Maybe, absent, there}
use Rattle.c_syntax.specs.Tree.{TypeName, type_name, Declarator, nothing, named, pointer, array, function, Params, no_params, more_params}
use Rattle.c_syntax.specs.Tree.{Init, one, list, Inits, no_inits, more_inits, MaybeInit, no_init, an_init, Parts, no_parts, more_parts, Decl, decl, First, first_absent, first_expr, first_decl, Labels, no_labels, case_label, default_label}
use Rattle.c_syntax.specs.Tree.{Stmt, block, empty, evaluate, only_if, if_else, while_loop, do_loop, for_loop, switch_on, break_off, continue_on, return_from, BlockItems, no_block_items, block_decl, block_stmt, Stmts, no_stmts, more_stmts, Groups, no_groups, more_groups}
use Rattle.c_syntax.specs.Tree.{Declarators, no_declarators, more_declarators, Members, no_members, more_members, Enumerators, no_enumerators, more_enumerators, Tag, no_tag, tag, Item, struct_item, enum_item, tag_item, decl_item, function_item, Items, no_items, more_items}
use Rattle.c_syntax.specs.Print.{storage_kinds, spec_kinds, is_bare, is_direct, expr_kinds, list_kinds, next_kinds, size_kinds, type_kinds, declarator_kinds, params_kinds, next_params, operand_kinds, maybe_kinds, init_kinds, inits_kinds, next_inits, maybe_init_kinds, next_parts, parts_kinds, decl_kinds, first_kinds, labels_kinds, head_kinds, stmt_kinds, block_items_kinds, stmts_kinds, groups_kinds, next_declarators, declarators_kinds, members_kinds, enumerator_value_kinds, next_enumerators, enumerators_kinds, tag_kinds, item_kinds, unit_kinds}
use Rattle.c_syntax_printing.proofs.KindsPrinted.{Prints, wraps}
use Rattle.c_syntax_printing.specs.Writable.{IsWritableSpec, IsWritable, AreWritable, IsWritableMaybe, IsWritableType, IsWritableDeclarator, AreWritableParams, IsWritableInit, AreWritableInits, IsWritableMaybeInit, AreWritableParts, IsWritableDecl, IsWritableFirst, AreWritableLabels, IsWritableStmt, AreWritableBlockItems, AreWritableStmts, AreWritableGroups, AreWritableDeclarators, AreWritableMembers, AreWritableEnumerators, IsWritableTag, IsWritableItem, AreWritableItems}
use Rattle.c_syntax_printing.proofs.KindsPrinted.{prefix_is, postfix_is, access_is}

storage : (s : Storage) → Prints (storage_kinds s)
storage no_storage = record { put = λ k h. h }
storage static = record { put = λ k h. (lit< tt, h) }
storage extern = record { put = λ k h. (lit< tt, h) }

spec : (s : Spec) → IsWritableSpec s → Prints (spec_kinds s)
spec void w = record { put = λ k h. (lit< tt, h) }
spec char w = record { put = λ k h. (lit< tt, h) }
spec unsigned_char w = record { put = λ k h. (lit< tt, (lit< tt, h)) }
spec int w = record { put = λ k h. (lit< tt, h) }
spec unsigned_int w = record { put = λ k h. (lit< tt, (lit< tt, h)) }
spec (struct x) w = record { put = λ k h. (lit< tt, (w, h)) }
spec (enum x) w = record { put = λ k h. (lit< tt, (w, h)) }

mutual
  expr : (e : Expr) → IsWritable e → Prints (expr_kinds e)
  expr (a_name at x) w = record { put = λ k h. (w, h) }
  expr (an_int at n u) w = record { put = λ k h. (w, h) }
  expr (a_char at c) w = record { put = λ k h. (w, h) }
  expr (a_str at bytes) w = record { put = λ k h. (w, h) }
  expr (comma at es) w = record { put = λ k h. (list_prints es w).put k h }
  expr (sizeof_type at t) w = record { put = λ k h. (lit< tt, (lit< tt, (type_prints t w).put _ (lit< tt, h))) }
  expr (cast at t a) w = record { put = λ k h. (lit< tt, (type_prints t w.0).put _ (lit< tt, (wraps (is_bare a) (expr a w.1)).put k h)) }
  expr (call at a es) w = record { put = λ k h. (wraps (is_bare a) (expr a w.0)).put _ (lit< tt, (list_prints es w.1).put _ (lit< tt, h)) }
  expr (member at access a x) w = record { put = λ k h. (wraps (is_bare a) (expr a w.0)).put _ (access_is access, (w.1, h)) }
  expr (postfix at p a) w = record { put = λ k h. (wraps (is_bare a) (expr a w)).put _ (postfix_is p, h) }
  expr (prefix at p a) w = record { put = λ k h. (prefix_is p, (wraps (is_bare a) (expr a w)).put k h) }
  expr (unary at op a) w = record { put = λ k h. (w.0, (wraps (is_bare a) (expr a w.1)).put k h) }
  expr (index at a b) w = record { put = λ k h. (wraps (is_bare a) (expr a w.0)).put _ (lit< tt, (expr b w.1).put _ (lit< tt, h)) }
  expr (binary at o a b) w = record { put = λ k h. (wraps (is_bare a) (expr a w.1)).put _ (w.0, (wraps (is_bare b) (expr b w.2)).put k h) }
  expr (assign at op a b) w = record { put = λ k h. (wraps (is_bare a) (expr a w.1)).put _ (w.0, (wraps (is_bare b) (expr b w.2)).put k h) }
  expr (conditional at a b c) w =
      record { put = λ k h. (wraps (is_bare a) (expr a w.0)).put _ (lit< tt, (wraps (is_bare b) (expr b w.1)).put _ (lit< tt, (wraps (is_bare c) (expr c w.2)).put k h)) }

  next_print : (es : Exprs) → AreWritable es → Prints (next_kinds es)
  next_print no_exprs w = record { put = λ k h. h }
  next_print (more_exprs a rest) w = record { put = λ k h. (lit< tt, (wraps (is_bare a) (expr a w.0)).put _ ((next_print rest w.1).put k h)) }

  list_prints : (es : Exprs) → AreWritable es → Prints (list_kinds es)
  list_prints no_exprs w = record { put = λ k h. h }
  list_prints (more_exprs a rest) w = record { put = λ k h. (wraps (is_bare a) (expr a w.0)).put _ ((next_print rest w.1).put k h) }

  size_prints : (m : Maybe) → IsWritableMaybe m → Prints (size_kinds m)
  size_prints absent w = record { put = λ k h. h }
  size_prints (there e) w = record { put = λ k h. (wraps (is_bare e) (expr e w)).put k h }

  type_prints : (t : TypeName) → IsWritableType t → Prints (type_kinds t)
  type_prints (type_name at s e) w = record { put = λ k h. (spec s w.0).put _ ((declarator e w.1).put k h) }

  declarator : (e : Declarator) → IsWritableDeclarator e → Prints (declarator_kinds e)
  declarator nothing w = record { put = λ k h. h }
  declarator (named at x) w = record { put = λ k h. (w, h) }
  declarator (pointer at e) w = record { put = λ k h. (lit< tt, (declarator e w).put k h) }
  declarator (array at e size) w = record { put = λ k h. (wraps (is_direct e) (declarator e w.0)).put _ (lit< tt, (size_prints size w.1).put _ (lit< tt, h)) }
  declarator (function at e ps) w = record { put = λ k h. (wraps (is_direct e) (declarator e w.0)).put _ (lit< tt, (params_print ps w.1).put _ (lit< tt, h)) }

  params_print : (ps : Params) → AreWritableParams ps → Prints (params_kinds ps)
  params_print no_params w = record { put = λ k h. (lit< tt, h) }
  params_print (more_params at s e rest) w = record { put = λ k h. (spec s w.0).put _ ((declarator e w.1).put _ ((next_params_print rest w.2).put k h)) }

  next_params_print : (ps : Params) → AreWritableParams ps → Prints (next_params ps)
  next_params_print no_params w = record { put = λ k h. h }
  next_params_print (more_params at s e rest) w = record { put = λ k h. (lit< tt, (spec s w.0).put _ ((declarator e w.1).put _ ((next_params_print rest w.2).put k h))) }

operand : (e : Expr) → IsWritable e → Prints (operand_kinds e)
operand e w = record { put = λ k h. (wraps (is_bare e) (expr e w)).put k h }

maybe : (m : Maybe) → IsWritableMaybe m → Prints (maybe_kinds m)
maybe absent w = record { put = λ k h. h }
maybe (there e) w = record { put = λ k h. (expr e w).put k h }

mutual
  init : (i : Init) → IsWritableInit i → Prints (init_kinds i)
  init (one at e) w = record { put = λ k h. (operand e w).put k h }
  init (list at is) w = record { put = λ k h. (lit< tt, (inits is w).put _ (lit< tt, h)) }

  inits : (is : Inits) → AreWritableInits is → Prints (inits_kinds is)
  inits no_inits w = record { put = λ k h. h }
  inits (more_inits a rest) w = record { put = λ k h. (init a w.0).put _ ((next_inits_print rest w.1).put k h) }

  next_inits_print : (is : Inits) → AreWritableInits is → Prints (next_inits is)
  next_inits_print no_inits w = record { put = λ k h. h }
  next_inits_print (more_inits a rest) w = record { put = λ k h. (lit< tt, (init a w.0).put _ ((next_inits_print rest w.1).put k h)) }

maybe_init : (v : MaybeInit) → IsWritableMaybeInit v → Prints (maybe_init_kinds v)
maybe_init no_init w = record { put = λ k h. h }
maybe_init (an_init a) w = record { put = λ k h. (lit< tt, (init a w).put k h) }

next_parts_print : (ps : Parts) → AreWritableParts ps → Prints (next_parts ps)
next_parts_print no_parts w = record { put = λ k h. h }
next_parts_print (more_parts e v rest) w = record { put = λ k h. (lit< tt, (declarator e w.0).put _ ((maybe_init v w.1).put _ ((next_parts_print rest w.2).put k h))) }

parts : (ps : Parts) → AreWritableParts ps → Prints (parts_kinds ps)
parts no_parts w = record { put = λ k h. h }
parts (more_parts e v rest) w = record { put = λ k h. (declarator e w.0).put _ ((maybe_init v w.1).put _ ((next_parts_print rest w.2).put k h)) }

declaration : (d : Decl) → IsWritableDecl d → Prints (decl_kinds d)
declaration (decl at st s ps) w = record { put = λ k h. (storage st).put _ ((spec s w.0).put _ ((parts ps w.1).put _ (lit< tt, h))) }

first_prints : (f : First) → IsWritableFirst f → Prints (first_kinds f)
first_prints first_absent w = record { put = λ k h. (lit< tt, h) }
first_prints (first_expr e) w = record { put = λ k h. (expr e w).put _ (lit< tt, h) }
first_prints (first_decl x) w = record { put = λ k h. (declaration x w).put k h }

labels : (ls : Labels) → AreWritableLabels ls → Prints (labels_kinds ls)
labels no_labels w = record { put = λ k h. h }
labels (case_label at e rest) w = record { put = λ k h. (lit< tt, (operand e w.0).put _ (lit< tt, (labels rest w.1).put k h)) }
labels (default_label at rest) w = record { put = λ k h. (lit< tt, (lit< tt, (labels rest w).put k h)) }

head : (e : Expr) → IsWritable e → Prints (head_kinds e)
head e w = record { put = λ k h. (lit< tt, (expr e w).put _ (lit< tt, h)) }

mutual
  stmt : (s : Stmt) → IsWritableStmt s → Prints (stmt_kinds s)
  stmt (block at items) w = record { put = λ k h. (lit< tt, (block_items items w).put _ (lit< tt, h)) }
  stmt (empty at) w = record { put = λ k h. (lit< tt, h) }
  stmt (evaluate at e) w = record { put = λ k h. (expr e w).put _ (lit< tt, h) }
  stmt (only_if at e s) w = record { put = λ k h. (lit< tt, (head e w.0).put _ ((stmt s w.1).put k h)) }
  stmt (if_else at e s r) w = record { put = λ k h. (lit< tt, (head e w.0).put _ ((stmt s w.1).put _ (lit< tt, (stmt r w.2).put k h))) }
  stmt (while_loop at e s) w = record { put = λ k h. (lit< tt, (head e w.0).put _ ((stmt s w.1).put k h)) }
  stmt (do_loop at s e) w = record { put = λ k h. (lit< tt, (stmt s w.0).put _ (lit< tt, (head e w.1).put _ (lit< tt, h))) }
  stmt (for_loop at f test step s) w =
      record { put = λ k h. (lit< tt, (lit< tt, (first_prints f w.0).put _ ((maybe test w.1).put _ (lit< tt, (maybe step w.2).put _ (lit< tt, (stmt s w.3).put k h))))) }
  stmt (switch_on at e gs) w = record { put = λ k h. (lit< tt, (head e w.0).put _ (lit< tt, (groups gs w.1).put _ (lit< tt, h))) }
  stmt (break_off at) w = record { put = λ k h. (lit< tt, (lit< tt, h)) }
  stmt (continue_on at) w = record { put = λ k h. (lit< tt, (lit< tt, h)) }
  stmt (return_from at m) w = record { put = λ k h. (lit< tt, (maybe m w).put _ (lit< tt, h)) }

  block_items : (is : BlockItems) → AreWritableBlockItems is → Prints (block_items_kinds is)
  block_items no_block_items w = record { put = λ k h. h }
  block_items (block_decl x rest) w = record { put = λ k h. (declaration x w.0).put _ ((block_items rest w.1).put k h) }
  block_items (block_stmt s rest) w = record { put = λ k h. (stmt s w.0).put _ ((block_items rest w.1).put k h) }

  stmts : (ss : Stmts) → AreWritableStmts ss → Prints (stmts_kinds ss)
  stmts no_stmts w = record { put = λ k h. h }
  stmts (more_stmts s rest) w = record { put = λ k h. (stmt s w.0).put _ ((stmts rest w.1).put k h) }

  groups : (gs : Groups) → AreWritableGroups gs → Prints (groups_kinds gs)
  groups no_groups w = record { put = λ k h. h }
  groups (more_groups ls ss rest) w = record { put = λ k h. (labels ls w.0).put _ ((stmts ss w.1).put _ ((groups rest w.2).put k h)) }

next_declarators_print : (es : Declarators) → AreWritableDeclarators es → Prints (next_declarators es)
next_declarators_print no_declarators w = record { put = λ k h. h }
next_declarators_print (more_declarators e rest) w = record { put = λ k h. (lit< tt, (declarator e w.0).put _ ((next_declarators_print rest w.1).put k h)) }

declarators : (es : Declarators) → AreWritableDeclarators es → Prints (declarators_kinds es)
declarators no_declarators w = record { put = λ k h. h }
declarators (more_declarators e rest) w = record { put = λ k h. (declarator e w.0).put _ ((next_declarators_print rest w.1).put k h) }

members : (ms : Members) → AreWritableMembers ms → Prints (members_kinds ms)
members no_members w = record { put = λ k h. h }
members (more_members at s es rest) w = record { put = λ k h. (spec s w.0).put _ ((declarators es w.1).put _ (lit< tt, (members rest w.2).put k h)) }

enumerator_value : (m : Maybe) → IsWritableMaybe m → Prints (enumerator_value_kinds m)
enumerator_value absent w = record { put = λ k h. h }
enumerator_value (there e) w = record { put = λ k h. (lit< tt, (operand e w).put k h) }

next_enumerators_print : (es : Enumerators) → AreWritableEnumerators es → Prints (next_enumerators es)
next_enumerators_print no_enumerators w = record { put = λ k h. h }
next_enumerators_print (more_enumerators x m rest) w = record { put = λ k h. (lit< tt, (w.0, (enumerator_value m w.1).put _ ((next_enumerators_print rest w.2).put k h))) }

enumerators : (es : Enumerators) → AreWritableEnumerators es → Prints (enumerators_kinds es)
enumerators no_enumerators w = record { put = λ k h. h }
enumerators (more_enumerators x m rest) w = record { put = λ k h. (w.0, (enumerator_value m w.1).put _ ((next_enumerators_print rest w.2).put k h)) }

tag_prints : (x : Tag) → IsWritableTag x → Prints (tag_kinds x)
tag_prints no_tag w = record { put = λ k h. h }
tag_prints (tag x) w = record { put = λ k h. (w, h) }

item : (a : Item) → IsWritableItem a → Prints (item_kinds a)
item (struct_item at x ms) w = record { put = λ k h. (lit< tt, (w.0, (lit< tt, (members ms w.1).put _ (lit< tt, (lit< tt, h))))) }
item (enum_item at x es) w = record { put = λ k h. (lit< tt, (tag_prints x w.0).put _ (lit< tt, (enumerators es w.1).put _ (lit< tt, (lit< tt, h)))) }
item (tag_item at x) w = record { put = λ k h. (lit< tt, (w, (lit< tt, h))) }
item (decl_item at x) w = record { put = λ k h. (declaration x w).put k h }
item (function_item at st s e b) w = record { put = λ k h. (storage st).put _ ((spec s w.0).put _ ((declarator e w.1).put _ ((stmt b w.2).put k h))) }

pub unit : (u : Items) → AreWritableItems u → Prints (unit_kinds u)
unit no_items w = record { put = λ k h. h }
unit (more_items a rest) w = record { put = λ k h. (item a w.0).put _ ((unit rest w.1).put k h) }
