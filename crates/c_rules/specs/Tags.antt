-- The tags of structs that stand in a part of a unit, in the order of the text. The declarations of the instrumenter, all of whose names
-- are its own, may be left aside.
use Rattle.std.specs.Prelude.{Bool, true, false, ◌&&◌, List, [], ◌∷◌, ◌++◌, if◌then◌else◌, Option, Some, None}
use Rattle.c_syntax.specs.Tree.{Ident, Spec, Expr, a_name, an_int, a_char, a_str, comma, sizeof_type, cast, call, member, postfix, prefix, unary, index, binary, assign, conditional, Exprs, no_exprs, more_exprs, Maybe, absent, there}
use Rattle.c_syntax.specs.Tree.{TypeName, type_name, Declarator, nothing, named, pointer, array, function, Params, no_params, more_params}
use Rattle.c_syntax.specs.Tree.{Init, one, list, Inits, no_inits, more_inits, MaybeInit, no_init, an_init, Parts, no_parts, more_parts, Decl, decl}
use Rattle.c_syntax.specs.Tree.{First, first_absent, first_expr, first_decl, Labels, no_labels, case_label, default_label}
use Rattle.c_syntax.specs.Tree.{Stmt, block, empty, evaluate, only_if, if_else, while_loop, do_loop, for_loop, switch_on, break_off, continue_on, return_from}
use Rattle.c_syntax.specs.Tree.{BlockItems, no_block_items, block_decl, block_stmt, Stmts, no_stmts, more_stmts, Groups, no_groups, more_groups}
use Rattle.c_syntax.specs.Tree.{Declarators, no_declarators, more_declarators, Members, no_members, more_members, Enumerators, no_enumerators, more_enumerators}
use Rattle.c_syntax.specs.Tree.{Tag, Item, struct_item, enum_item, tag_item, decl_item, function_item, Items, no_items, more_items}
use Rattle.c_syntax.specs.Tree as syntax
use Rattle.c_rules.specs.Names.{Name, is_added}
use Rattle.c_rules.specs.Declarators.{name_of}

abbrev pub tags_of_spec : Spec → List Name
tags_of_spec (syntax.struct x) = x.name ∷ []
tags_of_spec s = []

abbrev mutual
  pub tags_of_expr : Expr → List Name
  tags_of_expr (a_name at x) = []
  tags_of_expr (an_int at n u) = []
  tags_of_expr (a_char at c) = []
  tags_of_expr (a_str at w) = []
  tags_of_expr (comma at es) = tags_of_exprs es
  tags_of_expr (sizeof_type at t) = tags_of_type t
  tags_of_expr (cast at t e) = tags_of_type t ++ tags_of_expr e
  tags_of_expr (call at d es) = tags_of_expr d ++ tags_of_exprs es
  tags_of_expr (member at how e x) = tags_of_expr e
  tags_of_expr (postfix at op e) = tags_of_expr e
  tags_of_expr (prefix at op e) = tags_of_expr e
  tags_of_expr (unary at op e) = tags_of_expr e
  tags_of_expr (index at e f) = tags_of_expr e ++ tags_of_expr f
  tags_of_expr (binary at op e f) = tags_of_expr e ++ tags_of_expr f
  tags_of_expr (assign at op e f) = tags_of_expr e ++ tags_of_expr f
  tags_of_expr (conditional at c e f) = tags_of_expr c ++ (tags_of_expr e ++ tags_of_expr f)

  pub tags_of_exprs : Exprs → List Name
  tags_of_exprs no_exprs = []
  tags_of_exprs (more_exprs e es) = tags_of_expr e ++ tags_of_exprs es

  pub tags_of_maybe : Maybe → List Name
  tags_of_maybe absent = []
  tags_of_maybe (there e) = tags_of_expr e

  pub tags_of_type : TypeName → List Name
  tags_of_type (type_name at s d) = tags_of_spec s ++ tags_of_declarator d

  pub tags_of_declarator : Declarator → List Name
  tags_of_declarator nothing = []
  tags_of_declarator (named at x) = []
  tags_of_declarator (pointer at d) = tags_of_declarator d
  tags_of_declarator (array at d size) = tags_of_declarator d ++ tags_of_maybe size
  tags_of_declarator (function at d ps) = tags_of_declarator d ++ tags_of_params ps

  pub tags_of_params : Params → List Name
  tags_of_params no_params = []
  tags_of_params (more_params at s d ps) = tags_of_spec s ++ (tags_of_declarator d ++ tags_of_params ps)

abbrev mutual
  pub tags_of_init : Init → List Name
  tags_of_init (one at e) = tags_of_expr e
  tags_of_init (list at is) = tags_of_inits is

  pub tags_of_inits : Inits → List Name
  tags_of_inits no_inits = []
  tags_of_inits (more_inits i is) = tags_of_init i ++ tags_of_inits is

abbrev pub tags_of_maybe_init : MaybeInit → List Name
tags_of_maybe_init no_init = []
tags_of_maybe_init (an_init i) = tags_of_init i

abbrev pub tags_of_parts : Parts → List Name
tags_of_parts no_parts = []
tags_of_parts (more_parts d m ps) = tags_of_declarator d ++ (tags_of_maybe_init m ++ tags_of_parts ps)

abbrev pub declares_added : Option Ident → Bool
declares_added None = false
declares_added (Some x) = is_added x.name

-- all names that are declared are the instrumenter's
abbrev pub are_added : Parts → Bool
are_added no_parts = true
are_added (more_parts d m ps) = declares_added (name_of d) && are_added ps

-- those of a declaration, or none where it is left aside
abbrev pub tags_of_decl : (aside : Bool) → Decl → List Name
tags_of_decl aside (decl at class s ps) = if aside && are_added ps then [] else tags_of_spec s ++ tags_of_parts ps

abbrev pub tags_of_first : (aside : Bool) → First → List Name
tags_of_first aside first_absent = []
tags_of_first aside (first_expr e) = tags_of_expr e
tags_of_first aside (first_decl d) = tags_of_decl aside d

abbrev pub tags_of_labels : Labels → List Name
tags_of_labels no_labels = []
tags_of_labels (case_label at e ls) = tags_of_expr e ++ tags_of_labels ls
tags_of_labels (default_label at ls) = tags_of_labels ls

abbrev mutual
  pub tags_of_stmt : (aside : Bool) → Stmt → List Name
  tags_of_stmt aside (block at is) = tags_of_block aside is
  tags_of_stmt aside (empty at) = []
  tags_of_stmt aside (evaluate at e) = tags_of_expr e
  tags_of_stmt aside (only_if at e s) = tags_of_expr e ++ tags_of_stmt aside s
  tags_of_stmt aside (if_else at e s t) = tags_of_expr e ++ (tags_of_stmt aside s ++ tags_of_stmt aside t)
  tags_of_stmt aside (while_loop at e s) = tags_of_expr e ++ tags_of_stmt aside s
  tags_of_stmt aside (do_loop at s e) = tags_of_stmt aside s ++ tags_of_expr e
  tags_of_stmt aside (for_loop at first test step s) =
      tags_of_first aside first ++ (tags_of_maybe test ++ (tags_of_maybe step ++ tags_of_stmt aside s))
  tags_of_stmt aside (switch_on at e gs) = tags_of_expr e ++ tags_of_groups aside gs
  tags_of_stmt aside (break_off at) = []
  tags_of_stmt aside (continue_on at) = []
  tags_of_stmt aside (return_from at m) = tags_of_maybe m

  pub tags_of_block : (aside : Bool) → BlockItems → List Name
  tags_of_block aside no_block_items = []
  tags_of_block aside (block_decl d is) = tags_of_decl aside d ++ tags_of_block aside is
  tags_of_block aside (block_stmt s is) = tags_of_stmt aside s ++ tags_of_block aside is

  pub tags_of_stmts : (aside : Bool) → Stmts → List Name
  tags_of_stmts aside no_stmts = []
  tags_of_stmts aside (more_stmts s ss) = tags_of_stmt aside s ++ tags_of_stmts aside ss

  pub tags_of_groups : (aside : Bool) → Groups → List Name
  tags_of_groups aside no_groups = []
  tags_of_groups aside (more_groups ls ss gs) = tags_of_labels ls ++ (tags_of_stmts aside ss ++ tags_of_groups aside gs)

abbrev pub tags_of_declarators : Declarators → List Name
tags_of_declarators no_declarators = []
tags_of_declarators (more_declarators d ds) = tags_of_declarator d ++ tags_of_declarators ds

abbrev pub tags_of_members : Members → List Name
tags_of_members no_members = []
tags_of_members (more_members at s ds ms) = tags_of_spec s ++ (tags_of_declarators ds ++ tags_of_members ms)

abbrev pub tags_of_enumerators : Enumerators → List Name
tags_of_enumerators no_enumerators = []
tags_of_enumerators (more_enumerators x m es) = tags_of_maybe m ++ tags_of_enumerators es

abbrev pub tags_of_item : (aside : Bool) → Item → List Name
tags_of_item aside (struct_item at x ms) = x.name ∷ tags_of_members ms
tags_of_item aside (enum_item at x es) = tags_of_enumerators es
tags_of_item aside (tag_item at x) = x.name ∷ []
tags_of_item aside (decl_item at d) = tags_of_decl aside d
tags_of_item aside (function_item at class s d body) = tags_of_spec s ++ (tags_of_declarator d ++ tags_of_stmt aside body)

abbrev pub tags_of_items : (aside : Bool) → Items → List Name
tags_of_items aside no_items = []
tags_of_items aside (more_items i is) = tags_of_item aside i ++ tags_of_items aside is
