-- Units as texts spell them: constants are in range, strings are shorter than texts, a comma has a member, a struct has a member, and functions have names.
use Rattle.std.specs.Prelude.{◌≤◌, ◌<◌, ◌≤ℤ◌, length, true, false, pos, negsuc, Option, Some, None}
use Rattle.dm_base.specs.Name.{IsName}
use Rattle.c_syntax.specs.Tree.{Ident, Expr, a_name, an_int, a_char, a_str, comma, sizeof_type, cast, call, member, postfix, prefix, unary, index, binary, assign, conditional, Exprs, no_exprs, more_exprs, Maybe, absent, there}
use Rattle.c_syntax.specs.Tree.{Init, one, list, Inits, no_inits, more_inits, MaybeInit, no_init, an_init, Parts, no_parts, more_parts, Decl, decl}
use Rattle.c_syntax.specs.Tree.{First, first_absent, first_expr, first_decl}
use Rattle.c_syntax.specs.Tree.{Stmt, block, empty, evaluate, only_if, if_else, while_loop, do_loop, for_loop, switch_on, break_off, continue_on, return_from}
use Rattle.c_syntax.specs.Tree.{BlockItems, no_block_items, block_decl, block_stmt, Stmts, no_stmts, more_stmts, Groups, no_groups, more_groups}
use Rattle.c_syntax.specs.Tree.{no_declarators, more_declarators, Members, no_members, more_members, Item, struct_item, enum_item, tag_item, decl_item, function_item, Items, no_items, more_items}
use Rattle.c_rules.specs.Declarators.{name_of}

-- one or more
abbrev pub AreSomeExprs : Exprs → Type 0
AreSomeExprs no_exprs = ⊥
AreSomeExprs (more_exprs e es) = Unit {0}

abbrev mutual
  pub IsLexical : Expr → Type 0
  IsLexical (a_name at x) = Unit {0}
  IsLexical (an_int at n true) = n < 4294967296
  IsLexical (an_int at n false) = n < 2147483648
  IsLexical (a_char at c) = (negsuc 127 ≤ℤ c) × (c ≤ℤ pos 127)
  IsLexical (a_str at w) = length w ≤ 16777216
  IsLexical (comma at es) = AreSomeExprs es × AreLexical es
  IsLexical (sizeof_type at t) = Unit {0}
  IsLexical (cast at t e) = IsLexical e
  IsLexical (call at d es) = IsLexical d × AreLexical es
  IsLexical (member at how e x) = IsLexical e
  IsLexical (postfix at op e) = IsLexical e
  IsLexical (prefix at op e) = IsLexical e
  IsLexical (unary at op e) = IsLexical e
  IsLexical (index at e f) = IsLexical e × IsLexical f
  IsLexical (binary at op e f) = IsLexical e × IsLexical f
  IsLexical (assign at op e f) = IsLexical e × IsLexical f
  IsLexical (conditional at c e f) = IsLexical c × IsLexical e × IsLexical f

  pub AreLexical : Exprs → Type 0
  AreLexical no_exprs = Unit {0}
  AreLexical (more_exprs e es) = IsLexical e × AreLexical es

abbrev pub IsMaybeLexical : Maybe → Type 0
IsMaybeLexical absent = Unit {0}
IsMaybeLexical (there e) = IsLexical e

abbrev mutual
  pub IsInitLexical : Init → Type 0
  IsInitLexical (one at e) = IsLexical e
  IsInitLexical (list at is) = AreInitsLexical is

  pub AreInitsLexical : Inits → Type 0
  AreInitsLexical no_inits = Unit {0}
  AreInitsLexical (more_inits i is) = IsInitLexical i × AreInitsLexical is

abbrev pub IsMaybeInitLexical : MaybeInit → Type 0
IsMaybeInitLexical no_init = Unit {0}
IsMaybeInitLexical (an_init i) = IsInitLexical i

abbrev pub ArePartsLexical : Parts → Type 0
ArePartsLexical no_parts = Unit {0}
ArePartsLexical (more_parts d m ps) = IsMaybeInitLexical m × ArePartsLexical ps

abbrev pub IsDeclLexical : Decl → Type 0
IsDeclLexical (decl at class s ps) = ArePartsLexical ps

abbrev pub IsFirstLexical : First → Type 0
IsFirstLexical first_absent = Unit {0}
IsFirstLexical (first_expr e) = IsLexical e
IsFirstLexical (first_decl d) = IsDeclLexical d

abbrev mutual
  pub IsStmtLexical : Stmt → Type 0
  IsStmtLexical (block at is) = AreItemsLexical is
  IsStmtLexical (empty at) = Unit {0}
  IsStmtLexical (evaluate at e) = IsLexical e
  IsStmtLexical (only_if at e s) = IsLexical e × IsStmtLexical s
  IsStmtLexical (if_else at e s t) = IsLexical e × IsStmtLexical s × IsStmtLexical t
  IsStmtLexical (while_loop at e s) = IsLexical e × IsStmtLexical s
  IsStmtLexical (do_loop at s e) = IsStmtLexical s × IsLexical e
  IsStmtLexical (for_loop at first test step s) = IsFirstLexical first × IsMaybeLexical test × IsMaybeLexical step × IsStmtLexical s
  IsStmtLexical (switch_on at e gs) = IsLexical e × AreGroupsLexical gs
  IsStmtLexical (break_off at) = Unit {0}
  IsStmtLexical (continue_on at) = Unit {0}
  IsStmtLexical (return_from at m) = IsMaybeLexical m

  pub AreItemsLexical : BlockItems → Type 0
  AreItemsLexical no_block_items = Unit {0}
  AreItemsLexical (block_decl d is) = IsDeclLexical d × AreItemsLexical is
  AreItemsLexical (block_stmt s is) = IsStmtLexical s × AreItemsLexical is

  pub AreStmtsLexical : Stmts → Type 0
  AreStmtsLexical no_stmts = Unit {0}
  AreStmtsLexical (more_stmts s ss) = IsStmtLexical s × AreStmtsLexical ss

  pub AreGroupsLexical : Groups → Type 0
  AreGroupsLexical no_groups = Unit {0}
  AreGroupsLexical (more_groups ls ss gs) = AreStmtsLexical ss × AreGroupsLexical gs

abbrev pub AreSomeMembers : Members → Type 0
AreSomeMembers no_members = ⊥
AreSomeMembers (more_members at s no_declarators ms) = ⊥
AreSomeMembers (more_members at s (more_declarators d ds) ms) = Unit {0}

abbrev pub IsNamed : Option Ident → Type 0
IsNamed None = Unit {0}
IsNamed (Some x) = IsName x.name

abbrev pub IsItemLexical : Item → Type 0
IsItemLexical (struct_item at x ms) = AreSomeMembers ms
IsItemLexical (enum_item at x es) = Unit {0}
IsItemLexical (tag_item at x) = Unit {0}
IsItemLexical (decl_item at d) = IsDeclLexical d
IsItemLexical (function_item at class s d body) = IsNamed (name_of d) × IsStmtLexical body

abbrev pub IsUnitLexical : Items → Type 0
IsUnitLexical no_items = Unit {0}
IsUnitLexical (more_items i is) = IsItemLexical i × IsUnitLexical is
