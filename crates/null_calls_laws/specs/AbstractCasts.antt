-- Casts whose names of types name no object, as those that texts spell are (C99 6.7.6).
use Rattle.c_syntax.specs.Tree.{Expr, a_name, an_int, a_char, a_str, comma, sizeof_type, cast, call, member, postfix, prefix, unary, index, binary, assign, conditional, Exprs, no_exprs, more_exprs, Maybe, absent, there}
use Rattle.c_syntax.specs.Tree.{Init, one, list, Inits, no_inits, more_inits, MaybeInit, no_init, an_init, Parts, no_parts, more_parts, Decl, decl}
use Rattle.c_syntax.specs.Tree.{First, first_absent, first_expr, first_decl}
use Rattle.c_syntax.specs.Tree.{Stmt, block, empty, evaluate, only_if, if_else, while_loop, do_loop, for_loop, switch_on, break_off, continue_on, return_from}
use Rattle.c_syntax.specs.Tree.{BlockItems, no_block_items, block_decl, block_stmt, Stmts, no_stmts, more_stmts, Groups, no_groups, more_groups, Item, decl_item, function_item, Items, no_items, more_items}
use Rattle.null_calls_laws.specs.Tabled.{IsAbstract}

abbrev mutual
  pub NamesNoType : Expr → Type 0
  NamesNoType (a_name at x) = Unit {0}
  NamesNoType (an_int at n u) = Unit {0}
  NamesNoType (a_char at c) = Unit {0}
  NamesNoType (a_str at w) = Unit {0}
  NamesNoType (comma at es) = NameNoTypes es
  NamesNoType (sizeof_type at t) = Unit {0}
  NamesNoType (cast at t e) = IsAbstract t × NamesNoType e
  NamesNoType (call at d es) = NamesNoType d × NameNoTypes es
  NamesNoType (member at how e x) = NamesNoType e
  NamesNoType (postfix at op e) = NamesNoType e
  NamesNoType (prefix at op e) = NamesNoType e
  NamesNoType (unary at op e) = NamesNoType e
  NamesNoType (index at e f) = NamesNoType e × NamesNoType f
  NamesNoType (binary at op e f) = NamesNoType e × NamesNoType f
  NamesNoType (assign at op e f) = NamesNoType e × NamesNoType f
  NamesNoType (conditional at c e f) = NamesNoType c × NamesNoType e × NamesNoType f

  pub NameNoTypes : Exprs → Type 0
  NameNoTypes no_exprs = Unit {0}
  NameNoTypes (more_exprs e es) = NamesNoType e × NameNoTypes es

abbrev pub MaybeNamesNoType : Maybe → Type 0
MaybeNamesNoType absent = Unit {0}
MaybeNamesNoType (there e) = NamesNoType e

abbrev mutual
  pub InitNamesNoType : Init → Type 0
  InitNamesNoType (one at e) = NamesNoType e
  InitNamesNoType (list at is) = InitsNameNoType is

  pub InitsNameNoType : Inits → Type 0
  InitsNameNoType no_inits = Unit {0}
  InitsNameNoType (more_inits i is) = InitNamesNoType i × InitsNameNoType is

abbrev pub MaybeInitNamesNoType : MaybeInit → Type 0
MaybeInitNamesNoType no_init = Unit {0}
MaybeInitNamesNoType (an_init i) = InitNamesNoType i

abbrev pub PartsNameNoType : Parts → Type 0
PartsNameNoType no_parts = Unit {0}
PartsNameNoType (more_parts d m ps) = MaybeInitNamesNoType m × PartsNameNoType ps

-- something is declared
abbrev pub AreThere : Parts → Type 0
AreThere no_parts = ⊥
AreThere (more_parts d m ps) = Unit {0}

abbrev pub DeclNamesNoType : Decl → Type 0
DeclNamesNoType (decl at class s ps) = AreThere ps × PartsNameNoType ps

abbrev pub FirstNamesNoType : First → Type 0
FirstNamesNoType first_absent = Unit {0}
FirstNamesNoType (first_expr e) = NamesNoType e
FirstNamesNoType (first_decl d) = DeclNamesNoType d

abbrev mutual
  pub StmtNamesNoType : Stmt → Type 0
  StmtNamesNoType (block at is) = BlockNamesNoType is
  StmtNamesNoType (empty at) = Unit {0}
  StmtNamesNoType (evaluate at e) = NamesNoType e
  StmtNamesNoType (only_if at e s) = NamesNoType e × StmtNamesNoType s
  StmtNamesNoType (if_else at e s t) = NamesNoType e × StmtNamesNoType s × StmtNamesNoType t
  StmtNamesNoType (while_loop at e s) = NamesNoType e × StmtNamesNoType s
  StmtNamesNoType (do_loop at s e) = StmtNamesNoType s × NamesNoType e
  StmtNamesNoType (for_loop at first test step s) = FirstNamesNoType first × MaybeNamesNoType test × MaybeNamesNoType step × StmtNamesNoType s
  StmtNamesNoType (switch_on at e gs) = NamesNoType e × GroupsNameNoType gs
  StmtNamesNoType (break_off at) = Unit {0}
  StmtNamesNoType (continue_on at) = Unit {0}
  StmtNamesNoType (return_from at m) = MaybeNamesNoType m

  pub BlockNamesNoType : BlockItems → Type 0
  BlockNamesNoType no_block_items = Unit {0}
  BlockNamesNoType (block_decl d is) = DeclNamesNoType d × BlockNamesNoType is
  BlockNamesNoType (block_stmt s is) = StmtNamesNoType s × BlockNamesNoType is

  pub StmtsNameNoType : Stmts → Type 0
  StmtsNameNoType no_stmts = Unit {0}
  StmtsNameNoType (more_stmts s ss) = StmtNamesNoType s × StmtsNameNoType ss

  pub GroupsNameNoType : Groups → Type 0
  GroupsNameNoType no_groups = Unit {0}
  GroupsNameNoType (more_groups ls ss gs) = StmtsNameNoType ss × GroupsNameNoType gs

-- in the bodies of functions and in declarations
abbrev pub ItemNamesNoType : Item → Type 0
ItemNamesNoType (function_item at class s d body) = StmtNamesNoType body
ItemNamesNoType (decl_item at d) = DeclNamesNoType d
ItemNamesNoType i = Unit {0}

abbrev pub UnitNamesNoType : Items → Type 0
UnitNamesNoType no_items = Unit {0}
UnitNamesNoType (more_items i is) = ItemNamesNoType i × UnitNamesNoType is
