-- Statements and units that tokens spell: lists that stand have members, declared names are there, an else has its if.
use Rattle.c_syntax.specs.Tree.{Init, one, list, Inits, no_inits, more_inits, MaybeInit, no_init, an_init, Parts, no_parts, more_parts, Decl, decl}
use Rattle.c_syntax.specs.Tree.{First, first_absent, first_expr, first_decl, Labels, no_labels, case_label, default_label}
use Rattle.c_syntax.specs.Tree.{Stmt, block, evaluate, only_if, if_else, while_loop, do_loop, for_loop, switch_on, return_from, BlockItems, no_block_items, block_decl, block_stmt, Stmts, no_stmts, more_stmts, Groups, no_groups, more_groups}
use Rattle.c_syntax.specs.Tree.{Declarators, no_declarators, more_declarators, Members, no_members, more_members, Enumerators, no_enumerators, more_enumerators, Item, struct_item, enum_item, tag_item, decl_item, function_item, Items, no_items, more_items}
use Rattle.c_syntax.specs.Grammar.{HasName}
use Rattle.c_syntax.specs.Statements.{IsPlainDecl, IsClosed}
use Rattle.c_syntax_printing.specs.Fine.{IsFine, IsFineMaybe, IsFineDeclarator}

abbrev mutual
  pub IsFineInit : Init → Type 0
  IsFineInit (one at e) = IsFine e
  IsFineInit (list at is) = AreSomeInits is

  -- one or more
  pub AreSomeInits : Inits → Type 0
  AreSomeInits no_inits = ⊥
  AreSomeInits (more_inits a rest) = IsFineInit a × AreFineInits rest

  pub AreFineInits : Inits → Type 0
  AreFineInits no_inits = Unit {0}
  AreFineInits (more_inits a rest) = IsFineInit a × AreFineInits rest

abbrev pub IsFineMaybeInit : MaybeInit → Type 0
IsFineMaybeInit no_init = Unit {0}
IsFineMaybeInit (an_init a) = IsFineInit a

abbrev pub AreFineParts : Parts → Type 0
AreFineParts no_parts = Unit {0}
AreFineParts (more_parts e v rest) = IsFineDeclarator e × HasName e × IsFineMaybeInit v × AreFineParts rest

abbrev pub AreSomeParts : Parts → Type 0
AreSomeParts no_parts = ⊥
AreSomeParts (more_parts e v rest) = AreFineParts (more_parts e v rest)

abbrev pub IsFineDecl : Decl → Type 0
IsFineDecl (decl at st s ps) = AreSomeParts ps

abbrev pub IsFineFirst : First → Type 0
IsFineFirst first_absent = Unit {0}
IsFineFirst (first_expr e) = IsFine e
IsFineFirst (first_decl x) = IsFineDecl x × IsPlainDecl x

abbrev pub AreFineLabels : Labels → Type 0
AreFineLabels no_labels = Unit {0}
AreFineLabels (case_label at e rest) = IsFine e × AreFineLabels rest
AreFineLabels (default_label at rest) = AreFineLabels rest

abbrev pub AreSomeLabels : Labels → Type 0
AreSomeLabels no_labels = ⊥
AreSomeLabels ls = AreFineLabels ls

abbrev mutual
  pub IsFineStmt : Stmt → Type 0
  IsFineStmt (block at items) = AreFineBlockItems items
  IsFineStmt (evaluate at e) = IsFine e
  IsFineStmt (only_if at e s) = IsFine e × IsFineStmt s
  IsFineStmt (if_else at e s r) = IsFine e × IsFineStmt s × IsClosed s × IsFineStmt r
  IsFineStmt (while_loop at e s) = IsFine e × IsFineStmt s
  IsFineStmt (do_loop at s e) = IsFineStmt s × IsFine e
  IsFineStmt (for_loop at first test step s) = IsFineFirst first × IsFineMaybe test × IsFineMaybe step × IsFineStmt s
  IsFineStmt (switch_on at e gs) = IsFine e × AreFineGroups gs
  IsFineStmt (return_from at e) = IsFineMaybe e
  IsFineStmt a = Unit {0}

  pub AreFineBlockItems : BlockItems → Type 0
  AreFineBlockItems no_block_items = Unit {0}
  AreFineBlockItems (block_decl x rest) = IsFineDecl x × IsPlainDecl x × AreFineBlockItems rest
  AreFineBlockItems (block_stmt s rest) = IsFineStmt s × AreFineBlockItems rest

  pub AreFineStmts : Stmts → Type 0
  AreFineStmts no_stmts = Unit {0}
  AreFineStmts (more_stmts s rest) = IsFineStmt s × AreFineStmts rest

  -- one or more
  pub AreSomeStmts : Stmts → Type 0
  AreSomeStmts no_stmts = ⊥
  AreSomeStmts (more_stmts s rest) = IsFineStmt s × AreFineStmts rest

  pub AreFineGroups : Groups → Type 0
  AreFineGroups no_groups = Unit {0}
  AreFineGroups (more_groups ls ss rest) = AreSomeLabels ls × AreSomeStmts ss × AreFineGroups rest

abbrev pub AreFineDeclarators : Declarators → Type 0
AreFineDeclarators no_declarators = Unit {0}
AreFineDeclarators (more_declarators e rest) = IsFineDeclarator e × HasName e × AreFineDeclarators rest

abbrev pub AreSomeDeclarators : Declarators → Type 0
AreSomeDeclarators no_declarators = ⊥
AreSomeDeclarators (more_declarators e rest) = IsFineDeclarator e × HasName e × AreFineDeclarators rest

abbrev pub AreFineMembers : Members → Type 0
AreFineMembers no_members = Unit {0}
AreFineMembers (more_members at s es rest) = AreSomeDeclarators es × AreFineMembers rest

abbrev pub AreSomeMembers : Members → Type 0
AreSomeMembers no_members = ⊥
AreSomeMembers (more_members at s es rest) = AreSomeDeclarators es × AreFineMembers rest

abbrev pub AreFineEnumerators : Enumerators → Type 0
AreFineEnumerators no_enumerators = Unit {0}
AreFineEnumerators (more_enumerators x e rest) = IsFineMaybe e × AreFineEnumerators rest

abbrev pub AreSomeEnumerators : Enumerators → Type 0
AreSomeEnumerators no_enumerators = ⊥
AreSomeEnumerators (more_enumerators x e rest) = IsFineMaybe e × AreFineEnumerators rest

-- a block
abbrev pub IsFineBody : Stmt → Type 0
IsFineBody (block at items) = AreFineBlockItems items
IsFineBody a = ⊥

abbrev pub IsFineItem : Item → Type 0
IsFineItem (struct_item at x ms) = AreSomeMembers ms
IsFineItem (enum_item at g es) = AreSomeEnumerators es
IsFineItem (tag_item at x) = Unit {0}
IsFineItem (decl_item at x) = IsFineDecl x
IsFineItem (function_item at st s e b) = IsFineDeclarator e × HasName e × IsFineBody b

abbrev pub AreFineItems : Items → Type 0
AreFineItems no_items = Unit {0}
AreFineItems (more_items a rest) = IsFineItem a × AreFineItems rest

abbrev pub AreSomeItems : Items → Type 0
AreSomeItems no_items = ⊥
AreSomeItems (more_items a rest) = IsFineItem a × AreFineItems rest
