-- Trees each of whose names, constants, strings and operators some text spells (C99 6.4).
use Rattle.c_lexer.specs.declared.token.TokenKind.TheVariants.{Name, Int, Char, Str, Punct}
use Rattle.c_lexer.specs.Kinds.{IsKind}
use Rattle.c_syntax.specs.Tokens.{code_of_infix}
use Rattle.c_syntax.specs.Tree.{Ident, Spec, void, char, unsigned_char, int, unsigned_int, struct, enum}
use Rattle.c_syntax.specs.Tree.{Expr, a_name, an_int, a_char, a_str, comma, sizeof_type, cast, call, member, postfix, prefix, unary, index, binary, assign, conditional, Exprs, no_exprs, more_exprs, Maybe, absent, there}
use Rattle.c_syntax.specs.Tree.{TypeName, type_name, Declarator, nothing, named, pointer, array, function, Params, no_params, more_params}
use Rattle.c_syntax.specs.Tree.{Init, one, list, Inits, no_inits, more_inits, MaybeInit, no_init, an_init, Parts, no_parts, more_parts, Decl, decl, First, first_absent, first_expr, first_decl, Labels, no_labels, case_label, default_label}
use Rattle.c_syntax.specs.Tree.{Stmt, block, empty, evaluate, only_if, if_else, while_loop, do_loop, for_loop, switch_on, break_off, continue_on, return_from, BlockItems, no_block_items, block_decl, block_stmt, Stmts, no_stmts, more_stmts, Groups, no_groups, more_groups}
use Rattle.c_syntax.specs.Tree.{Declarators, no_declarators, more_declarators, Members, no_members, more_members, Enumerators, no_enumerators, more_enumerators, Tag, no_tag, tag, Item, struct_item, enum_item, tag_item, decl_item, function_item, Items, no_items, more_items}

abbrev pub IsWritableName : Ident → Type 0
IsWritableName x = IsKind (Name x.name)

abbrev pub IsWritableSpec : Spec → Type 0
IsWritableSpec void = Unit {0}
IsWritableSpec char = Unit {0}
IsWritableSpec unsigned_char = Unit {0}
IsWritableSpec int = Unit {0}
IsWritableSpec unsigned_int = Unit {0}
IsWritableSpec (struct x) = IsWritableName x
IsWritableSpec (enum x) = IsWritableName x

abbrev mutual
  pub IsWritable : Expr → Type 0
  IsWritable (a_name at x) = IsKind (Name x)
  IsWritable (an_int at n u) = IsKind (Int n u)
  IsWritable (a_char at c) = IsKind (Char c)
  IsWritable (a_str at bytes) = IsKind (Str bytes)
  IsWritable (comma at es) = AreWritable es
  IsWritable (sizeof_type at t) = IsWritableType t
  IsWritable (cast at t a) = IsWritableType t × IsWritable a
  IsWritable (call at a es) = IsWritable a × AreWritable es
  IsWritable (member at access a x) = IsWritable a × IsWritableName x
  IsWritable (postfix at p a) = IsWritable a
  IsWritable (prefix at p a) = IsWritable a
  IsWritable (unary at op a) = IsKind (Punct op) × IsWritable a
  IsWritable (index at a b) = IsWritable a × IsWritable b
  IsWritable (binary at o a b) = IsKind (Punct (code_of_infix o)) × IsWritable a × IsWritable b
  IsWritable (assign at op a b) = IsKind (Punct op) × IsWritable a × IsWritable b
  IsWritable (conditional at a b c) = IsWritable a × IsWritable b × IsWritable c

  pub AreWritable : Exprs → Type 0
  AreWritable no_exprs = Unit {0}
  AreWritable (more_exprs a rest) = IsWritable a × AreWritable rest

  pub IsWritableMaybe : Maybe → Type 0
  IsWritableMaybe absent = Unit {0}
  IsWritableMaybe (there e) = IsWritable e

  pub IsWritableType : TypeName → Type 0
  IsWritableType (type_name at s e) = IsWritableSpec s × IsWritableDeclarator e

  pub IsWritableDeclarator : Declarator → Type 0
  IsWritableDeclarator nothing = Unit {0}
  IsWritableDeclarator (named at x) = IsWritableName x
  IsWritableDeclarator (pointer at e) = IsWritableDeclarator e
  IsWritableDeclarator (array at e size) = IsWritableDeclarator e × IsWritableMaybe size
  IsWritableDeclarator (function at e ps) = IsWritableDeclarator e × AreWritableParams ps

  pub AreWritableParams : Params → Type 0
  AreWritableParams no_params = Unit {0}
  AreWritableParams (more_params at s e rest) = IsWritableSpec s × IsWritableDeclarator e × AreWritableParams rest

abbrev mutual
  pub IsWritableInit : Init → Type 0
  IsWritableInit (one at e) = IsWritable e
  IsWritableInit (list at is) = AreWritableInits is

  pub AreWritableInits : Inits → Type 0
  AreWritableInits no_inits = Unit {0}
  AreWritableInits (more_inits a rest) = IsWritableInit a × AreWritableInits rest

abbrev pub IsWritableMaybeInit : MaybeInit → Type 0
IsWritableMaybeInit no_init = Unit {0}
IsWritableMaybeInit (an_init a) = IsWritableInit a

abbrev pub AreWritableParts : Parts → Type 0
AreWritableParts no_parts = Unit {0}
AreWritableParts (more_parts e v rest) = IsWritableDeclarator e × IsWritableMaybeInit v × AreWritableParts rest

abbrev pub IsWritableDecl : Decl → Type 0
IsWritableDecl (decl at st s ps) = IsWritableSpec s × AreWritableParts ps

abbrev pub IsWritableFirst : First → Type 0
IsWritableFirst first_absent = Unit {0}
IsWritableFirst (first_expr e) = IsWritable e
IsWritableFirst (first_decl x) = IsWritableDecl x

abbrev pub AreWritableLabels : Labels → Type 0
AreWritableLabels no_labels = Unit {0}
AreWritableLabels (case_label at e rest) = IsWritable e × AreWritableLabels rest
AreWritableLabels (default_label at rest) = AreWritableLabels rest

abbrev mutual
  pub IsWritableStmt : Stmt → Type 0
  IsWritableStmt (block at items) = AreWritableBlockItems items
  IsWritableStmt (empty at) = Unit {0}
  IsWritableStmt (evaluate at e) = IsWritable e
  IsWritableStmt (only_if at e s) = IsWritable e × IsWritableStmt s
  IsWritableStmt (if_else at e s r) = IsWritable e × IsWritableStmt s × IsWritableStmt r
  IsWritableStmt (while_loop at e s) = IsWritable e × IsWritableStmt s
  IsWritableStmt (do_loop at s e) = IsWritableStmt s × IsWritable e
  IsWritableStmt (for_loop at first test step s) = IsWritableFirst first × IsWritableMaybe test × IsWritableMaybe step × IsWritableStmt s
  IsWritableStmt (switch_on at e gs) = IsWritable e × AreWritableGroups gs
  IsWritableStmt (break_off at) = Unit {0}
  IsWritableStmt (continue_on at) = Unit {0}
  IsWritableStmt (return_from at e) = IsWritableMaybe e

  pub AreWritableBlockItems : BlockItems → Type 0
  AreWritableBlockItems no_block_items = Unit {0}
  AreWritableBlockItems (block_decl x rest) = IsWritableDecl x × AreWritableBlockItems rest
  AreWritableBlockItems (block_stmt s rest) = IsWritableStmt s × AreWritableBlockItems rest

  pub AreWritableStmts : Stmts → Type 0
  AreWritableStmts no_stmts = Unit {0}
  AreWritableStmts (more_stmts s rest) = IsWritableStmt s × AreWritableStmts rest

  pub AreWritableGroups : Groups → Type 0
  AreWritableGroups no_groups = Unit {0}
  AreWritableGroups (more_groups ls ss rest) = AreWritableLabels ls × AreWritableStmts ss × AreWritableGroups rest

abbrev pub AreWritableDeclarators : Declarators → Type 0
AreWritableDeclarators no_declarators = Unit {0}
AreWritableDeclarators (more_declarators e rest) = IsWritableDeclarator e × AreWritableDeclarators rest

abbrev pub AreWritableMembers : Members → Type 0
AreWritableMembers no_members = Unit {0}
AreWritableMembers (more_members at s es rest) = IsWritableSpec s × AreWritableDeclarators es × AreWritableMembers rest

abbrev pub AreWritableEnumerators : Enumerators → Type 0
AreWritableEnumerators no_enumerators = Unit {0}
AreWritableEnumerators (more_enumerators x e rest) = IsWritableName x × IsWritableMaybe e × AreWritableEnumerators rest

abbrev pub IsWritableTag : Tag → Type 0
IsWritableTag no_tag = Unit {0}
IsWritableTag (tag x) = IsWritableName x

abbrev pub IsWritableItem : Item → Type 0
IsWritableItem (struct_item at x ms) = IsWritableName x × AreWritableMembers ms
IsWritableItem (enum_item at x es) = IsWritableTag x × AreWritableEnumerators es
IsWritableItem (tag_item at x) = IsWritableName x
IsWritableItem (decl_item at x) = IsWritableDecl x
IsWritableItem (function_item at st s e b) = IsWritableSpec s × IsWritableDeclarator e × IsWritableStmt b

abbrev pub AreWritableItems : Items → Type 0
AreWritableItems no_items = Unit {0}
AreWritableItems (more_items a rest) = IsWritableItem a × AreWritableItems rest
