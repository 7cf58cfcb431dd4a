-- The terms that statements and units of Rust are seen as.
use Rattle.std.specs.Prelude.{ℕ, Option, Some, None, List, [], ◌∷◌}
use Rattle.c_syntax.specs.declared.tree.Ident.{Ident as Named}
use Rattle.c_syntax.specs.declared.tree.Expr.{Expr as Tree}
use Rattle.c_syntax.specs.declared.tree.Declarator.{Declarator as DeclaratorTree}
use Rattle.c_syntax.specs.declared.tree.Storage.{Storage as Stored}
use Rattle.c_syntax.specs.declared.tree.Storage.TheVariants as st
use Rattle.c_syntax.specs.declared.tree.Init.{Init as InitTree}
use Rattle.c_syntax.specs.declared.tree.InitKind.{InitKind, List', One, Row_of-Init, end_of-Init, more_of-Init}
use Rattle.c_syntax.specs.declared.tree.DeclPart.{DeclPart}
use Rattle.c_syntax.specs.declared.tree.Decl.{Decl as DeclTree}
use Rattle.c_syntax.specs.declared.tree.ForFirst.{ForFirst}
use Rattle.c_syntax.specs.declared.tree.ForFirst.TheVariants as f
use Rattle.c_syntax.specs.declared.tree.Label.{Label}
use Rattle.c_syntax.specs.declared.tree.LabelKind.{LabelKind}
use Rattle.c_syntax.specs.declared.tree.LabelKind.TheVariants.{Case, Default}
use Rattle.c_syntax.specs.declared.tree.Stmt.{Stmt as StmtTree}
use Rattle.c_syntax.specs.declared.tree.StmtKind.{StmtKind, Block', Empty, If', While', Do', For', Switch', Break, Continue, Return, Held-StmtKind-If-2, None', Some', Row_of-BlockItem, end_of-BlockItem, more_of-BlockItem, Row_of-Group, end_of-Group, more_of-Group}
use Rattle.c_syntax.specs.declared.tree.StmtKind.{Expr as Evaluated}
use Rattle.c_syntax.specs.declared.tree.BlockItem.{BlockItem, Declaration, Statement'}
use Rattle.c_syntax.specs.declared.tree.Group.{Group, Group', Row_of-Stmt, end_of-Stmt, more_of-Stmt}
use Rattle.c_syntax.specs.declared.tree.Member.{Member}
use Rattle.c_syntax.specs.declared.tree.Enumerator.{Enumerator}
use Rattle.c_syntax.specs.declared.tree.Item.{Item as ItemTree}
use Rattle.c_syntax.specs.declared.tree.ItemKind.{ItemKind}
use Rattle.c_syntax.specs.declared.tree.ItemKind.TheVariants as o
use Rattle.c_syntax.specs.View.{ident_of, spec_of, expr_of, expr_behind, declarator_of}
use Rattle.c_syntax.specs.Tree.{Storage, no_storage, static, extern, Maybe, absent, there}
use Rattle.c_syntax.specs.Tree.{Init, one, list, Inits, no_inits, more_inits, MaybeInit, no_init, an_init, Parts, no_parts, more_parts, Decl, decl}
use Rattle.c_syntax.specs.Tree.{First, first_absent, first_expr, first_decl, Labels, no_labels, case_label, default_label}
use Rattle.c_syntax.specs.Tree.{Stmt, block, empty, evaluate, only_if, if_else, while_loop, do_loop, for_loop, switch_on, break_off, continue_on, return_from, BlockItems, no_block_items, block_decl, block_stmt, Stmts, no_stmts, more_stmts, Groups, no_groups, more_groups}
use Rattle.c_syntax.specs.Tree.{Declarators, no_declarators, more_declarators, Members, no_members, more_members, Enumerators, no_enumerators, more_enumerators, Tag, no_tag, tag, Item, struct_item, enum_item, tag_item, decl_item, function_item, Items, no_items, more_items}

abbrev pub storage_of : Stored → Storage
storage_of st.Absent = no_storage
storage_of st.Static = static
storage_of st.Extern = extern

abbrev pub maybe_of : Option Tree → Maybe
maybe_of None = absent
maybe_of (Some e) = there (expr_of e)

abbrev mutual
  pub init_at : ℕ → InitKind → Init
  init_at at (One e) = one at (expr_of e)
  init_at at (List' shape row) = list at (inits_of_row row)

  pub inits_of_row : {m : _} → Row_of-Init m → Inits
  inits_of_row end_of-Init = no_inits
  inits_of_row (more_of-Init at kind rest) = more_inits (init_at at kind) (inits_of_row rest)

abbrev pub init_of : InitTree → Init
init_of x = init_at x.at x.kind

abbrev pub maybe_init_of : Option InitTree → MaybeInit
maybe_init_of None = no_init
maybe_init_of (Some x) = an_init (init_of x)

abbrev pub parts_of : List DeclPart → Parts
parts_of [] = no_parts
parts_of (p ∷ ps) = more_parts (declarator_of p.declarator) (maybe_init_of p.init) (parts_of ps)

abbrev pub decl_of : DeclTree → Decl
decl_of x = decl x.at (storage_of x.storage) (spec_of x.spec) (parts_of x.parts.items)

abbrev pub first_of_head : ForFirst → First
first_of_head f.Absent = first_absent
first_of_head (f.Expr e) = first_expr (expr_of e.value)
first_of_head (f.Declaration x) = first_decl (decl_of x)

abbrev pub label_before : ℕ → LabelKind → Labels → Labels
label_before at (Case e) rest = case_label at (expr_of e) rest
label_before at Default rest = default_label at rest

abbrev pub labels_of : List Label → Labels
labels_of [] = no_labels
labels_of (x ∷ xs) = label_before x.at x.kind (labels_of xs)

abbrev pub if_with : ℕ → Tree → Stmt → Option Stmt → Stmt
if_with at e s None = only_if at (expr_of e) s
if_with at e s (Some r) = if_else at (expr_of e) s r

abbrev mutual
  pub stmt_at : ℕ → StmtKind → Stmt
  stmt_at at (Block' shape row) = block at (block_items_of_row row)
  stmt_at at Empty = empty at
  stmt_at at (Evaluated e) = evaluate at (expr_of e.value)
  stmt_at at (If' e p a1 k1 held) = if_with at e.value (stmt_at a1 k1) (else_of held)
  stmt_at at (While' e p a1 k1) = while_loop at (expr_of e.value) (stmt_at a1 k1)
  stmt_at at (Do' p a1 k1 e) = do_loop at (stmt_at a1 k1) (expr_of e.value)
  stmt_at at (For' first test step p a1 k1) = for_loop at (first_of_head first) (expr_behind test) (expr_behind step) (stmt_at a1 k1)
  stmt_at at (Switch' e shape row) = switch_on at (expr_of e.value) (groups_of_row row)
  stmt_at at Break = break_off at
  stmt_at at Continue = continue_on at
  stmt_at at (Return e) = return_from at (expr_behind e)

  pub else_of : Held-StmtKind-If-2 → Option Stmt
  else_of None' = None
  else_of (Some' p at kind) = Some (stmt_at at kind)

  pub block_items_of_row : {m : _} → Row_of-BlockItem m → BlockItems
  block_items_of_row end_of-BlockItem = no_block_items
  block_items_of_row (more_of-BlockItem x rest) = block_item_before x (block_items_of_row rest)

  pub block_item_before : BlockItem → BlockItems → BlockItems
  block_item_before (Declaration x) rest = block_decl (decl_of x) rest
  block_item_before (Statement' at kind) rest = block_stmt (stmt_at at kind) rest

  pub groups_of_row : {m : _} → Row_of-Group m → Groups
  groups_of_row end_of-Group = no_groups
  groups_of_row (more_of-Group x rest) = group_before x (groups_of_row rest)

  pub group_before : Group → Groups → Groups
  group_before (Group' labels shape row) rest = more_groups (labels_of labels.items) (stmts_of_row row) rest

  pub stmts_of_row : {m : _} → Row_of-Stmt m → Stmts
  stmts_of_row end_of-Stmt = no_stmts
  stmts_of_row (more_of-Stmt at kind rest) = more_stmts (stmt_at at kind) (stmts_of_row rest)

abbrev pub stmt_of : StmtTree → Stmt
stmt_of x = stmt_at x.at x.kind

abbrev pub declarators_of : List DeclaratorTree → Declarators
declarators_of [] = no_declarators
declarators_of (x ∷ xs) = more_declarators (declarator_of x) (declarators_of xs)

abbrev pub members_of : List Member → Members
members_of [] = no_members
members_of (x ∷ xs) = more_members x.at (spec_of x.spec) (declarators_of x.declarators.items) (members_of xs)

abbrev pub enumerators_of : List Enumerator → Enumerators
enumerators_of [] = no_enumerators
enumerators_of (x ∷ xs) = more_enumerators (ident_of x.name) (maybe_of x.value) (enumerators_of xs)

abbrev pub tag_of : Option Named → Tag
tag_of None = no_tag
tag_of (Some x) = tag (ident_of x)

abbrev pub item_at : ℕ → ItemKind → Item
item_at at (o.Struct x ms) = struct_item at (ident_of x) (members_of ms.items)
item_at at (o.Enum x es) = enum_item at (tag_of x) (enumerators_of es.items)
item_at at (o.Tag x) = tag_item at (ident_of x)
item_at at (o.Declaration x) = decl_item at (decl_of x)
item_at at (o.Function s p e b) = function_item at (storage_of s) (spec_of p) (declarator_of e) (stmt_of b)

abbrev pub items_of : List ItemTree → Items
items_of [] = no_items
items_of (x ∷ xs) = more_items (item_at x.at x.kind) (items_of xs)
