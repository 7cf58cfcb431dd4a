-- What lists of trees hold, one after another.
use Rattle.std.proofs.Common.{◌≡◌, List, [], ◌∷◌, ◌++◌, refl, ap}
use Rattle.std.specs.Prelude.{flat_map}
use Rattle.c_syntax.specs.declared.tree.Expr.{Expr as ExprTree}
use Rattle.c_syntax.specs.declared.tree.Init.{Init as InitTree}
use Rattle.c_syntax.specs.declared.tree.DeclPart.{DeclPart}
use Rattle.c_syntax.specs.declared.tree.BlockItem.{BlockItem, Declaration, Statement'}
use Rattle.c_syntax.specs.declared.tree.Stmt.{Stmt as StmtTree}
use Rattle.c_syntax.specs.declared.tree.Group.{Group, Group'}
use Rattle.c_syntax.specs.declared.tree.Item.{Item as ItemTree}
use Rattle.c_syntax.specs.View.{expr_of}
use Rattle.c_syntax.specs.UnitView.{init_of, maybe_init_of, parts_of, decl_of, stmt_at, stmt_of, stmts_of_row, items_of, item_at}
use Rattle.c_syntax.specs.Writes.{exprs_of}
use Rattle.c_syntax.specs.WritesUnit.{inits_of, block_items_of, stmts_of, groups_of}
use Rattle.c_rules.specs.CallPlaces.{call_places_of_item, call_places}
use Rattle.c_rules.specs.PlacesOfCalls.{places, places_of_all, places_of_init, places_of_inits, places_of_maybe_init, places_of_parts, places_of_decl, places_of_stmt, places_of_block, places_of_stmts, places_of_groups}
use Rattle.c_check_counts.specs.SeenCalls.{places_of_block_item, places_of_group}
use Rattle.c_syntax.proofs.Lists.{one_more}

pub exprs_flat : (es : List ExprTree) → places_of_all (exprs_of es) ≡ flat_map (λ e. places (expr_of e)) es
exprs_flat [] = refl
exprs_flat (e ∷ es) = ap (λ xs. places (expr_of e) ++ xs) (exprs_flat es)

pub inits_flat : (is : List InitTree) → places_of_inits (inits_of is) ≡ flat_map (λ i. places_of_init (init_of i)) is
inits_flat [] = refl
inits_flat (i ∷ is) = ap (λ xs. places_of_init (init_of i) ++ xs) (inits_flat is)

pub parts_flat : (ps : List DeclPart) → places_of_parts (parts_of ps) ≡ flat_map (λ p. places_of_maybe_init (maybe_init_of p.init)) ps
parts_flat [] = refl
parts_flat (p ∷ ps) = ap (λ xs. places_of_maybe_init (maybe_init_of p.init) ++ xs) (parts_flat ps)

pub block_flat : (is : List BlockItem) → places_of_block (block_items_of is) ≡ flat_map places_of_block_item is
block_flat [] = refl
block_flat (Declaration d ∷ is) = one_more (places_of_decl (decl_of d)) (places_of_block (block_items_of is)) (flat_map places_of_block_item is) (block_flat is)
block_flat (Statement' at kind ∷ is) = one_more (places_of_stmt (stmt_at at kind)) (places_of_block (block_items_of is)) (flat_map places_of_block_item is) (block_flat is)

pub stmts_flat : (ss : List StmtTree) → places_of_stmts (stmts_of ss) ≡ flat_map (λ s. places_of_stmt (stmt_of s)) ss
stmts_flat [] = refl
stmts_flat (s ∷ ss) = ap (λ xs. places_of_stmt (stmt_of s) ++ xs) (stmts_flat ss)

pub groups_flat : (gs : List Group) → places_of_groups (groups_of gs) ≡ flat_map places_of_group gs
groups_flat [] = refl
groups_flat (Group' labels shape row ∷ gs) = one_more (places_of_stmts (stmts_of_row row)) (places_of_groups (groups_of gs)) (flat_map places_of_group gs) (groups_flat gs)

pub items_flat : (is : List ItemTree) → call_places (items_of is) ≡ flat_map (λ i. call_places_of_item (item_at i.at i.kind)) is
items_flat [] = refl
items_flat (i ∷ is) = ap (λ xs. call_places_of_item (item_at i.at i.kind) ++ xs) (items_flat is)
