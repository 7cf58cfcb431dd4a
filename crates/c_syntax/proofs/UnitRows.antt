-- Lists of trees that an initialiser or a statement holds.
use Rattle.std.proofs.Common.{◌≡◌, ℕ, List, ◌∷◌, Vec, Global, refl, ap, sym, ◌∙◌, OnOk}
use Rattle.std.specs.Prelude.{Box, Result}
use mathlib.Core.Former.{Count}
use Rattle.c_lexer.specs.declared.token.TokenKind.TheVariants.{Punct}
use Rattle.c_lexer.specs.declared.punctuator.TheConstants.{LEFT_BRACE, RIGHT_BRACE}
use Rattle.c_lexer.specs.declared.keyword.TheConstants.{SWITCH}
use Rattle.c_syntax.specs.declared.tree.Expr.{Expr as Tree}
use Rattle.c_syntax.specs.declared.tree.Init.{Init as InitTree}
use Rattle.c_syntax.specs.declared.tree.InitKind.{InitKind, List', Row_of-Init, end_of-Init, more_of-Init, items-the_row-Init, items_hidden-the_row-Init-0}
use Rattle.c_syntax.specs.declared.tree.InitKind.TheVariants.{List as listed}
use Rattle.c_syntax.specs.declared.tree.Label.{Label}
use Rattle.c_syntax.specs.declared.tree.BlockItem.{BlockItem, Declaration, Statement'}
use Rattle.c_syntax.specs.declared.tree.Stmt.{Stmt as StmtTree}
use Rattle.c_syntax.specs.declared.tree.StmtKind.{StmtKind, Block', Switch', Row_of-BlockItem, end_of-BlockItem, more_of-BlockItem, items-the_row-BlockItem, items_hidden-the_row-BlockItem-0, Row_of-Group, end_of-Group, more_of-Group, items-the_row-Group, items_hidden-the_row-Group-1}
use Rattle.c_syntax.specs.declared.tree.StmtKind.TheVariants.{Block, Switch}
use Rattle.c_syntax.specs.declared.tree.Group.{Group, Group', out-Group, Row_of-Stmt, end_of-Stmt, more_of-Stmt, items-the_row-Stmt, items_shown-the_row-Stmt-2}
use Rattle.c_syntax.specs.Tree.{more_inits, more_stmts, no_groups, no_block_items}
use Rattle.c_syntax.specs.View.{expr_of}
use Rattle.c_syntax.specs.UnitView.{init_at, inits_of_row, stmt_at, block_items_of_row, block_item_before, groups_of_row, group_before, stmts_of_row, labels_of}
use Rattle.c_syntax.specs.Print.{Kinds, init_kinds, inits_kinds, stmt_kinds, block_items_kinds, groups_kinds, stmts_kinds, labels_kinds}
use Rattle.c_syntax.specs.Writes.{Writes}
use Rattle.c_syntax.specs.WritesUnit.{inits_of, block_items_of, stmts_of, groups_of, worded_kinds}
use Rattle.c_syntax.proofs.Writing.{on_ok_as}

pub inits_row : (n : _) (row : Row_of-Init n) → inits_of_row row ≡ inits_of (items-the_row-Init n row)
inits_row n end_of-Init = refl
inits_row n (more_of-Init at kind rest) = ap (more_inits (init_at at kind)) (inits_row _ rest)

abbrev pub inits_row_in : InitKind → (n : Count) × Row_of-Init n
inits_row_in (List' shape row) = (_, row)
inits_row_in _ = (_, end_of-Init)

pub inits_in : (v : Vec InitTree Global) → inits_of_row (inits_row_in (listed v)).1 ≡ inits_of v.items
inits_in v = inits_row (inits_row_in (listed v)).0 (inits_row_in (listed v)).1 ∙ ap inits_of (items_hidden-the_row-Init-0 v)

-- a list of initialisers is the initialisers in braces
pub list_last :
    {T E : Type 0} (r : Result T E) (a b : List ℕ) (at : ℕ) (v : Vec InitTree Global) (xs : List InitTree) → xs ≡ v.items
    → OnOk r (Writes a b (λ k. Punct LEFT_BRACE ∷ inits_kinds (inits_of xs) (Punct RIGHT_BRACE ∷ k)))
    → OnOk r (Writes a b (init_kinds (init_at at (listed v))))
list_last r a b at v xs is =
    on_ok_as r a b
    (λ k. Punct LEFT_BRACE ∷ inits_kinds (inits_of xs) (Punct RIGHT_BRACE ∷ k))
    (init_kinds (init_at at (listed v)))
    (λ k. ap (λ x. Punct LEFT_BRACE ∷ inits_kinds x (Punct RIGHT_BRACE ∷ k)) (ap inits_of is ∙ sym (inits_in v)))

pub block_items_row : (n : _) (row : Row_of-BlockItem n) → block_items_of_row row ≡ block_items_of (items-the_row-BlockItem n row)
block_items_row n end_of-BlockItem = refl
block_items_row n (more_of-BlockItem x rest) = ap (block_item_before x) (block_items_row _ rest)

abbrev pub block_items_row_in : StmtKind → (n : Count) × Row_of-BlockItem n
block_items_row_in (Block' shape row) = (_, row)
block_items_row_in _ = (_, end_of-BlockItem)

pub block_items_in : (v : Vec BlockItem Global) → block_items_of_row (block_items_row_in (Block v)).1 ≡ block_items_of v.items
block_items_in v = block_items_row (block_items_row_in (Block v)).0 (block_items_row_in (Block v)).1 ∙ ap block_items_of (items_hidden-the_row-BlockItem-0 v)

-- a block is what stands in it, in braces
pub block_last :
    {T E : Type 0} (r : Result T E) (a b : List ℕ) (at : ℕ) (v : Vec BlockItem Global) (xs : List BlockItem) → xs ≡ v.items
    → OnOk r (Writes a b (λ k. Punct LEFT_BRACE ∷ block_items_kinds (block_items_of xs) (Punct RIGHT_BRACE ∷ k)))
    → OnOk r (Writes a b (stmt_kinds (stmt_at at (Block v))))
block_last r a b at v xs is =
    on_ok_as r a b
    (λ k. Punct LEFT_BRACE ∷ block_items_kinds (block_items_of xs) (Punct RIGHT_BRACE ∷ k))
    (stmt_kinds (stmt_at at (Block v)))
    (λ k. ap (λ x. Punct LEFT_BRACE ∷ block_items_kinds x (Punct RIGHT_BRACE ∷ k)) (ap block_items_of is ∙ sym (block_items_in v)))

pub groups_row : (n : _) (row : Row_of-Group n) → groups_of_row row ≡ groups_of (items-the_row-Group n row)
groups_row n end_of-Group = refl
groups_row n (more_of-Group x rest) = ap (group_before x) (groups_row _ rest)

abbrev pub groups_row_in : StmtKind → (n : Count) × Row_of-Group n
groups_row_in (Switch' e shape row) = (_, row)
groups_row_in _ = (_, end_of-Group)

pub groups_in : (e : Box Tree Global) (v : Vec Group Global) → groups_of_row (groups_row_in (Switch e v)).1 ≡ groups_of v.items
groups_in e v = groups_row (groups_row_in (Switch e v)).0 (groups_row_in (Switch e v)).1 ∙ ap groups_of (items_hidden-the_row-Group-1 v)

-- a switch is its head, and the groups in braces
pub switch_last :
    {T E : Type 0} (r : Result T E) (a b : List ℕ) (at : ℕ) (e : Box Tree Global) (v : Vec Group Global) (xs : List Group) → xs ≡ v.items
    → OnOk r (Writes a b (λ k. worded_kinds SWITCH (expr_of e.value) (Punct LEFT_BRACE ∷ groups_kinds (groups_of xs) (Punct RIGHT_BRACE ∷ k))))
    → OnOk r (Writes a b (stmt_kinds (stmt_at at (Switch e v))))
switch_last r a b at e v xs is =
    on_ok_as r a b
    (λ k. worded_kinds SWITCH (expr_of e.value) (Punct LEFT_BRACE ∷ groups_kinds (groups_of xs) (Punct RIGHT_BRACE ∷ k)))
    (stmt_kinds (stmt_at at (Switch e v)))
    (λ k. ap (λ x. worded_kinds SWITCH (expr_of e.value) (Punct LEFT_BRACE ∷ groups_kinds x (Punct RIGHT_BRACE ∷ k))) (ap groups_of is ∙ sym (groups_in e v)))

pub stmts_row : (n : _) (row : Row_of-Stmt n) → stmts_of_row row ≡ stmts_of (items-the_row-Stmt n row)
stmts_row n end_of-Stmt = refl
stmts_row n (more_of-Stmt at kind rest) = ap (more_stmts (stmt_at at kind)) (stmts_row _ rest)

-- a group is its labels and its statements
pub group_is : (g : Group) (k : Kinds) → labels_kinds (labels_of (out-Group g).labels.items) (stmts_kinds (stmts_of (out-Group g).body.items) k) ≡ groups_kinds (group_before g no_groups) k
unfolding out-Group denote.Hole.Carrier.out
group_is (Group' labels shape row) k =
    ap (λ x. labels_kinds (labels_of labels.items) (stmts_kinds x k)) (ap stmts_of (items_shown-the_row-Stmt-2 shape row) ∙ sym (stmts_row _ row))

-- one item of a block before others
pub block_item_first : (x : BlockItem) (xs : List BlockItem) (k : Kinds) → block_items_kinds (block_items_of (x ∷ xs)) k ≡ block_items_kinds (block_item_before x no_block_items) (block_items_kinds (block_items_of xs) k)
block_item_first (Declaration d) xs k = refl
block_item_first (Statement' at kind) xs k = refl

-- one group before others
pub group_first : (x : Group) (xs : List Group) (k : Kinds) → groups_kinds (groups_of (x ∷ xs)) k ≡ groups_kinds (group_before x no_groups) (groups_kinds (groups_of xs) k)
group_first (Group' labels shape row) xs k = refl

pub group_last :
    {T E : Type 0} (r : Result T E) (a b : List ℕ) (g : Group) (labels : List Label) (stmts : List StmtTree)
    → labels ≡ (out-Group g).labels.items → stmts ≡ (out-Group g).body.items
    → OnOk r (Writes a b (λ k. labels_kinds (labels_of labels) (stmts_kinds (stmts_of stmts) k)))
    → OnOk r (Writes a b (groups_kinds (group_before g no_groups)))
group_last r a b g labels stmts first second =
    on_ok_as r a b
    (λ k. labels_kinds (labels_of labels) (stmts_kinds (stmts_of stmts) k))
    (groups_kinds (group_before g no_groups))
    (λ k.
    ap (λ x. labels_kinds (labels_of x) (stmts_kinds (stmts_of stmts) k)) first
    ∙ ap (λ x. labels_kinds (labels_of (out-Group g).labels.items) (stmts_kinds (stmts_of x) k)) second
    ∙ group_is g k)
