-- The tags that lists of trees hold, one after another.
use Rattle.std.proofs.Common.{◌≡◌, ℕ, Bool, List, [], ◌∷◌, ◌++◌, refl, sym, ap, ◌∙◌, append-nil}
use Rattle.std.specs.Prelude.{flat_map}
use Rattle.c_syntax.specs.declared.tree.Expr.{Expr as ExprTree}
use Rattle.c_syntax.specs.declared.tree.Param.{Param as ParamTree, Param'}
use Rattle.c_syntax.specs.declared.tree.Declarator.{Declarator as DeclaratorTree}
use Rattle.c_syntax.specs.declared.tree.Init.{Init as InitTree}
use Rattle.c_syntax.specs.declared.tree.DeclPart.{DeclPart}
use Rattle.c_syntax.specs.declared.tree.Label.{Label}
use Rattle.c_syntax.specs.declared.tree.LabelKind.{LabelKind}
use Rattle.c_syntax.specs.declared.tree.LabelKind.TheVariants.{Case, Default}
use Rattle.c_syntax.specs.declared.tree.BlockItem.{BlockItem, Declaration, Statement'}
use Rattle.c_syntax.specs.declared.tree.Stmt.{Stmt as StmtTree}
use Rattle.c_syntax.specs.declared.tree.Group.{Group, Group'}
use Rattle.c_syntax.specs.declared.tree.Member.{Member}
use Rattle.c_syntax.specs.declared.tree.Enumerator.{Enumerator}
use Rattle.c_syntax.specs.declared.tree.Item.{Item as ItemTree}
use Rattle.c_syntax.specs.Tree.{Labels, no_labels}
use Rattle.c_syntax.specs.View.{spec_of, expr_of, declarator_of, held_declarator}
use Rattle.c_syntax.specs.UnitView.{init_of, maybe_init_of, parts_of, decl_of, label_before, labels_of, stmt_at, stmt_of, stmts_of_row, declarators_of, members_of, enumerators_of, items_of}
use Rattle.c_syntax.specs.Writes.{exprs_of, params_of}
use Rattle.c_syntax.specs.WritesUnit.{inits_of, block_items_of, stmts_of, groups_of}
use Rattle.c_rules.specs.Names.{Name}
use Rattle.c_rules.specs.Tags.{tags_of_spec, tags_of_expr, tags_of_exprs, tags_of_declarator, tags_of_params, tags_of_init, tags_of_inits, tags_of_maybe_init, tags_of_parts, tags_of_decl, tags_of_labels, tags_of_stmt, tags_of_block, tags_of_stmts, tags_of_groups, tags_of_declarators, tags_of_members, tags_of_enumerators, tags_of_items}
use Rattle.c_check_counts.specs.HeldTags.{tags_of_param, tags_of_part, tags_of_label, tags_of_block_item, tags_of_group, tags_of_member, tags_of_enumerator, tags_of_tree}
use Rattle.c_check_counts.proofs.Lists.{one_more, two_more}

three_more : {Y : Type 0} (a b r s : List Y) → r ≡ s → a ++ (b ++ r) ≡ (a ++ (b ++ [])) ++ s
three_more a b r s e = two_more a b r s e ∙ ap (λ z. (a ++ z) ++ s) (sym (append-nil b))

pub exprs_flat : (es : List ExprTree) → tags_of_exprs (exprs_of es) ≡ flat_map (λ e. tags_of_expr (expr_of e)) es
exprs_flat [] = refl
exprs_flat (e ∷ es) = ap (λ xs. tags_of_expr (expr_of e) ++ xs) (exprs_flat es)

pub params_flat : (ps : List ParamTree) → tags_of_params (params_of ps) ≡ flat_map tags_of_param ps
params_flat [] = refl
params_flat (Param' s held at ∷ ps) = two_more (tags_of_spec (spec_of s)) (tags_of_declarator (held_declarator held)) (tags_of_params (params_of ps)) (flat_map tags_of_param ps) (params_flat ps)

pub inits_flat : (is : List InitTree) → tags_of_inits (inits_of is) ≡ flat_map (λ i. tags_of_init (init_of i)) is
inits_flat [] = refl
inits_flat (i ∷ is) = ap (λ xs. tags_of_init (init_of i) ++ xs) (inits_flat is)

pub parts_flat : (ps : List DeclPart) → tags_of_parts (parts_of ps) ≡ flat_map tags_of_part ps
parts_flat [] = refl
parts_flat (p ∷ ps) = two_more (tags_of_declarator (declarator_of p.declarator)) (tags_of_maybe_init (maybe_init_of p.init)) (tags_of_parts (parts_of ps)) (flat_map tags_of_part ps) (parts_flat ps)

one_label : (at : ℕ) (kind : LabelKind) (rest : Labels) (xs : List Name) → tags_of_labels rest ≡ xs → tags_of_labels (label_before at kind rest) ≡ tags_of_labels (label_before at kind no_labels) ++ xs
one_label at (Case e) rest xs q = one_more (tags_of_expr (expr_of e)) (tags_of_labels rest) xs q
one_label at Default rest xs q = q

pub labels_flat : (ls : List Label) → tags_of_labels (labels_of ls) ≡ flat_map tags_of_label ls
labels_flat [] = refl
labels_flat (l ∷ ls) = one_label l.at l.kind (labels_of ls) (flat_map tags_of_label ls) (labels_flat ls)

pub block_flat : (aside : Bool) (is : List BlockItem) → tags_of_block aside (block_items_of is) ≡ flat_map (tags_of_block_item aside) is
block_flat aside [] = refl
block_flat aside (Declaration d ∷ is) = one_more (tags_of_decl aside (decl_of d)) (tags_of_block aside (block_items_of is)) (flat_map (tags_of_block_item aside) is) (block_flat aside is)
block_flat aside (Statement' at kind ∷ is) = one_more (tags_of_stmt aside (stmt_at at kind)) (tags_of_block aside (block_items_of is)) (flat_map (tags_of_block_item aside) is) (block_flat aside is)

pub stmts_flat : (aside : Bool) (ss : List StmtTree) → tags_of_stmts aside (stmts_of ss) ≡ flat_map (λ s. tags_of_stmt aside (stmt_of s)) ss
stmts_flat aside [] = refl
stmts_flat aside (s ∷ ss) = ap (λ xs. tags_of_stmt aside (stmt_of s) ++ xs) (stmts_flat aside ss)

pub groups_flat : (aside : Bool) (gs : List Group) → tags_of_groups aside (groups_of gs) ≡ flat_map (tags_of_group aside) gs
groups_flat aside [] = refl
groups_flat aside (Group' labels shape row ∷ gs) =
    three_more (tags_of_labels (labels_of labels.items)) (tags_of_stmts aside (stmts_of_row row)) (tags_of_groups aside (groups_of gs)) (flat_map (tags_of_group aside) gs) (groups_flat aside gs)

pub declarators_flat : (ds : List DeclaratorTree) → tags_of_declarators (declarators_of ds) ≡ flat_map (λ d. tags_of_declarator (declarator_of d)) ds
declarators_flat [] = refl
declarators_flat (d ∷ ds) = ap (λ xs. tags_of_declarator (declarator_of d) ++ xs) (declarators_flat ds)

pub members_flat : (ms : List Member) → tags_of_members (members_of ms) ≡ flat_map tags_of_member ms
members_flat [] = refl
members_flat (m ∷ ms) = two_more (tags_of_spec (spec_of m.spec)) (tags_of_declarators (declarators_of m.declarators.items)) (tags_of_members (members_of ms)) (flat_map tags_of_member ms) (members_flat ms)

pub enumerators_flat : (es : List Enumerator) → tags_of_enumerators (enumerators_of es) ≡ flat_map tags_of_enumerator es
enumerators_flat [] = refl
enumerators_flat (e ∷ es) = ap (λ xs. tags_of_enumerator e ++ xs) (enumerators_flat es)

pub items_flat : (aside : Bool) (is : List ItemTree) → tags_of_items aside (items_of is) ≡ flat_map (tags_of_tree aside) is
items_flat aside [] = refl
items_flat aside (i ∷ is) = ap (λ xs. tags_of_tree aside i ++ xs) (items_flat aside is)
