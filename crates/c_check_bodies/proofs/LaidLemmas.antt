-- Statements and groups of a switch one after another.
use Rattle.std.proofs.Common.{◌≡◌, List, [], ◌∷◌, ◌++◌, Result, Ok, Err, IfOk, refl, ap, sym, ◌∙◌, append-nil}
use Rattle.std.proofs.lemmas.List.{map-append}
use Rattle.c_check_bodies.specs.LabelledView.{groups_before, labelled_before}
use Rattle.c_check_bodies.specs.VariablesView.{Declared, both_declared, laid_with}
use Rattle.c_rules.specs.Blocks.{StatementTree, appended, some_more}
use Rattle.c_rules.specs.Statements.{labelled, no_labelled}
use Rattle.c_tree.specs.declared.tree.CType.{CType as TypeTree}
use Rattle.c_tree.specs.declared.tree.TGroup.{TGroup}
use Rattle.c_tree.specs.declared.tree.TLabel.{TLabel}
use Rattle.c_tree.specs.declared.tree.TStmt.{TStmt}
use Rattle.c_tree.specs.Tree.{Stmts, more_stmts, Groups, no_groups, more_groups}
use Rattle.c_tree.specs.View.{ctype_of, ctypes_of, stmt_of, stmts_of, groups_of}

-- ## Lists

pub stmts_append : (xs ys : List TStmt) → stmts_of (xs ++ ys) ≡ appended (stmts_of xs) (stmts_of ys)
stmts_append [] ys = refl
stmts_append (x ∷ xs) ys = ap (more_stmts (stmt_of x)) (stmts_append xs ys)

pub groups_append : (xs ys : List TGroup) → groups_of (xs ++ ys) ≡ groups_before (groups_of xs) (groups_of ys)
groups_append [] ys = refl
groups_append (x ∷ xs) ys = ap (more_groups x.labels.items (stmts_of x.body.items)) (groups_append xs ys)

pub types_append : (xs ys : List TypeTree) → ctypes_of (xs ++ ys) ≡ ctypes_of xs ++ ctypes_of ys
types_append xs ys = map-append ctype_of xs ys

-- ## Trees with their variables

-- a call's clause by an equal tree
pub laid_as : {X E A : Type 0} (f : X → StatementTree A) (r : Result X E) (a b : StatementTree A) → a ≡ b → IfOk r (λ l. f l ≡ a) → IfOk r (λ l. f l ≡ b)
laid_as f (Ok x) a b is h = h ∙ is
laid_as f (Err e) a b is h = tt

-- the variables of two parts
pub declared_as : (plain added plain1 plain2 added1 added2 : List TypeTree) → plain ≡ plain1 ++ plain2 → added ≡ added1 ++ added2
    → record { plain = ctypes_of plain; added = ctypes_of added } ≡ both_declared (record { plain = ctypes_of plain1; added = ctypes_of added1 }) (record { plain = ctypes_of plain2; added = ctypes_of added2 })
declared_as plain added plain1 plain2 added1 added2 p q = λ i. record { plain = (ap ctypes_of p ∙ types_append plain1 plain2) i; added = (ap ctypes_of q ∙ types_append added1 added2) i }

-- statements behind others
pub all_as : (v p q : Declared) (xs ys zs : List TStmt) → v ≡ both_declared p q → zs ≡ xs ++ ys → laid_with v (stmts_of zs) ≡ some_more (laid_with p (stmts_of xs)) (laid_with q (stmts_of ys))
all_as v p q xs ys zs is grown = λ i. laid_with (is i) ((ap stmts_of grown ∙ stmts_append xs ys) i)

-- groups behind others
trees_as : (xs zs : List TGroup) (g : TGroup) (labels : List TLabel) (body : List TStmt) → zs ≡ xs ++ g ∷ [] → g.labels.items ≡ labels → g.body.items ≡ body → groups_of zs ≡ groups_before (groups_of xs) (more_groups labels (stmts_of body) no_groups)
trees_as xs zs g labels body grown own inner = ap groups_of grown ∙ (groups_append xs (g ∷ []) ∙ (λ i. groups_before (groups_of xs) (more_groups (own i) (stmts_of (inner i)) no_groups)))

behind_none : {A : Type 0} (all first second : List A) → all ≡ first ++ second → all ≡ first ++ (second ++ [])
behind_none all first second is = is ∙ ap (λ z. first ++ z) (sym (append-nil second))

labelled_by : (v p q : Declared) (trees before own : Groups) (body : Stmts) (all earlier labels : List TLabel) → trees ≡ groups_before before (more_groups labels body no_groups) → v.plain ≡ p.plain ++ (q.plain ++ []) → v.added ≡ p.added ++ (q.added ++ []) → all ≡ earlier ++ (labels ++ [])
    → record { groups = laid_with v trees; labels = all } ≡ labelled_before (record { groups = laid_with p before; labels = earlier }) (labelled labels (laid_with q body) no_labelled)
labelled_by v p q trees before own body all earlier labels t plain added l = λ i. record { groups = record { tree = t i; plain = plain i; added = added i }; labels = l i }

pub labelled_as : (v p q : Declared) (xs zs : List TGroup) (g : TGroup) (all earlier labels : List TLabel) (body : List TStmt) → v ≡ both_declared p q → zs ≡ xs ++ g ∷ [] → g.labels.items ≡ labels → g.body.items ≡ body → all ≡ earlier ++ labels
    → record { groups = laid_with v (groups_of zs); labels = all } ≡ labelled_before (record { groups = laid_with p (groups_of xs); labels = earlier }) (labelled labels (laid_with q (stmts_of body)) no_labelled)
labelled_as v p q xs zs g all earlier labels body is grown own inner more =
    labelled_by v p q (groups_of zs) (groups_of xs) no_groups (stmts_of body) all earlier labels (trees_as xs zs g labels body grown own inner) (behind_none v.plain p.plain q.plain (ap (λ d. d.plain) is))
    (behind_none v.added p.added q.added (ap (λ d. d.added) is)) (behind_none all earlier labels more)
