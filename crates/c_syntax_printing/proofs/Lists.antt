-- What is left of a list of trees is its first item, with a comma before it where others stand before, and what is left after it.
use Rattle.std.proofs.Common.{◌≡◌, ℕ, Bool, true, false, List, [], ◌∷◌, refl}
use Rattle.c_syntax.specs.declared.tree.Expr.{Expr as Tree}
use Rattle.c_syntax.specs.declared.tree.Declarator.{Declarator as DeclaratorTree}
use Rattle.c_syntax.specs.declared.tree.Init.{Init as InitTree}
use Rattle.c_syntax.specs.declared.tree.DeclPart.{DeclPart}
use Rattle.c_syntax.specs.declared.tree.Enumerator.{Enumerator}
use Rattle.c_syntax.specs.declared.tree.Label.{Label}
use Rattle.c_syntax.specs.declared.tree.LabelKind.{LabelKind}
use Rattle.c_syntax.specs.declared.tree.LabelKind.TheVariants.{Case}
use Rattle.c_syntax.specs.Tree.{Labels, no_labels}
use Rattle.c_syntax.specs.View.{ident_of, expr_of, declarator_of}
use Rattle.c_syntax.specs.UnitView.{maybe_of, init_of, maybe_init_of, parts_of, declarators_of, enumerators_of, label_before, labels_of}
use Rattle.c_syntax.specs.Print.{Kinds, operand_kinds, declarator_kinds, init_kinds, part_kinds, labels_kinds}
use Rattle.c_syntax.specs.Writes.{exprs_of, left_kinds, separator}
use Rattle.c_syntax.specs.WritesUnit.{inits_of, left_inits, left_parts, left_declarators, left_enumerators, enumerator_kinds, label_kinds}

pub exprs_first : (first : Bool) (x : Tree) (xs : List Tree) (k : Kinds) → left_kinds first (exprs_of (x ∷ xs)) k ≡ separator first (operand_kinds (expr_of x) (left_kinds false (exprs_of xs) k))
exprs_first true x xs k = refl
exprs_first false x xs k = refl

pub no_exprs_left : (first : Bool) (k : Kinds) → left_kinds first (exprs_of []) k ≡ k
no_exprs_left true k = refl
no_exprs_left false k = refl

pub inits_first : (first : Bool) (x : InitTree) (xs : List InitTree) (k : Kinds) → left_inits first (inits_of (x ∷ xs)) k ≡ separator first (init_kinds (init_of x) (left_inits false (inits_of xs) k))
inits_first true x xs k = refl
inits_first false x xs k = refl

pub no_inits_left : (first : Bool) (k : Kinds) → left_inits first (inits_of []) k ≡ k
no_inits_left true k = refl
no_inits_left false k = refl

pub parts_first : (first : Bool) (x : DeclPart) (xs : List DeclPart) (k : Kinds) → left_parts first (parts_of (x ∷ xs)) k ≡ separator first (part_kinds (declarator_of x.declarator) (maybe_init_of x.init) (left_parts false (parts_of xs) k))
parts_first true x xs k = refl
parts_first false x xs k = refl

pub no_parts_left : (first : Bool) (k : Kinds) → left_parts first (parts_of []) k ≡ k
no_parts_left true k = refl
no_parts_left false k = refl

pub declarators_first : (first : Bool) (x : DeclaratorTree) (xs : List DeclaratorTree) (k : Kinds) → left_declarators first (declarators_of (x ∷ xs)) k ≡ separator first (declarator_kinds (declarator_of x) (left_declarators false (declarators_of xs) k))
declarators_first true x xs k = refl
declarators_first false x xs k = refl

pub no_declarators_left : (first : Bool) (k : Kinds) → left_declarators first (declarators_of []) k ≡ k
no_declarators_left true k = refl
no_declarators_left false k = refl

pub enumerators_first : (first : Bool) (x : Enumerator) (xs : List Enumerator) (k : Kinds) → left_enumerators first (enumerators_of (x ∷ xs)) k ≡ separator first (enumerator_kinds (ident_of x.name) (maybe_of x.value) (left_enumerators false (enumerators_of xs) k))
enumerators_first true x xs k = refl
enumerators_first false x xs k = refl

pub no_enumerators_left : (first : Bool) (k : Kinds) → left_enumerators first (enumerators_of []) k ≡ k
no_enumerators_left true k = refl
no_enumerators_left false k = refl

label_first : (at : ℕ) (kind : LabelKind) (rest : Labels) (k : Kinds) → labels_kinds (label_before at kind rest) k ≡ label_kinds kind (labels_kinds rest k)
label_first at (Case e) rest k = refl
label_first at kind rest k = refl

pub labels_first : (x : Label) (xs : List Label) (k : Kinds) → labels_kinds (labels_of (x ∷ xs)) k ≡ label_kinds x.kind (labels_kinds (labels_of xs) k)
labels_first x xs k = label_first x.at x.kind (labels_of xs) k
