-- Bodies of functions, items and units.
use Rattle.std.proofs.Common.{◌≡◌, ℕ, ◌+◌, List, [], ◌∷◌, ◌++◌, ap, ◌∙◌}
use Rattle.c_tree.specs.Tree.{Program}
use Rattle.c_syntax.specs.declared.tree.Item.{Item as ItemTree}
use Rattle.c_syntax.specs.Tree.{Declarator, Decl, Params, named, function, no_params, more_params, nothing, void, unsigned_int, block, BlockItems, Item, decl_item, Items, no_items, more_items}
use Rattle.c_syntax.specs.UnitView.{item_at, items_of}
use Rattle.c_rules.specs.Names.{Name}
use Rattle.c_rules.specs.Units.{tags_of}
use Rattle.null_calls_expressions.specs.MarkedCalls.{Sites, sites_of}
use Rattle.null_calls_expressions.specs.Temporaries.{Temporary, pre_name, post_name, declared_before}
use Rattle.null_calls_expressions.specs.Instrumented as marks
use Rattle.null_calls_expressions.specs.Instrumented.{instrumented_unit, calls_of_item, null_prototype}
use Rattle.null_calls_expressions.specs.InstrumentedStatements as parts
use Rattle.null_calls_expressions.specs.Kept.{alone}
use Rattle.null_calls_expressions.specs.Marked.{Marking}

pub body_made : (sites : Sites) (tags : List Name) (at b : ℕ) (is : BlockItems) (kept : List Temporary) (made whole : BlockItems)
    → kept ≡ parts.kept_of_block sites b is → made ≡ parts.items_of_block sites b is → whole ≡ declared_before tags at kept made → block at whole ≡ marks.body_of sites tags at b is
body_made sites tags at b is kept made whole ks ms h =
    ap (block at) (h ∙ (ap (λ k. declared_before tags at k made) ks ∙ ap (declared_before tags at (parts.kept_of_block sites b is)) ms))

-- items in turn, whose temporaries stand in their bodies
abbrev pub calls_of_items : Items → ℕ
calls_of_items no_items = 0
calls_of_items (more_items i is) = calls_of_item i + calls_of_items is

module _ (sites : Sites) (tags : List Name) where
  abbrev pub of_item : Marking Item
  of_item = record { mark = marks.item sites tags; kept = λ _ _. []; count = calls_of_item }

  abbrev pub of_items : Marking Items
  of_items = record { mark = marks.items sites tags; kept = λ _ _. []; count = calls_of_items }

pub unit_made : (p : Program) (u : Items) (sites : Sites) (tags : List Name) (x y : Item) (rest : Items) → ((s : ℕ) → sites s ≡ sites_of p s) → tags ≡ tags_of u → x ≡ null_prototype pre_name → y ≡ null_prototype post_name
    → rest ≡ marks.items sites tags 0 u → more_items x (more_items y rest) ≡ instrumented_unit p u
unit_made p u sites tags x y rest same tagged first second third =
    let table : sites ≡ sites_of p = λ i s. same s i in
    let all : rest ≡ marks.items (sites_of p) (tags_of u) 0 u = third ∙ (ap (λ f. marks.items f tags 0 u) table ∙ ap (λ ts. marks.items (sites_of p) ts 0 u) tagged) in
    ap (λ i. more_items i (more_items y rest)) first ∙ (ap (λ i. more_items (null_prototype pre_name) (more_items i rest)) second ∙ ap (λ r. more_items (null_prototype pre_name) (more_items (null_prototype post_name) r)) all)

pub two_first : (a b : ItemTree) (rest none one two all : List ItemTree) → none ≡ [] → one ≡ none ++ a ∷ [] → two ≡ one ++ b ∷ [] → all ≡ two ++ rest → items_of all ≡ more_items (item_at a.at a.kind) (more_items (item_at b.at b.kind) (items_of rest))
two_first a b rest none one two all p q r s = ap items_of (s ∙ ap (λ xs. xs ++ rest) (r ∙ ap (λ xs. xs ++ b ∷ []) (q ∙ ap (λ xs. xs ++ a ∷ []) p)))

-- the declaration of a null call
pub prototype_made : (x : Name) (d : Decl) (f inner : Declarator) (ps : Params) → d ≡ alone 0 void f → f ≡ function 0 inner ps → inner ≡ named 0 (record { name = x; at = 0 }) → ps ≡ more_params 0 unsigned_int nothing no_params
    → decl_item 0 d ≡ null_prototype x
prototype_made x d f inner ps p q r s = ap (decl_item 0) (p ∙ ap (alone 0 void) (q ∙ (ap (λ y. function 0 y ps) r ∙ ap (function 0 (named 0 (record { name = x; at = 0 }))) s)))
