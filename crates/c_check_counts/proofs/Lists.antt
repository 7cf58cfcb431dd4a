-- What lists of trees hold, one after another.
use Rattle.std.proofs.Common.{◌≡◌, ℕ, ◌+◌, ◌<◌, ◌≤◌, Bool, true, false, List, [], ◌∷◌, ◌++◌, length, take, get_or, Result, OnOk, refl, sym, ap, ◌∙◌, append-nil}
use Rattle.std.specs.Prelude.{flat_map, if◌then◌else◌}
use Rattle.std.proofs.lemmas.List.{take_more, take_all, append_assoc}
use Rattle.std.proofs.lemmas.Grind.{flat_map-append}
use Rattle.c_syntax.specs.declared.tree.DeclPart.{DeclPart}
use Rattle.c_syntax.specs.declared.tree.BlockItem.{BlockItem, Declaration, Statement'}
use Rattle.c_syntax.specs.declared.tree.Stmt.{Stmt as StmtTree}
use Rattle.c_syntax.specs.declared.tree.Group.{Group, Group'}
use Rattle.c_syntax.specs.declared.tree.Item.{Item as ItemTree}
use Rattle.c_syntax.specs.Tree as syntax
use Rattle.c_syntax.specs.UnitView.{parts_of, decl_of, stmt_at, stmt_of, stmts_of_row, items_of, item_at}
use Rattle.c_syntax.specs.WritesUnit.{block_items_of, stmts_of, groups_of}
use Rattle.c_check_scopes.specs.Names.{Name}
use Rattle.c_check_scopes.specs.Units.{functions_of_item, functions_of, objects_of_parts, objects_of_item, objects_of}
use Rattle.c_check_scopes.specs.Variables.{names_of_parts, names_of_decl, names_of_stmt, names_of_block, names_of_stmts, names_of_groups}
use Rattle.c_check_counts.specs.Named.{name_of_part, names_of_block_item, names_of_group, is_object, objects_of_part}
pub use Rattle.c_syntax.proofs.Lists.{one_more, on_same}
pub use Rattle.dm_base.proofs.ListLemmas.{two_parts}
pub use Rattle.c_syntax.proofs.Lists.{then_on}

-- ## Parts in turn

pub two_more : {Y : Type 0} (a b r s : List Y) → r ≡ s → a ++ (b ++ r) ≡ (a ++ b) ++ s
two_more a b r s e = ap (λ z. a ++ (b ++ z)) e ∙ sym (append_assoc a b s)

-- ## Names of variables

pub names_of_parts_flat : (ps : List DeclPart) → names_of_parts (parts_of ps) ≡ flat_map (λ p. name_of_part p ∷ []) ps
names_of_parts_flat [] = refl
names_of_parts_flat (p ∷ ps) = ap (λ xs. name_of_part p ∷ xs) (names_of_parts_flat ps)

pub names_of_block_flat : (is : List BlockItem) → names_of_block (block_items_of is) ≡ flat_map names_of_block_item is
names_of_block_flat [] = refl
names_of_block_flat (Declaration d ∷ is) = one_more (names_of_decl (decl_of d)) (names_of_block (block_items_of is)) (flat_map names_of_block_item is) (names_of_block_flat is)
names_of_block_flat (Statement' at kind ∷ is) = one_more (names_of_stmt (stmt_at at kind)) (names_of_block (block_items_of is)) (flat_map names_of_block_item is) (names_of_block_flat is)

pub names_of_stmts_flat : (ss : List StmtTree) → names_of_stmts (stmts_of ss) ≡ flat_map (λ s. names_of_stmt (stmt_of s)) ss
names_of_stmts_flat [] = refl
names_of_stmts_flat (s ∷ ss) = ap (λ xs. names_of_stmt (stmt_of s) ++ xs) (names_of_stmts_flat ss)

pub names_of_groups_flat : (gs : List Group) → names_of_groups (groups_of gs) ≡ flat_map names_of_group gs
names_of_groups_flat [] = refl
names_of_groups_flat (Group' labels shape row ∷ gs) = one_more (names_of_stmts (stmts_of_row row)) (names_of_groups (groups_of gs)) (flat_map names_of_group gs) (names_of_groups_flat gs)

-- ## Functions and objects

pub functions_flat : (is : List ItemTree) → functions_of (items_of is) ≡ flat_map (λ i. functions_of_item (item_at i.at i.kind)) is
functions_flat [] = refl
functions_flat (i ∷ is) = ap (λ xs. functions_of_item (item_at i.at i.kind) ++ xs) (functions_flat is)

pub objects_flat : (is : List ItemTree) → objects_of (items_of is) ≡ flat_map (λ i. objects_of_item (item_at i.at i.kind)) is
objects_flat [] = refl
objects_flat (i ∷ is) = ap (λ xs. objects_of_item (item_at i.at i.kind) ++ xs) (objects_flat is)

perhaps : (t : Bool) (x : Name) (xs : List Name) → (if t then x ∷ xs else xs) ≡ (if t then x ∷ [] else []) ++ xs
perhaps true x xs = refl
perhaps false x xs = refl

pub objects_of_parts_flat : (class : syntax.Storage) (ps : List DeclPart) → objects_of_parts class (parts_of ps) ≡ flat_map (objects_of_part class) ps
objects_of_parts_flat class [] = refl
objects_of_parts_flat class (p ∷ ps) = perhaps (is_object class p) (name_of_part p) (objects_of_parts class (parts_of ps)) ∙ ap (λ xs. objects_of_part class p ++ xs) (objects_of_parts_flat class ps)

-- ## Loops

-- a loop that adds for each item what it has
module _ {X Y : Type 0} (f : X → List Y) (xs : List X) where
  pub more_flat : (i : ℕ) (x : X) (start old new : List Y) → i < length xs → x ≡ get_or xs i x → old ≡ start ++ flat_map f (take i xs) → new ≡ old ++ f x → new ≡ start ++ flat_map f (take (i + 1) xs)
  more_flat i x start old new lt is before step =
      let more : take (i + 1) xs ≡ take i xs ++ x ∷ [] = take_more xs i x lt ∙ ap (λ y. take i xs ++ y ∷ []) (sym is) in
      step
      ∙ ap (λ ys. ys ++ f x) before
      ∙ append_assoc start (flat_map f (take i xs)) (f x)
      ∙ ap (λ ys. start ++ ys) (ap (λ ys. flat_map f (take i xs) ++ ys) (sym (append-nil (f x))) ∙ sym (flat_map-append f (take i xs) (x ∷ [])) ∙ ap (flat_map f) (sym more))

  pub all_flat : (i : ℕ) (start new whole : List Y) → length xs ≤ i → whole ≡ flat_map f xs → new ≡ start ++ flat_map f (take i xs) → new ≡ start ++ whole
  all_flat i start new whole over e is = is ∙ ap (λ ys. start ++ flat_map f ys) (take_all i xs over) ∙ ap (λ ys. start ++ ys) (sym e)

-- ## Clauses of calls by other words

-- where a form holds nothing
pub none_on : {Y : Type 0} (old m : List Y) → m ≡ [] → old ≡ old ++ m
none_on old m e = sym (append-nil old) ∙ ap (λ ys. old ++ ys) (sym e)

pub two_then_on : {E Y : Type 0} (r : Result (Unit {0}) E) (old mid next new a b d m : List Y) → mid ≡ old ++ a → next ≡ mid ++ b → m ≡ a ++ (b ++ d) → OnOk r (new ≡ next ++ d) → OnOk r (new ≡ old ++ m)
two_then_on r old mid next new a b d m first second e is =
    then_on r old next new (a ++ b) d m (two_parts old mid next a b first second) (e ∙ sym (append_assoc a b d)) is

pub three_then_on : {E Y : Type 0} (r : Result (Unit {0}) E) (old one two three new a b d f m : List Y) → one ≡ old ++ a → two ≡ one ++ b → three ≡ two ++ d → m ≡ a ++ (b ++ (d ++ f)) → OnOk r (new ≡ three ++ f) → OnOk r (new ≡ old ++ m)
three_then_on r old one two three new a b d f m first second third e is =
    two_then_on r old two three new (a ++ b) d f m (two_parts old one two a b first second) third (e ∙ sym (append_assoc a b (d ++ f))) is
