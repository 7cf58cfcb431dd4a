-- For private contracts and proofs alone: a table of structs with the cells and the extents of each.
use Rattle.std.specs.Prelude.{◌≡◌, ℕ, zero, suc, List, [], ◌∷◌, Option, Some, None, slice_get}
use Rattle.c_tree.specs.Tree.{CType, struct}
use Rattle.c_tree.specs.Layout.{Structs, cells, extent, rounded, extent_after}
use Rattle.c_check_scopes.specs.declared.structs.Defined.{Defined}
use Rattle.c_check_scopes.specs.Known.{layout_of}
use Rattle.c_check_scopes.specs.Extents.{extent_seen}
use Rattle.c_check_scopes.specs.Held.{AllInAll, IsDefined}
use Rattle.c_check_scopes.specs.Shown.{shown, members_types}
use Rattle.c_check_scopes.specs.Measured.{cells_kept, extent_kept, counted_all, no_extent}

-- it holds others less than so many deep, and all have definitions
abbrev pub IsClosed : Structs → ℕ → ℕ → Type 0
IsClosed structs zero s = ⊥
IsClosed structs (suc depth) s = (ts : List CType) × (slice_get structs s ≡ Some (Some ts)) × AllInAll (IsClosed structs depth) ts

-- how many have definitions
abbrev pub count_defined : Structs → ℕ
count_defined [] = 0
count_defined (None ∷ structs) = count_defined structs
count_defined (Some ts ∷ structs) = suc (count_defined structs)

pub record AreLaid (structs : List (Option Defined)) : Type 0 where
  pub cells : (s : ℕ) → cells_kept (slice_get structs s) ≡ cells (layout_of (shown structs)) (struct s)
  pub extents : (s : ℕ) → extent_kept (slice_get structs s) ≡ extent (layout_of (shown structs)) (struct s)
  pub closed : (s : ℕ) → IsDefined (layout_of (shown structs)) s → IsClosed (layout_of (shown structs)) (count_defined (layout_of (shown structs))) s

-- a struct is measured over those that have definitions
pub record IsMeasured (structs : List (Option Defined)) (d : Defined) : Type 0 where
  pub cells : d.cells ≡ counted_all (λ s. cells_kept (slice_get structs s)) (members_types d.members.items)
  pub extent : extent_seen d.extent ≡ rounded (extent_after (λ s. extent_kept (slice_get structs s)) no_extent (members_types d.members.items))
