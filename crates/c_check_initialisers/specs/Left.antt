-- For private contracts and proofs alone: zeros that are added for objects of types, and stores before others.
use Rattle.std.specs.Prelude.{◌≡◌, ℕ, List, [], ◌∷◌, ◌++◌, map}
use Rattle.c_rules.specs.TypedExpression.{TypedExpression}
use Rattle.c_rules.specs.Initialisers.{typed_zero}
use Rattle.c_tree.specs.declared.tree.TInit.{TInit}
use Rattle.c_tree.specs.Layout.{Structs, layout, flat_with, flat_all_with}
use Rattle.c_tree.specs.Tree.{CType, Inits, more_inits}
use Rattle.c_tree.specs.View.{expr_of}

-- those of one object, with structs at most so many deep
abbrev pub AddsZeros : Structs → (depth : ℕ) → CType → (old new : List TypedExpression) → Type 0
AddsZeros structs depth t old new = new ≡ old ++ map typed_zero (flat_with (layout structs depth) t)

-- those of several objects
abbrev pub AddsAllZeros : Structs → (depth : ℕ) → List CType → (old new : List TypedExpression) → Type 0
AddsAllZeros structs depth ts old new = new ≡ old ++ map typed_zero (flat_all_with (layout structs depth) ts)

-- stores, and others behind them
abbrev pub stores_before : List TInit → Inits → Inits
stores_before [] is = is
stores_before (x ∷ xs) is = more_inits x.cell (expr_of x.value) (stores_before xs is)
