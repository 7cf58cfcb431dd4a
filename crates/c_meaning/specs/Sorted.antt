-- Items in order, each once.
use Rattle.std.specs.Prelude.{List, [], ◌∷◌}
use Rattle.std.specs.declared.cmp.Ordering.{Ordering}
use Rattle.std.specs.declared.cmp.Ordering.TheVariants.{Less, Equal, Greater}

-- x before y and what follows it, or in place of y, or in what follows it
abbrev pub placed : {X : Type 0} → Ordering → X → X → List X → List X → List X
placed Less x y ys inside = x ∷ y ∷ ys
placed Equal x y ys inside = y ∷ ys
placed Greater x y ys inside = y ∷ inside

-- the items with x at its place, unless an equal one is there
abbrev pub insert : {X : Type 0} → (X → X → Ordering) → X → List X → List X
insert order x [] = x ∷ []
insert order x (y ∷ ys) = placed (order x y) x y ys (insert order x ys)

-- the items in order, equal ones once
abbrev pub sorted : {X : Type 0} → (X → X → Ordering) → List X → List X
sorted order [] = []
sorted order (x ∷ xs) = insert order x (sorted order xs)
