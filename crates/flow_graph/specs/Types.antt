-- For private contracts and proofs alone: the types of the pointers that are called.
use Rattle.std.specs.Prelude.{◌≡◌, ◌↔◌, ◌+◌, ℕ, true, List, [], ◌∷◌, map, Contains, if◌then◌else◌, Vec}
use Rattle.std.specs.Global.{Global}
use Rattle.std.specs.Borrow.{Bor}
use Rattle.c_tree.specs.declared.tree.CType.{CType as TypeTree}
use Rattle.c_tree.specs.View.{ctype_of}
use Rattle.c_tree.specs.Tree.{CType, Program}
use Rattle.c_meaning.specs.CallGraph.{same_type, is_taken}
use Rattle.c_meaning.specs.Mentions.{Mention, Calls, Through}

-- where the type stands first, or the number of types
abbrev pub first_place : CType → List CType → ℕ
first_place t [] = 0
first_place t (u ∷ us) = if same_type t u then 0 else first_place t us + 1

-- a pointer of the type is called
abbrev pub IsThrough : CType → Mention → Type 0
IsThrough t m = (s : ℕ) × (m ≡ Calls s (Through t))

-- the list of functions whose names are taken
abbrev pub AreTaken : Program → List ℕ → Type 0
AreTaken p fs = (f : ℕ) → Contains fs f ↔ (is_taken p f ≡ true)

-- the types to which references point
abbrev pub types_at : List (Bor TypeTree) → List CType
types_at ts = map (λ t. ctype_of t.now) ts

-- the lists in vectors
abbrev pub items_of : List (Vec ℕ Global) → List (List ℕ)
items_of vs = map (λ v. v.items) vs
