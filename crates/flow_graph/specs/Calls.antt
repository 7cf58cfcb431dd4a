-- What the call graph of a program holds. Contracts cite this of a value that `Calls::of` gave; what it tells of the program is said by the contracts of the calls that read it.
use Rattle.std.specs.Prelude.{◌≡◌, ◌↔◌, ℕ, ◌+◌, ◌<◌, ◌^◌, true, Option, None, Some, Contains, slice_get, slice_index_or, Vec}
use Rattle.std.specs.Global.{Global}
use Rattle.c_tree.specs.Tree.{CType, Program}
use Rattle.c_tree.specs.Functions.{defined}
use Rattle.c_meaning.specs.Mentions.{Callee, Direct, Through, mentions_of_program}
use Rattle.c_meaning.specs.CallGraph.{is_taken, reaches, callees, callee_at, has_one}
use Rattle.flow_graph.specs.declared.calls.Calls.{Calls}
use Rattle.flow_graph.specs.declared.call_sites.Place.{Place}
use Rattle.flow_graph.specs.declared.call_sites.Place.TheVariants.{Function, Pointer}

abbrev pub place_at : Calls → ℕ → Option Place
place_at c s = slice_index_or c.places.items s None

-- the list at the place has the candidates of the type, and the node after the functions tells whether one of them may come to a system call
abbrev pub IsList : Program → Calls → ℕ → CType → Type 0
IsList p c k t =
    (v : Vec ℕ Global) × (slice_get c.lists.items k ≡ Some v) × (v.items ≡ callees p (Through t)) × (defined p + 24 + k < 2 ^ 64)
    × (Contains c.reaching.keys (defined p + 24 + k) ↔ (has_one (reaches p) (callees p (Through t)) ≡ true))

-- the place is what is called at the site
abbrev pub IsPlace : Program → Calls → Option Place → Option Callee → Type 0
IsPlace p c None callee = callee ≡ None
IsPlace p c (Some (Function f)) callee = callee ≡ Some (Direct f)
IsPlace p c (Some (Pointer k)) callee = (t : CType) × (callee ≡ Some (Through t)) × IsList p c k t

pub record AreCallsOf (p : Program) (c : Calls) : Type 0 where
  pub defined_are : c.defined ≡ defined p
  pub taken_are : (f : ℕ) → Contains c.taken.keys f ↔ (is_taken p f ≡ true)
  pub reaching_are : (f : ℕ) → f < defined p + 24 → Contains c.reaching.keys f ↔ (reaches p f ≡ true)
  pub places_are : (s : ℕ) → IsPlace p c (place_at c s) (callee_at s (mentions_of_program p))
