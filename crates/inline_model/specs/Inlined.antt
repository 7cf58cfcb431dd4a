-- The inlined model: one function, whose nodes are those of all copies.
use Rattle.std.specs.Prelude.{◌≡◌, ◌↔◌, ℕ, ℤ, ◌+◌, ◌-◌, ◌<◌, List, [], ◌∷◌, Option, slice_get, Some}
use Rattle.flow_model.specs.declared.records.ModelFunction.{ModelFunction}
use Rattle.flow_model.specs.Graph.{Graph, Owns, HasSilent, HasSys, HasCall, HasFunction}
use Rattle.flow_model.specs.Order.{silent_order, sys_order, StrictlyRise}
use Rattle.inline_model.specs.Within.{Within}
use Rattle.inline_model.specs.Copies.{Opened, function_of, entry_of, AreCopies, node_count, BeginsAt}

-- the node of the copy's function has this number in the copy
pub record IsNodeOf (g : Graph) (copies : List (List Opened)) (copy : List Opened) (node number : ℕ) : Type 0 where
  pub first : ℕ
  pub begins : BeginsAt g copies copy first
  pub owns : Owns g.functions g.nodes (function_of g copy) node
  pub number_is : number ≡ first + (node - entry_of g.functions (function_of g copy))

-- Silent edges are copied. For a call edge from a to b in a copy, and each candidate by which the copy goes on to another,
-- there are those from a to the other's entry and from the other's exit to b.
pub data HasInlinedSilent (g : Graph) (copies : List (List Opened)) : ℕ → ℕ → Type 0 where
  copied : {copy : List Opened} {a b i j : ℕ} → HasSilent g a b → IsNodeOf g copies copy a i → IsNodeOf g copies copy b j → HasInlinedSilent g copies i j
  enters : {copy : List Opened} {a s b f entry exit i j : ℕ} → HasCall g a s b f → Within g (function_of g copy) a → HasFunction g f entry exit → IsNodeOf g copies copy a i → IsNodeOf g copies (record { site = s; candidate = f } ∷ copy) entry j → HasInlinedSilent g copies i j
  leaves : {copy : List Opened} {a s b f entry exit i j : ℕ} → HasCall g a s b f → Within g (function_of g copy) a → HasFunction g f entry exit → IsNodeOf g copies (record { site = s; candidate = f } ∷ copy) exit i → IsNodeOf g copies copy b j → HasInlinedSilent g copies i j

-- system-call edges are copied
pub data HasInlinedSys (g : Graph) (copies : List (List Opened)) : ℕ → ℕ → List (Option ℤ) → ℕ → Type 0 where
  copied : {copy : List Opened} {a x b i j : ℕ} {p : List (Option ℤ)} → HasSys g a x p b → IsNodeOf g copies copy a i → IsNodeOf g copies copy b j → HasInlinedSys g copies i x p j

-- m is the inlined model of g: its one function has the start's name, entry and exit, and no edge is a call
pub record IsInlined (g m : Graph) : Type 0 where
  pub copies : List (List Opened)
  pub are : AreCopies g copies
  pub nodes : m.nodes ≡ node_count g copies
  pub start : m.start ≡ 0
  pub function : ModelFunction
  pub is_start : slice_get g.functions g.start ≡ Some function
  pub functions : m.functions ≡ record { name = function.name; entry = 0; exit = function.exit - function.entry } ∷ []
  pub silent : (i j : ℕ) → HasSilent m i j ↔ HasInlinedSilent g copies i j
  pub sys : (i x : ℕ) (p : List (Option ℤ)) (j : ℕ) → HasSys m i x p j ↔ HasInlinedSys g copies i x p j
  pub calls : m.calls ≡ []
  pub silent_rise : StrictlyRise silent_order m.silent
  pub sys_rise : StrictlyRise sys_order m.sys

-- the inlined model has more nodes than a model may have
pub record HasTooManyNodes (g : Graph) : Type 0 where
  pub copies : List (List Opened)
  pub are : AreCopies g copies
  pub many : 200000 < node_count g copies
