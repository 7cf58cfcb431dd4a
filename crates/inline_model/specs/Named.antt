-- The list of copies as it is kept: each names the copy from which it goes on by its place.
use Rattle.std.specs.Prelude.{◌≡◌, ◌≤◌, ℕ, Bool, true, false, List, [], ◌∷◌, Some, Contains, length, take, slice_get}
use Rattle.flow_model.specs.Call.{Call}
use Rattle.flow_model.specs.Graph.{Graph}
use Rattle.inline_model.specs.Copies.{Opened, function_of, IsCopy, node_count, AreCopies}
use Rattle.inline_model.specs.declared.copied.Copied.{Copied}

-- the copy goes on from the one at a place of the list by the call edge at a place of the model
pub record GoesOn (g : Graph) (copies : List (List Opened)) (copy : List Opened) (parent place function : ℕ) : Type 0 where
  pub before : List Opened
  pub stands : slice_get copies parent ≡ Some before
  pub call : Call
  pub at : slice_get g.calls place ≡ Some call
  pub candidate : Contains call.candidates function
  pub is : copy ≡ record { site = call.site; candidate = function } ∷ before

-- the copy is the start's, which has no calls, or goes on from another
pub data IsFrom (g : Graph) (copies : List (List Opened)) (copy : List Opened) (root : Bool) (parent place function : ℕ) : Type 0 where
  begins : copy ≡ [] → root ≡ true → IsFrom g copies copy root parent place function
  continues : root ≡ false → GoesOn g copies copy parent place function → IsFrom g copies copy root parent place function

-- what an item of the list says of the copy at its place
pub record IsNamed (g : Graph) (copies : List (List Opened)) (place : ℕ) (item : Copied) : Type 0 where
  pub copy : List Opened
  pub stands : slice_get copies place ≡ Some copy
  pub is_copy : IsCopy g copy
  pub function : item.function ≡ function_of g copy
  pub number : item.first ≡ node_count g (take place copies)
  pub from : IsFrom g copies copy item.root item.parent item.place item.function

-- the list names these copies
pub record AreNamed (g : Graph) (copies : List (List Opened)) (items : List Copied) : Type 0 where
  pub long : length items ≡ length copies
  pub all : (i : ℕ) (item : Copied) → slice_get items i ≡ Some item → IsNamed g copies i item

-- the list names all copies, depth first, and they have no more nodes than a model may have
pub record AreAllCopies (g : Graph) (items : List Copied) : Type 0 where
  pub copies : List (List Opened)
  pub are : AreCopies g copies
  pub named : AreNamed g copies items
  pub few : node_count g copies ≤ 200000
