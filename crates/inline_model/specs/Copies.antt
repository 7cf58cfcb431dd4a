-- The copies of functions of which an inlined model consists.
use Rattle.std.specs.Prelude.{◌≡◌, ◌↔◌, ℕ, ◌-◌, List, [], ◌∷◌, ◌++◌, Contains, slice_get, option_map, unwrap_or, sum_by}
use Rattle.std.specs.declared.cmp.Ordering.{Ordering}
use Rattle.std.specs.Ordering.{nat_cmp, ordering_then}
use Rattle.flow_model.specs.declared.records.ModelFunction.{ModelFunction}
use Rattle.flow_model.specs.Graph.{Graph, end_of}
use Rattle.flow_model.specs.Order.{StrictlyRise}
use Rattle.inline_model.specs.Chains.{Opening}

-- an open call: its site, and the candidate that was entered
pub record Opened : Type 0 where
  pub site : ℕ
  pub candidate : ℕ

-- A copy is the list of its open calls, the newest first. It is one of the last candidate; without calls, of the start function.
abbrev pub function_of : Graph → List Opened → ℕ
function_of g [] = g.start
function_of g (call ∷ copy) = call.candidate

-- the sites of a copy are a chain, the oldest first, and each leaves a node within the candidate before it
pub data IsCopy (g : Graph) : List Opened → Type 0 where
  of_start : IsCopy g []
  goes_on : {copy : List Opened} {call : Opened} → IsCopy g copy → Opening g (function_of g copy) call.site call.candidate → IsCopy g (call ∷ copy)

-- by the site, then by the candidate
abbrev pub opened_order : Opened → Opened → Ordering
opened_order d e = ordering_then (nat_cmp d.site e.site) (nat_cmp d.candidate e.candidate)

-- the calls by which a copy of the function goes on, in increasing order
pub record AreOpenings (g : Graph) (function : ℕ) (calls : List Opened) : Type 0 where
  pub all : (call : Opened) → Contains calls call ↔ Opening g function call.site call.candidate
  pub rise : StrictlyRise opened_order calls

mutual
  -- the list begins with the copy and all that go on from it, depth first, and then goes on with the rest
  pub data Copies (g : Graph) : List Opened → List (List Opened) → List (List Opened) → Type 0 where
    unfolds : {copy : List Opened} {calls : List Opened} {list rest : List (List Opened)} → AreOpenings g (function_of g copy) calls → Branches g copy calls list rest → Copies g copy (copy ∷ list) rest

  -- the same of the copies that go on from a copy by these calls, one after the other
  pub data Branches (g : Graph) : List Opened → List Opened → List (List Opened) → List (List Opened) → Type 0 where
    over : {copy : List Opened} {list : List (List Opened)} → Branches g copy [] list list
    branch : {copy calls : List Opened} {call : Opened} {list middle rest : List (List Opened)} → Copies g (call ∷ copy) list middle → Branches g copy calls middle rest → Branches g copy (call ∷ calls) list rest

-- all copies, depth first
abbrev pub AreCopies : Graph → List (List Opened) → Type 0
AreCopies g copies = Copies g [] copies []

-- the first node of the function
abbrev pub entry_of : List ModelFunction → ℕ → ℕ
entry_of functions f = unwrap_or (option_map (λ one. one.entry) (slice_get functions f)) 0

-- how many nodes a copy has: those of its function
abbrev pub size_of : Graph → List Opened → ℕ
size_of g copy = end_of g.functions g.nodes (function_of g copy) - entry_of g.functions (function_of g copy)

-- how many nodes the copies have together
abbrev pub node_count : Graph → List (List Opened) → ℕ
node_count g copies = sum_by (size_of g) copies

-- the copy is one of the list, and its nodes go on from those of the copies before it, the first having this number
pub record BeginsAt (g : Graph) (copies : List (List Opened)) (copy : List Opened) (number : ℕ) : Type 0 where
  pub before : List (List Opened)
  pub after : List (List Opened)
  pub stands : copies ≡ before ++ copy ∷ after
  pub number_is : number ≡ node_count g before
