-- For private contracts and proofs alone: how the list of copies is made.
use Rattle.std.specs.Prelude.{◌≡◌, ◌≤◌, ◌-◌, ℕ, false, List, [], ◌∷◌, ◌++◌}
use Rattle.flow_model.specs.Graph.{Graph, end_of}
use Rattle.inline_model.specs.Copies.{Opened, function_of, IsCopy, entry_of, node_count, AreCopies, Copies}
use Rattle.inline_model.specs.declared.copied.Copied.{Copied}
use Rattle.inline_model.specs.declared.copied.Waiting.{Waiting}
use Rattle.inline_model.specs.declared.table.Entry.{Entry}
use Rattle.inline_model.specs.Named.{IsFrom, AreNamed}

-- how many nodes the function has
abbrev pub nodes_of : Graph → ℕ → ℕ
nodes_of g f = end_of g.functions g.nodes f - entry_of g.functions f

-- the copy that goes on from the one at the place by the entry
abbrev pub waiting_of : ℕ → Entry → Waiting
waiting_of parent e = record { function = e.candidate; root = false; parent = parent; place = e.place }

-- the item that the copy becomes
abbrev pub item_of : Waiting → ℕ → Copied
item_of w count = record { function = w.function; root = w.root; parent = w.parent; place = w.place; first = count }

-- one that waits is this copy
pub record IsAwaited (g : Graph) (copies : List (List Opened)) (w : Waiting) (copy : List Opened) : Type 0 where
  pub is_copy : IsCopy g copy
  pub function : w.function ≡ function_of g copy
  pub from : IsFrom g copies copy w.root w.parent w.place w.function

-- those that wait are these copies
pub data AreAwaited (g : Graph) (copies : List (List Opened)) : List Waiting → List (List Opened) → Type 0 where
  none : AreAwaited g copies [] []
  more : {w : Waiting} {copy : List Opened} {ws : List Waiting} {cs : List (List Opened)} → IsAwaited g copies w copy → AreAwaited g copies ws cs → AreAwaited g copies (w ∷ ws) (copy ∷ cs)

-- the list is what the copies go on to, one after the other
pub data Follow (g : Graph) : List (List Opened) → List (List Opened) → Type 0 where
  over : Follow g [] []
  next : {copy : List Opened} {cs list rest : List (List Opened)} → Copies g copy list rest → Follow g cs rest → Follow g (copy ∷ cs) list

-- what stands between two turns
pub record IsCopying (g : Graph) (items : List Copied) (waiting : List Waiting) (count : ℕ) : Type 0 where
  pub copies : List (List Opened)
  pub named : AreNamed g copies items
  pub ahead : List (List Opened)
  pub awaited : AreAwaited g copies waiting ahead
  pub goes_on : (rest : List (List Opened)) → Follow g ahead rest → AreCopies g (copies ++ rest)
  pub count_is : count ≡ node_count g copies
  pub few : count ≤ 200000
