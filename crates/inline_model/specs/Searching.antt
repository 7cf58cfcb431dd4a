-- For private contracts and proofs alone: the search for the longest chain, by depth first.
use Rattle.std.specs.Prelude.{◌≡◌, ◌↔◌, ◌⊎◌, ◌<◌, ◌≤◌, ◌+◌, ◌-◌, ℕ, min, sum_by, List, [], ◌∷◌, Option, Some, None, length, Contains, slice_get}
use Rattle.flow_model.specs.Call.{Call}
use Rattle.flow_model.specs.Graph.{Graph}
use Rattle.inline_model.specs.declared.path.Frame.{Frame}
use Rattle.inline_model.specs.declared.search.Mark.{Mark}
use Rattle.inline_model.specs.declared.search.Mark.TheVariants.{Unseen, Open, Done}
use Rattle.inline_model.specs.declared.search.Search.{Search}
use Rattle.inline_model.specs.declared.search.Turn.{Turn}
use Rattle.inline_model.specs.declared.search.Turn.TheVariants.{Goes, Ends, Returns}
use Rattle.inline_model.specs.Chains.{Opening}
use Rattle.inline_model.specs.declared.table.Entry.{Entry}
use Rattle.inline_model.specs.Entries.{IsEntry}

-- the first site leaves the function, and each later one a candidate of the one before
pub data FromFunction (g : Graph) : ℕ → List ℕ → Type 0 where
  stays : {f : ℕ} → FromFunction g f []
  goes : {f s h : ℕ} {sites : List ℕ} → Opening g f s h → FromFunction g h sites → FromFunction g f (s ∷ sites)

-- the longest chains from the function have this length
pub record IsHeight (g : Graph) (f n : ℕ) : Type 0 where
  pub some : (sites : List ℕ) × FromFunction g f sites × (length sites ≡ n)
  pub all : (sites : List ℕ) → FromFunction g f sites → length sites ≤ n

-- the function goes on by the call edge at the place
abbrev pub HasPlace : Graph → ℕ → ℕ → Type 0
HasPlace g f p = (h : ℕ) × IsEntry g (record { function = f; place = p; candidate = h })

-- the start, or a candidate of the call edge at the place
abbrev pub Enters : Graph → Option ℕ → ℕ → Type 0
Enters g None f = f ≡ g.start
Enters g (Some p) f = (call : Call) × (slice_get g.calls p ≡ Some call) × Contains call.candidates f

-- one of these functions goes on by the call edge at the place
abbrev pub OpensPlace : Graph → Option ℕ → ℕ → Type 0
OpensPlace g opener p = (f : ℕ) × Enters g opener f × HasPlace g f p

-- the height of the function is known
abbrev pub IsComplete : List (Option ℕ) → ℕ → Type 0
IsComplete heights f = (n : ℕ) × (slice_get heights f ≡ Some (Some n))

-- 1 where the height is known
abbrev pub count_of : Option ℕ → ℕ
count_of None = 0
count_of (Some n) = 1

-- how many heights are known
abbrev pub known_count : List (Option ℕ) → ℕ
known_count heights = sum_by count_of heights

-- each known height is below their number, and there are no more functions than a model may have nodes
pub record AreLow (heights : List (Option ℕ)) : Type 0 where
  pub few : length heights ≤ 200000
  pub below : (f n : ℕ) → slice_get heights f ≡ Some (Some n) → n < known_count heights

-- the height of the function can be told: those of the candidates of its entries are known
pub record IsReady (entries : List Entry) (heights : List (Option ℕ)) (f : ℕ) : Type 0 where
  pub within : f < length heights
  pub candidates : (e : Entry) → Contains entries e → e.function ≡ f → IsComplete heights e.candidate

-- heights have become known, and are low still
pub record StayLow (old new : List (Option ℕ)) : Type 0 where
  pub tall : length new ≡ length old
  pub low : AreLow new
  pub still : (f : ℕ) → IsComplete old f → IsComplete new f

abbrev pub IsDone : List Mark → ℕ → Type 0
IsDone marks p = slice_get marks p ≡ Some Done

abbrev pub IsOpen : List Mark → ℕ → Type 0
IsOpen marks p = slice_get marks p ≡ Some Open

-- what is known by the marks and the heights
pub record IsSound (g : Graph) (marks : List Mark) (heights : List (Option ℕ)) : Type 0 where
  pub long : length marks ≡ length g.calls
  pub tall : length heights ≡ length g.functions
  pub low : AreLow heights
  pub right : (f n : ℕ) → slice_get heights f ≡ Some (Some n) → IsHeight g f n
  pub complete : (f p : ℕ) → IsComplete heights f → HasPlace g f p → IsDone marks p
  pub done : (p f : ℕ) → IsDone marks p → Enters g (Some p) f → IsComplete heights f

-- all calls that are opened and stand before the place are done
abbrev pub Passed : Graph → List Mark → Option ℕ → ℕ → Type 0
Passed g marks opener next = (p : ℕ) → OpensPlace g opener p → p < next → IsDone marks p

-- the call edge at the place is one of the path
pub record OnPath (path : List Frame) (p : ℕ) : Type 0 where
  pub frame : Frame
  pub has : Contains path frame
  pub is : frame.opener ≡ Some p

-- The path, the newest first: each call edge of it is opened by the one before, and the start stands below.
pub data IsPath (g : Graph) (marks : List Mark) : List Frame → Type 0 where
  bottom : {next : ℕ} → Passed g marks None next → IsPath g marks (record { opener = None; next = next } ∷ [])
  above : {p next : ℕ} {below : Frame} {rest : List Frame} → OpensPlace g below.opener p → Passed g marks (Some p) next → (OnPath (below ∷ rest) p → ⊥) → IsPath g marks (below ∷ rest) → IsPath g marks (record { opener = Some p; next = next } ∷ below ∷ rest)

-- what stands between two turns of the search
pub record AreSearching (g : Graph) (marks : List Mark) (heights : List (Option ℕ)) (path : List Frame) : Type 0 where
  pub sound : IsSound g marks heights
  pub is_path : IsPath g marks path
  pub on_path : (p : ℕ) → IsOpen marks p ↔ OnPath path p

abbrev pub IsSearching : Graph → Search → Type 0
IsSearching g search = AreSearching g search.marks.items search.heights.items search.path

-- how many turns a call edge with this mark may still take but for those of its frame, where there are n call edges
abbrev pub mark_left : ℕ → Mark → ℕ
mark_left n Unseen = n + 2
mark_left n Open = 1
mark_left n Done = 0

-- how many places the frame may still go past
abbrev pub frame_left : ℕ → Frame → ℕ
frame_left n frame = n - frame.next

-- how many turns there may still be
abbrev pub turns_left : ℕ → List Mark → List Frame → ℕ
turns_left n marks path = sum_by (mark_left n) marks + sum_by (frame_left n) path

abbrev pub left_of : Graph → Search → ℕ
left_of g search = turns_left (length g.calls) search.marks.items search.path

-- the least place, not before the one given, by which a function goes on whose height isn't known; or none
abbrev pub IsNext : Graph → List (Option ℕ) → (ℕ → Type 0) → ℕ → Option ℕ → Type 0
IsNext g heights F from None = (f p : ℕ) → F f → from ≤ p → HasPlace g f p → IsComplete heights f
IsNext g heights F from (Some q) = (from ≤ q) × ((f : ℕ) × F f × HasPlace g f q) × ((f p : ℕ) → F f → from ≤ p → p < q → HasPlace g f p → IsComplete heights f)

-- the lesser of two places
abbrev pub lesser : Option ℕ → Option ℕ → Option ℕ
lesser None b = b
lesser (Some a) None = Some a
lesser (Some a) (Some b) = Some (min a b)

-- the number is the greatest that is one more than the height of a candidate of the entries, all of whose heights are known
pub record IsGreatestAbove (entries : List Entry) (heights : List (Option ℕ)) (n : ℕ) : Type 0 where
  pub all : (e : Entry) → Contains entries e → (m : ℕ) × (slice_get heights e.candidate ≡ Some (Some m)) × (m + 1 ≤ n)
  pub some : (n ≡ 0) ⊎ ((e : Entry) × (m : ℕ) × Contains entries e × (slice_get heights e.candidate ≡ Some (Some m)) × (n ≡ m + 1))

-- the heights are right
abbrev pub AreHeights : Graph → List (Option ℕ) → Type 0
AreHeights g heights = (f n : ℕ) → slice_get heights f ≡ Some (Some n) → IsHeight g f n

-- the heights of these functions have become known
pub record Completes (g : Graph) (old new : List (Option ℕ)) (F : ℕ → Type 0) : Type 0 where
  pub tall : length new ≡ length old
  pub heights : (f n : ℕ) → slice_get new f ≡ Some (Some n) → IsHeight g f n
  pub still : (f : ℕ) → IsComplete old f → IsComplete new f
  pub only : (f : ℕ) → IsComplete new f → IsComplete old f ⊎ F f
  pub all : (f : ℕ) → F f → IsComplete new f

-- the newest call edge of the path opens a call edge that is on the path
pub record Closes (g : Graph) (search : Search) (p : ℕ) : Type 0 where
  pub searching : IsSearching g search
  pub on_path : OnPath search.path p
  pub top : Frame
  pub rest : List Frame
  pub is : search.path ≡ top ∷ rest
  pub opens : OpensPlace g top.opener p

-- what a turn gives, and where the search goes on, there are fewer turns to come
abbrev pub IsTurn : Graph → Search → Search → Turn → Type 0
IsTurn g old new Goes = IsSearching g new × (left_of g new < left_of g old)
IsTurn g old new (Ends n) = IsHeight g g.start n
IsTurn g old new (Returns p) = Closes g new p
