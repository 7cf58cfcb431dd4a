-- For private contracts and proofs alone: the terms that call places of Rust are seen as, and what single parts of lists of trees hold.
use Rattle.std.specs.Prelude.{ℕ, List, map}
use Rattle.c_syntax.specs.declared.tree.BlockItem.{BlockItem}
use Rattle.c_syntax.specs.declared.tree.Group.{Group}
use Rattle.c_syntax.specs.Tree.{no_block_items, no_groups}
use Rattle.c_syntax.specs.UnitView.{block_item_before, group_before}
use Rattle.c_check_counts.specs.declared.call_place.CallPlace.{CallPlace as Found}
use Rattle.c_rules.specs.CallPlaces.{CallPlace}
use Rattle.c_rules.specs.PlacesOfCalls.{places_of_block, places_of_groups}

abbrev pub place_seen : Found → CallPlace
place_seen found = record { caller = found.caller.now; at = found.at }

-- a list of them, which contracts of other crates cite
abbrev pub seen : List Found → List CallPlace
seen found = map place_seen found

abbrev pub places_of_block_item : BlockItem → List ℕ
places_of_block_item x = places_of_block (block_item_before x no_block_items)

abbrev pub places_of_group : Group → List ℕ
places_of_group g = places_of_groups (group_before g no_groups)
