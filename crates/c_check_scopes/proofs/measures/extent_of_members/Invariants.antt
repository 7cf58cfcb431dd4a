use Rattle.std.proofs.Common.{◌≡◌, slice_get, drop}
use Rattle.c_tree.specs.Layout.{extent_after}
use Rattle.c_check_scopes.specs.Extents.{extent_seen}
use Rattle.c_check_scopes.specs.Fitting.{HasRoom}
use Rattle.c_check_scopes.specs.Measured.{cells_kept, extent_kept, no_extent}
use Rattle.c_check_scopes.specs.Shown.{members_types}
use Rattle.c_check_scopes.proofs.measures.extent_of_members.Given as goal

abbrev pub invariant-loop-member : goal.invariant-loop-member
invariant-loop-member l =
    (extent_after (λ s. extent_kept (slice_get l.structs s)) (extent_seen l.sum) (members_types (drop l.member-index l.members)) ≡ extent_after (λ s. extent_kept (slice_get l.structs s)) no_extent (members_types l.members))
    × HasRoom (λ s. cells_kept (slice_get l.structs s)) (extent_seen l.sum) (members_types (drop l.member-index l.members))
