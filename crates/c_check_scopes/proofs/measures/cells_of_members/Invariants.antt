use Rattle.std.proofs.Common.{◌≡◌, ◌+◌, ◌<◌, ◌^◌, slice_get, drop}
use Rattle.c_check_scopes.specs.Measured.{counted_all, cells_kept}
use Rattle.c_check_scopes.specs.Shown.{members_types}
use Rattle.c_check_scopes.proofs.measures.cells_of_members.Given as goal

abbrev pub invariant-loop-member : goal.invariant-loop-member
invariant-loop-member l =
    (l.sum + counted_all (λ s. cells_kept (slice_get l.structs s)) (members_types (drop l.member-index l.members)) ≡ counted_all (λ s. cells_kept (slice_get l.structs s)) (members_types l.members))
    × (l.sum < 2 ^ 32)
