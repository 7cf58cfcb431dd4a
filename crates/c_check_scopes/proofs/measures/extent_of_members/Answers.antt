use Rattle.std.proofs.Common.{slice_get, drop, refl}
use Rattle.c_check_scopes.specs.Extents.{extent_seen}
use Rattle.c_check_scopes.specs.Measured.{cells_kept, extent_kept}
use Rattle.c_check_scopes.specs.Shown.{members_types}
use Rattle.c_check_scopes.proofs.TableLemmas.{extent_on}
use Rattle.c_check_scopes.proofs.FittingLemmas.{each_counted, told_small, told_alignment, room_on, room_small, room_first, at_least, at_most}
use Rattle.c_check_scopes.proofs.measures.extent_of_members.Goals as goal

pub loop-member-init : goal.loop-member-init
loop-member-init c = (refl, room_first (λ s. cells_kept (slice_get c.args.structs.now s)) (members_types c.args.members.now) c.requires.few)

pub extent_in-each-requires : goal.extent_in-each-requires
extent_in-each-requires c =
    each_counted (λ s. extent_kept (slice_get c.args.structs.now s)) (λ s. cells_kept (slice_get c.args.structs.now s)) c.requires.fitting c.args.members.now c.loop-member.member-index c.member-item.result (extent_seen c.loop-member.sum)
    c.loop-member-test.true c.member-item.is c.loop-member.invariant.1

pub put_after-sum-requires-clause-first : goal.put_after-sum-requires-clause-first
put_after-sum-requires-clause-first c = room_small (λ s. cells_kept (slice_get c.args.structs.now s)) (extent_seen c.loop-member.sum) (members_types (drop c.loop-member.member-index c.args.members.now)) c.loop-member.invariant.1

pub put_after-sum-requires-clause-second : goal.put_after-sum-requires-clause-second
put_after-sum-requires-clause-second c =
    told_small (λ s. extent_kept (slice_get c.args.structs.now s)) (λ s. cells_kept (slice_get c.args.structs.now s)) c.requires.fitting c.args.members.now c.loop-member.member-index c.member-item.result (extent_seen c.loop-member.sum) (extent_seen c.extent_in-each.result)
    c.loop-member-test.true c.member-item.is c.extent_in-each.ensures c.loop-member.invariant.1

pub put_after-sum-requires-clause-least : goal.put_after-sum-requires-clause-least
put_after-sum-requires-clause-least c = at_least c.extent_in-each.result.alignment (told_alignment (λ s. extent_kept (slice_get c.args.structs.now s)) (λ s. cells_kept (slice_get c.args.structs.now s)) c.requires.fitting c.member-item.result (extent_seen c.extent_in-each.result) c.extent_in-each.ensures)

pub put_after-sum-requires-clause-most : goal.put_after-sum-requires-clause-most
put_after-sum-requires-clause-most c = at_most c.extent_in-each.result.alignment (told_alignment (λ s. extent_kept (slice_get c.args.structs.now s)) (λ s. cells_kept (slice_get c.args.structs.now s)) c.requires.fitting c.member-item.result (extent_seen c.extent_in-each.result) c.extent_in-each.ensures)

pub rounded-requires-clause-small : goal.rounded-requires-clause-small
rounded-requires-clause-small c = room_small (λ s. cells_kept (slice_get c.args.structs.now s)) (extent_seen c.loop-member.sum) (members_types (drop c.loop-member.member-index c.args.members.now)) c.loop-member.invariant.1

pub rounded-requires-clause-least : goal.rounded-requires-clause-least
rounded-requires-clause-least c = at_least c.loop-member.sum.alignment c.loop-member.invariant.1.1.alignment

pub rounded-requires-clause-most : goal.rounded-requires-clause-most
rounded-requires-clause-most c = at_most c.loop-member.sum.alignment c.loop-member.invariant.1.1.alignment

pub loop-member-preserved : goal.loop-member-preserved
loop-member-preserved c = (
  extent_on (λ s. extent_kept (slice_get c.args.structs.now s)) c.args.members.now c.loop-member.member-index c.member-item.result (extent_seen c.loop-member.sum) (extent_seen c.extent_in-each.result) (extent_seen c.put_after-sum.result) _ c.loop-member-test.true
      c.member-item.is c.put_after-sum.ensures c.extent_in-each.ensures c.loop-member.invariant.0,
  room_on (λ s. extent_kept (slice_get c.args.structs.now s)) (λ s. cells_kept (slice_get c.args.structs.now s)) c.requires.fitting c.args.members.now c.loop-member.member-index c.member-item.result (extent_seen c.loop-member.sum) (extent_seen c.extent_in-each.result) (extent_seen c.put_after-sum.result)
      c.loop-member-test.true c.member-item.is c.put_after-sum.ensures c.extent_in-each.ensures c.loop-member.invariant.1,
)
