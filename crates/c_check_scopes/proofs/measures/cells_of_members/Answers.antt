use Rattle.std.proofs.Common.{slice_get, rules}
use Rattle.c_check_scopes.specs.Measured.{cells_kept}
use Rattle.c_check_scopes.proofs.TableLemmas.{cells_on, no_member, none_behind, members_told}
use Rattle.c_check_scopes.proofs.measures.cells_of_members.Goals as goal

pub loop-member-preserved : goal.loop-member-preserved
loop-member-preserved c = (
  cells_on (λ s. cells_kept (slice_get c.args.structs.now s)) c.args.members.now c.loop-member.member-index c.member-item.result c.loop-member.sum c.in_ok-each.each c.in_ok-sum.sum _ c.loop-member-test.true c.member-item.is
      c.in_ok-sum.ensures.1 c.in_ok-each.ensures.1 c.loop-member.invariant.0,
  search rules,
)

pub returns-in_err-each : goal.returns-in_err-each
returns-in_err-each c =
    no_member (λ s. cells_kept (slice_get c.args.structs.now s)) c.from_residual.result c.args.members.now c.loop-member.member-index c.member-item.result c.loop-member.sum c.from_residual.ensures c.loop-member-test.true c.member-item.is
    c.loop-member.invariant.0 c.in_err-each.ensures

pub returns-in_err-sum : goal.returns-in_err-sum
returns-in_err-sum c =
    none_behind (λ s. cells_kept (slice_get c.args.structs.now s)) c.from_residual-in_err-sum.result c.args.members.now c.loop-member.member-index c.member-item.result c.loop-member.sum c.in_ok-each.each c.from_residual-in_err-sum.ensures c.loop-member-test.true c.member-item.is
    c.in_ok-each.ensures.1 c.loop-member.invariant.0 c.in_err-sum.ensures

pub returns : goal.returns
returns c = members_told (λ s. cells_kept (slice_get c.args.structs.now s)) c.args.members.now c.loop-member.member-index c.loop-member.sum c.loop-member-test.false c.loop-member.invariant.0 c.loop-member.invariant.1
