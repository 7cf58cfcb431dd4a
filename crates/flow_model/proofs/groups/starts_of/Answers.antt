use Rattle.std.proofs.Common.{◌≡◌, arith}
use Rattle.flow_model.proofs.GroupsLemmas.{AreStarts-none, AreStarts-push}
use Rattle.flow_model.proofs.groups.starts_of.Goals as goal
use Rattle.flow_model.proofs.groups.starts_of.Goals.{else-loop-group-test, then-loop-group-test+in_ok-push+else-group-groups}

pub loop-group-init : goal.loop-group-init
loop-group-init g c = rw c.new-starts.ensures.items (AreStarts-none g.T.Numbered.number c.args.items.now)

pub loop-group-preserved : goal.loop-group-preserved
loop-group-preserved g c =
    rw c.in_ok-push.ensures.items (AreStarts-push g.T.Numbered.number c.args.items.now _ _ _ c.loop-group.invariant c.start_of.ensures)

pub returns : goal.returns
returns g c =
    elim c.loop-group-test.branch [
      | else-loop-group-test w ↦ absurd (omega arith)
      | then-loop-group-test+in_ok-push+else-group-groups w ↦
          let last : c.loop-group.group ≡ c.args.groups = omega arith in
          rw (w.starts-is, w.in_ok-push.ensures.items, ← last) (AreStarts-push g.T.Numbered.number c.args.items.now _ _ _ c.loop-group.invariant w.start_of.ensures)
    ]
