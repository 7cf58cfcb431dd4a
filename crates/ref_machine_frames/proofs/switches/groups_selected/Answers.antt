use Rattle.std.proofs.Common.{◌≡◌, ◌+◌, drop, ap, ◌∙◌, arith}
use Rattle.c_tree.specs.View.{groups_of}
use Rattle.ref_machine_frames.specs.declared.frames.ExitFrame.TheVariants as exits
use Rattle.ref_machine_frames.specs.declared.frames.Frame.TheVariants as frames
use Rattle.ref_machine_frames.specs.Work.{of_all, of_groups}
use Rattle.ref_machine_frames.proofs.Working.{pushed_work}
use Rattle.ref_machine_frames.proofs.Beginnings.{groups_part}
use Rattle.ref_machine_frames.proofs.Lessening.{at_most, later_groups}
use Rattle.ref_machine_frames.proofs.switches.groups_selected.Goals as goal

pub returns-clause-same : goal.returns-clause-same
returns-clause-same c =
    groups_part c.groups.result c.args.v c.args.all.now c.groups_from-from.result.now c.args.todo.now.items _ c.groups.new.todo.items
    (c.groups_from-from.ensures ∙ ap (λ n. drop n c.args.all.now) c.selected.ensures) c.in_ok-push.ensures.items c.groups.ensures.same

pub returns-clause-less : goal.returns-clause-less
returns-clause-less c =
    let from : of_groups (groups_of c.groups_from-from.result.now) ≡ of_groups (groups_of (drop c.selected.result c.args.all.now)) = ap (λ gs. of_groups (groups_of gs)) c.groups_from-from.ensures in
    let grown : of_all c.push.new.self.items ≡ 1 + of_all c.args.todo.now.items = pushed_work c.args.todo.now.items c.push.new.self.items (frames.Exit exits.Switch) c.in_ok-push.ensures.items in
    at_most c.groups.result c.groups.new.todo.items (of_groups (groups_of c.groups_from-from.result.now) + of_all c.push.new.self.items) (1 + (of_groups (groups_of c.args.all.now) + of_all c.args.todo.now.items)) (omega (arith, from, grown, later_groups c.selected.result c.args.all.now)) c.groups.ensures.less
