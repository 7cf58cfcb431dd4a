use Rattle.std.proofs.Common.{◌≡◌, ◌+◌, ap, ◌∙◌, arith}
use Rattle.c_tree.specs.View.{groups_of, stmt_of}
use Rattle.c_tree.proofs.Rows.{switch_is}
use Rattle.ref_machine_frames.specs.Work.{of_all, of_cases, of_groups}
use Rattle.ref_machine_frames.proofs.Beginnings.{switched_part}
use Rattle.ref_machine_frames.proofs.Lessening.{at_most}
use Rattle.ref_machine_frames.proofs.switches.switched.Goals as goal

pub returns-in-Switch-clause-same : goal.returns-in-Switch-clause-same
returns-in-Switch-clause-same c =
    switched_part c.groups_selected.result c.args.v c.in-Switch.on c.in-Switch.groups c.args.of.now c.deref.result.now c.args.todo.now.items c.groups_selected.new.todo.items c.in-Switch.is c.deref.ensures.value c.groups_selected.ensures.same

pub returns-in-Switch-clause-less : goal.returns-in-Switch-clause-less
returns-in-Switch-clause-less c =
    let is : of_cases (stmt_of c.args.of.now) ≡ of_groups (groups_of c.in-Switch.groups.items) = ap of_cases (ap stmt_of c.in-Switch.is ∙ switch_is c.in-Switch.on c.in-Switch.groups) in
    let same : of_groups (groups_of c.deref.result.now) ≡ of_groups (groups_of c.in-Switch.groups.items) = ap (λ gs. of_groups (groups_of gs)) c.deref.ensures.value in
    at_most c.groups_selected.result c.groups_selected.new.todo.items (1 + (of_groups (groups_of c.deref.result.now) + of_all c.args.todo.now.items)) (1 + (of_cases (stmt_of c.args.of.now) + of_all c.args.todo.now.items)) (omega (arith, is, same)) c.groups_selected.ensures.less
