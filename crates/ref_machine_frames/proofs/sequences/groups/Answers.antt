use Rattle.std.proofs.Common.{◌≡◌, ◌+◌, ap, arith}
use Rattle.c_tree.specs.View.{groups_of, stmts_of}
use Rattle.ref_machine_frames.specs.declared.frames.ExitFrame.TheVariants as exits
use Rattle.ref_machine_frames.specs.declared.frames.Frame.TheVariants as frames
use Rattle.ref_machine_frames.specs.Work.{of_all, of_groups, of_stmts}
use Rattle.ref_machine_frames.proofs.Working.{pushed_work}
use Rattle.ref_machine_frames.proofs.Lessening.{at_most}
use Rattle.ref_machine_frames.proofs.sequences.groups.Goals as goal

pub returns-clause-less : goal.returns-clause-less
returns-clause-less c =
    let is : of_groups (groups_of c.args.left.now) ≡ 1 + (of_stmts (stmts_of c.in-Some.first.now.body.items) + of_groups (groups_of c.in-Some.rest.now)) = ap (λ gs. of_groups (groups_of gs)) c.in-Some.ensures.cases.0 in
    let same : of_stmts (stmts_of c.deref.result.now) ≡ of_stmts (stmts_of c.in-Some.first.now.body.items) = ap (λ ss. of_stmts (stmts_of ss)) c.deref.ensures.value in
    let grown : of_all c.push.new.self.items ≡ 1 + of_groups (groups_of c.in-Some.rest.now) + of_all c.args.todo.now.items = pushed_work c.args.todo.now.items c.push.new.self.items (frames.Exit (exits.Groups c.in-Some.rest)) c.in_ok-push.ensures.items in
    at_most c.statements.result c.statements.new.todo.items (of_stmts (stmts_of c.deref.result.now) + of_all c.push.new.self.items) (of_groups (groups_of c.args.left.now) + of_all c.args.todo.now.items) (omega (arith, is, same, grown)) c.statements.ensures.less
