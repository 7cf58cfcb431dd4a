use Rattle.std.proofs.Common.{◌≡◌, ◌+◌, arith}
use Rattle.c_tree.specs.View.{stmts_of}
use Rattle.ref_machine_frames.specs.declared.frames.ExitFrame.TheVariants as exits
use Rattle.ref_machine_frames.specs.declared.frames.Frame.TheVariants as frames
use Rattle.ref_machine_frames.specs.declared.frames.Parted.TheVariants as parted
use Rattle.ref_machine_frames.specs.Work.{of_all, of_stmts}
use Rattle.ref_machine_frames.proofs.Working.{pushed_work}
use Rattle.ref_machine_frames.proofs.Lessening.{at_most}
use Rattle.ref_machine_frames.proofs.statements.begin_for.Goals as goal

pub returns-clause-less : goal.returns-clause-less
returns-clause-less c =
    let grown : of_all c.push.new.self.items ≡ 1 + of_all c.args.todo.now.items = pushed_work c.args.todo.now.items c.push.new.self.items (frames.Exit (exits.Part parted.Whole c.args.of)) c.in_ok-push.ensures.items in
    at_most c.head.result c.head.new.todo.items (2 + (of_stmts (stmts_of c.args.left.now) + of_all c.push.new.self.items)) (3 + (of_stmts (stmts_of c.args.left.now) + of_all c.args.todo.now.items)) (omega (arith, grown)) c.head.ensures.less
