use Rattle.std.proofs.Common.{◌+◌, ap}
use Rattle.c_tree.specs.View.{stmt_of}
use Rattle.c_meaning.specs.Results.{with_memory}
use Rattle.ref_machine_frames.specs.Held.{exec}
use Rattle.ref_machine_frames.specs.Frames.{place_of}
use Rattle.ref_machine_frames.proofs.Joining.{waits_for}
use Rattle.ref_machine_frames.specs.declared.frames.Frame.TheVariants as frames
use Rattle.ref_machine_frames.specs.Work.{of_stmt}
use Rattle.ref_machine_frames.proofs.Working.{pushed_work}
use Rattle.ref_machine_frames.proofs.waiting.wait_for_statement.Goals as goal

pub returns-clause-same : goal.returns-clause-same
returns-clause-same c p h m w st =
    waits_for p w (place_of h) (exec p w (place_of h) (stmt_of c.args.statement.now) (with_memory st m)) c.args.frame c.args.todo.now.items _ c.in_ok-push.ensures.items

pub returns-clause-less : goal.returns-clause-less
returns-clause-less c =
    ap (λ k. of_stmt (stmt_of c.args.statement.now) + k) (pushed_work c.args.todo.now.items _ (frames.Exit c.args.frame) c.in_ok-push.ensures.items)
