use Rattle.std.proofs.Common.{◌+◌, ap}
use Rattle.c_tree.specs.View.{expr_of}
use Rattle.c_meaning.specs.Results.{with_memory}
use Rattle.ref_machine_frames.specs.Held.{eval}
use Rattle.ref_machine_frames.specs.Frames.{place_of}
use Rattle.ref_machine_frames.proofs.Joining.{waits}
use Rattle.ref_machine_frames.specs.declared.frames.Frame.TheVariants as frames
use Rattle.ref_machine_frames.specs.Work.{of_expr}
use Rattle.ref_machine_frames.proofs.Working.{pushed_work}
use Rattle.ref_machine_frames.proofs.waiting.wait.Goals as goal

pub returns-clause-same : goal.returns-clause-same
returns-clause-same c p h m w st =
    waits p w (place_of h) (eval p w (place_of h) c.args.wanted (expr_of c.args.of.now) (with_memory st m)) c.args.frame c.args.todo.now.items _ c.in_ok-push.ensures.items

pub returns-clause-less : goal.returns-clause-less
returns-clause-less c =
    ap (λ k. of_expr (expr_of c.args.of.now) + k) (pushed_work c.args.todo.now.items _ (frames.Value c.args.frame) c.in_ok-push.ensures.items)
