use Rattle.std.proofs.Common.{◌≡◌, ◌∷◌, ap, sym, ◌∙◌, arith}
use Rattle.std.proofs.lemmas.Result.{MatchResult-weaker}
use Rattle.c_values.specs.Seen.{seen}
use Rattle.c_meaning.specs.Results.{with_memory}
use Rattle.ref_machine_frames.specs.Frames.{exit_in, place_of, stack, after_exit}
use Rattle.ref_machine_frames.specs.Work.{of_exit_frame, of_frame}
use Rattle.ref_machine.proofs.NextSteps.{bit_is_small}
use Rattle.ref_machine.proofs.stepping.left_with.Goals as goal

pub returns-in-Exit-clause-same : goal.returns-in-Exit-clause-same
returns-in-Exit-clause-same c =
    MatchResult-weaker c.with_exit.result c.with_exit.ensures.same (λ now same p w st.
    same p w st ∙ ap (λ f. after_exit p w (place_of c.args.here.now) (f ∷ stack c.args.todo.now.items) (exit_in c.args.by) (with_memory st (seen c.args.memory.now))) (sym c.in-Exit.is)) (λ error none. none)

pub returns-in-Call-clause-same : goal.returns-in-Call-clause-same
returns-in-Call-clause-same c p w st =
    c.leave_call.ensures.same p w c.args.todo.now.items st ∙ ap (λ f. after_exit p w (place_of c.args.here.now) (f ∷ stack c.args.todo.now.items) (exit_in c.args.by) (with_memory st (seen c.args.memory.now))) (sym c.in-Call.is)

pub returns-in-Value-clause-same : goal.returns-in-Value-clause-same
returns-in-Value-clause-same c p w st =
    ap (λ f. after_exit p w (place_of c.args.here.now) (f ∷ stack c.args.todo.now.items) (exit_in c.args.by) (with_memory st (seen c.args.memory.now))) (sym c.in-Value.is)

pub returns-clause-same : goal.returns-clause-same
returns-clause-same c p w st =
    ap (λ f. after_exit p w (place_of c.args.here.now) (f ∷ stack c.args.todo.now.items) (exit_in c.args.by) (with_memory st (seen c.args.memory.now))) (sym c.in-Statement.is)

pub returns-in-Exit-clause-less : goal.returns-in-Exit-clause-less
returns-in-Exit-clause-less c =
    let is : of_frame c.args.frame ≡ of_exit_frame c.in-Exit.frame = ap of_frame c.in-Exit.is in
    MatchResult-weaker c.with_exit.result c.with_exit.ensures.less (λ now less. omega (arith, is, less, bit_is_small now)) (λ error none. none)

pub returns-in-Call-clause-less : goal.returns-in-Call-clause-less
returns-in-Call-clause-less c =
    let is : of_frame c.args.frame ≡ 1 = ap of_frame c.in-Call.is in
    omega (arith, is, c.leave_call.ensures.done, bit_is_small c.leave_call.result)
