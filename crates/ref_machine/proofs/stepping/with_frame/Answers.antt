use Rattle.std.proofs.Common.{◌≡◌, ◌∷◌, ap, sym, ◌∙◌, arith}
use Rattle.std.proofs.lemmas.Result.{MatchResult-weaker}
use Rattle.c_tree.specs.View.{program_of}
use Rattle.c_values.specs.Seen.{seen}
use Rattle.c_meaning.specs.Results.{with_memory}
use Rattle.ref_machine_frames.specs.Frames.{place_of, stack, after_value}
use Rattle.ref_machine_frames.specs.Work.{of_frame, of_statement_frame, of_value_frame}
use Rattle.ref_machine.proofs.NextSteps.{bit_is_small}
use Rattle.ref_machine.proofs.stepping.with_frame.Goals as goal

pub returns-in-Value-clause-same : goal.returns-in-Value-clause-same
returns-in-Value-clause-same c =
    MatchResult-weaker c.with_value.result c.with_value.ensures.same (λ now same w st.
    let p = program_of c.args.program.now in
    same c.args.here w st ∙ ap (λ f. after_value p w (place_of c.args.here) (f ∷ stack c.args.todo.now.items) c.args.v (with_memory st (seen c.args.memory.now))) (sym c.in-Value.is)) (λ error none. none)

pub returns-in-Statement-clause-same : goal.returns-in-Statement-clause-same
returns-in-Statement-clause-same c =
    MatchResult-weaker c.in_statement.result c.in_statement.ensures.same (λ now same w st.
    let p = program_of c.args.program.now in
    same p w st ∙ ap (λ f. after_value p w (place_of c.args.here) (f ∷ stack c.args.todo.now.items) c.args.v (with_memory st (seen c.args.memory.now))) (sym c.in-Statement.is)) (λ error none. none)

pub returns-in-Exit-clause-same : goal.returns-in-Exit-clause-same
returns-in-Exit-clause-same c w st =
    ap (λ f. after_value (program_of c.args.program.now) w (place_of c.args.here) (f ∷ stack c.args.todo.now.items) c.args.v (with_memory st (seen c.args.memory.now))) (sym c.in-Exit.is)

pub returns-in-Call-clause-same : goal.returns-in-Call-clause-same
returns-in-Call-clause-same c w st =
    ap (λ f. after_value (program_of c.args.program.now) w (place_of c.args.here) (f ∷ stack c.args.todo.now.items) c.args.v (with_memory st (seen c.args.memory.now))) (sym c.in-Call.is)

pub returns-in-Value-clause-less : goal.returns-in-Value-clause-less
returns-in-Value-clause-less c =
    let is : of_frame c.args.frame ≡ of_value_frame c.in-Value.frame = ap of_frame c.in-Value.is in
    MatchResult-weaker c.with_value.result c.with_value.ensures.less (λ now less. omega (arith, is, less, bit_is_small now)) (λ error none. none)

pub returns-in-Statement-clause-less : goal.returns-in-Statement-clause-less
returns-in-Statement-clause-less c =
    let is : of_frame c.args.frame ≡ of_statement_frame c.in-Statement.frame = ap of_frame c.in-Statement.is in
    MatchResult-weaker c.in_statement.result c.in_statement.ensures.less (λ now less. omega (arith, is, less, bit_is_small now)) (λ error none. none)
