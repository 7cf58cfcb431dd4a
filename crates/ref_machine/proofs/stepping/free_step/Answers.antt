use Rattle.std.proofs.Common.{◌≡◌, ap, sym, ◌∙◌, arith}
use Rattle.std.proofs.lemmas.Result.{MatchResult-weaker}
use Rattle.c_tree.specs.View.{expr_of, program_of, stmt_of}
use Rattle.c_values.specs.Seen.{seen}
use Rattle.ref_machine_frames.specs.Held.{world}
use Rattle.ref_machine_frames.specs.Frames.{place_of, stack, rest}
use Rattle.ref_machine_frames.specs.Work.{of_expr, of_now, of_stmt}
use Rattle.ref_machine.specs.Standing.{state}
use Rattle.ref_machine.proofs.NextSteps.{bit_is_small}
use Rattle.ref_machine.proofs.stepping.free_step.Goals as goal

pub returns-in-Eval-clause-same : goal.returns-in-Eval-clause-same
returns-in-Eval-clause-same c =
    MatchResult-weaker c.begin.result c.begin.ensures.same (λ next same entries turns n records taken le.
    let p = program_of c.args.program.now in
    let w = world p n in
    let st = state (seen c.args.memory.now) entries records taken turns in
    same w st ∙ ap (λ now. rest p w (place_of c.args.here.now) now (stack c.args.todo.now.items) st) (sym c.in-Eval.is)) (λ error none. none)

pub returns-in-Have-clause-same : goal.returns-in-Have-clause-same
returns-in-Have-clause-same c =
    MatchResult-weaker c.have.result c.have.ensures.same (λ next same entries turns n records taken le.
    let p = program_of c.args.program.now in
    let w = world p n in
    let st = state (seen c.args.memory.now) entries records taken turns in
    same w st ∙ ap (λ now. rest p w (place_of c.args.here.now) now (stack c.args.todo.now.items) st) (sym c.in-Have.is)) (λ error none. none)

pub returns-in-Exec-clause-same : goal.returns-in-Exec-clause-same
returns-in-Exec-clause-same c =
    MatchResult-weaker c.begin_statement.result c.begin_statement.ensures.same (λ next same entries turns n records taken le.
    let p = program_of c.args.program.now in
    let w = world p n in
    let st = state (seen c.args.memory.now) entries records taken turns in
    same w st ∙ ap (λ now. rest p w (place_of c.args.here.now) now (stack c.args.todo.now.items) st) (sym c.in-Exec.is)) (λ error none. none)

pub returns-in-Left-clause-same : goal.returns-in-Left-clause-same
returns-in-Left-clause-same c =
    MatchResult-weaker c.left.result c.left.ensures.same (λ next same entries turns n records taken le.
    let p = program_of c.args.program.now in
    let w = world p n in
    let st = state (seen c.args.memory.now) entries records taken turns in
    same p w st ∙ ap (λ now. rest p w (place_of c.args.here.now) now (stack c.args.todo.now.items) st) (sym c.in-Left.is)) (λ error none. none)

pub returns-in-Eval-clause-less : goal.returns-in-Eval-clause-less
returns-in-Eval-clause-less c =
    let is : of_now c.args.now ≡ of_expr (expr_of c.in-Eval.of.now) = ap of_now c.in-Eval.is in
    MatchResult-weaker c.begin.result c.begin.ensures.less (λ next less free. omega (arith, free, is, less, bit_is_small next)) (λ error none. none)

pub returns-in-Have-clause-less : goal.returns-in-Have-clause-less
returns-in-Have-clause-less c =
    let is : of_now c.args.now ≡ 0 = ap of_now c.in-Have.is in
    MatchResult-weaker c.have.result c.have.ensures.less (λ next less free. omega (arith, free, is, less)) (λ error none. none)

pub returns-in-Exec-clause-less : goal.returns-in-Exec-clause-less
returns-in-Exec-clause-less c =
    let is : of_now c.args.now ≡ of_stmt (stmt_of c.in-Exec.s.now) = ap of_now c.in-Exec.is in
    MatchResult-weaker c.begin_statement.result c.begin_statement.ensures.less (λ next less free. omega (arith, free, is, less, bit_is_small next)) (λ error none. none)

pub returns-in-Left-clause-less : goal.returns-in-Left-clause-less
returns-in-Left-clause-less c =
    let is : of_now c.args.now ≡ 0 = ap of_now c.in-Left.is in
    MatchResult-weaker c.left.result c.left.ensures.less (λ next less free. omega (arith, free, is, less)) (λ error none. none)
