use Rattle.std.proofs.Common.{ap, sym, ◌∙◌, ◌++◌, ◌≡◌, ◌+◌, arith}
use Rattle.std.proofs.lemmas.Result.{MatchResult-weaker}
use Rattle.c_tree.specs.View.{exprs_of, program_of, expr_of}
use Rattle.c_values.specs.Seen.{seen}
use Rattle.c_meaning.specs.Results.{with_memory, then_do, answered}
use Rattle.ref_machine_frames.specs.Held.{eval_all}
use Rattle.ref_machine_frames.specs.declared.frames.Callee.TheVariants as callees
use Rattle.ref_machine_frames.specs.Frames.{place_of, stack, after_value, made, with_value}
use Rattle.ref_machine_expressions.proofs.Following.{one_more_value}
use Rattle.ref_machine_frames.specs.Work.{of_choice, of_expr, of_exprs, of_storing, of_value_frame}
use Rattle.ref_machine_expressions.proofs.values.with_value.Goals as goal

pub returns-in-One-clause-same : goal.returns-in-One-clause-same
returns-in-One-clause-same c h w st =
    let p = program_of c.args.program.now in
    let m = seen c.args.memory.now in
    let fr = place_of h in
    let k = after_value p w fr (stack c.args.todo.now.items) in
    c.given.ensures.same p w fr (stack c.args.todo.now.items) (with_memory st m) ∙ (ap (λ a. then_do (answered a (with_memory st m)) k) (c.one_step.ensures p.structs c.requires) ∙ ap (λ f. then_do (with_value p w fr f c.args.v (with_memory st m)) k) (sym c.in-One.is))

pub returns-in-First-clause-same : goal.returns-in-First-clause-same
returns-in-First-clause-same c =
    MatchResult-weaker c.wait.result c.wait.ensures.same (λ now same h w st.
    let p = program_of c.args.program.now in
    let m = seen c.args.memory.now in
    let fr = place_of h in
    let k = after_value p w fr (stack c.args.todo.now.items) in
    same p h m w st ∙ ap (λ f. then_do (with_value p w fr f c.args.v (with_memory st m)) k) (sym c.in-First.is)) (λ error none. none)

pub returns-in-Second-clause-same : goal.returns-in-Second-clause-same
returns-in-Second-clause-same c h w st =
    let p = program_of c.args.program.now in
    let m = seen c.args.memory.now in
    let fr = place_of h in
    let k = after_value p w fr (stack c.args.todo.now.items) in
    c.given-in-Second.ensures.same p w fr (stack c.args.todo.now.items) (with_memory st m) ∙ (ap (λ a. then_do (answered a (with_memory st m)) k) c.two_step.ensures ∙ ap (λ f. then_do (with_value p w fr f c.args.v (with_memory st m)) k) (sym c.in-Second.is))

pub returns-in-Store-clause-same : goal.returns-in-Store-clause-same
returns-in-Store-clause-same c =
    MatchResult-weaker c.storing.result c.storing.ensures.same (λ now same h w st.
    let p = program_of c.args.program.now in
    let m = seen c.args.memory.now in
    let fr = place_of h in
    let k = after_value p w fr (stack c.args.todo.now.items) in
    same p h w st ∙ ap (λ f. then_do (with_value p w fr f c.args.v (with_memory st m)) k) (sym c.in-Store.is)) (λ error none. none)

pub returns-in-Test-clause-same : goal.returns-in-Test-clause-same
returns-in-Test-clause-same c =
    MatchResult-weaker c.choosing.result c.choosing.ensures.same (λ now same h w st.
    let p = program_of c.args.program.now in
    let m = seen c.args.memory.now in
    let fr = place_of h in
    let k = after_value p w fr (stack c.args.todo.now.items) in
    same p h w st ∙ ap (λ f. then_do (with_value p w fr f c.args.v (with_memory st m)) k) (sym c.in-Test.is)) (λ error none. none)

pub returns-in-Members-clause-same : goal.returns-in-Members-clause-same
returns-in-Members-clause-same c =
    MatchResult-weaker c.members.result c.members.ensures.same (λ now same h w st.
    let p = program_of c.args.program.now in
    let m = seen c.args.memory.now in
    let fr = place_of h in
    let k = after_value p w fr (stack c.args.todo.now.items) in
    same p h m w st ∙ ap (λ f. then_do (with_value p w fr f c.args.v (with_memory st m)) k) (sym c.in-Members.is)) (λ error none. none)

pub returns-in-Designator-clause-same : goal.returns-in-Designator-clause-same
returns-in-Designator-clause-same c =
    MatchResult-weaker c.arguments.result c.arguments.ensures.same (λ now same h w st.
    let p = program_of c.args.program.now in
    let m = seen c.args.memory.now in
    let fr = place_of h in
    let k = after_value p w fr (stack c.args.todo.now.items) in
    same h w st
    ∙ (ap (λ us. then_do (then_do (eval_all p w fr (exprs_of c.in-Designator.left.now) (with_memory st m)) (λ vs st. made p w c.in-Designator.wanted (callees.Through c.args.v) (us ++ vs) st)) k) c.new-none.ensures.items
    ∙ ap (λ f. then_do (with_value p w fr f c.args.v (with_memory st m)) k) (sym c.in-Designator.is))) (λ error none. none)

pub returns-in_ok-all-in-Argument-clause-same : goal.returns-in_ok-all-in-Argument-clause-same
returns-in_ok-all-in-Argument-clause-same c =
    MatchResult-weaker c.arguments-in-Argument.result c.arguments-in-Argument.ensures.same (λ now same h w st.
    let p = program_of c.args.program.now in
    let m = seen c.args.memory.now in
    let fr = place_of h in
    let k = after_value p w fr (stack c.args.todo.now.items) in
    one_more_value p w c.in-Argument.wanted c.in-Argument.callee c.in-Argument.before.items c.in_ok-all-in-Argument.all.items c.args.v fr (exprs_of c.in-Argument.rest.now) (with_memory st m) k _ c.in_ok-all-in-Argument.ensures (same h w st) ∙ ap (λ f. then_do (with_value p w fr f c.args.v (with_memory st m)) k) (sym c.in-Argument.is)) (λ error none. none)

pub returns-in-One-clause-less : goal.returns-in-One-clause-less
returns-in-One-clause-less c =
    let is : of_value_frame c.args.frame ≡ 1 = ap of_value_frame c.in-One.is in
    omega (arith, is, c.given.ensures.done)

pub returns-in-Second-clause-less : goal.returns-in-Second-clause-less
returns-in-Second-clause-less c =
    let is : of_value_frame c.args.frame ≡ 1 = ap of_value_frame c.in-Second.is in
    omega (arith, is, c.given-in-Second.ensures.done)

pub returns-in-First-clause-less : goal.returns-in-First-clause-less
returns-in-First-clause-less c =
    let is : of_value_frame c.args.frame ≡ 2 + of_expr (expr_of c.in-First.second.now) = ap of_value_frame c.in-First.is in
    MatchResult-weaker c.wait.result c.wait.ensures.less (λ now less. omega (arith, is, less)) (λ error none. none)

pub returns-in-Store-clause-less : goal.returns-in-Store-clause-less
returns-in-Store-clause-less c =
    let is : of_value_frame c.args.frame ≡ of_storing c.in-Store.part = ap of_value_frame c.in-Store.is in
    MatchResult-weaker c.storing.result c.storing.ensures.less (λ now less. omega (arith, is, less)) (λ error none. none)

pub returns-in-Test-clause-less : goal.returns-in-Test-clause-less
returns-in-Test-clause-less c =
    let is : of_value_frame c.args.frame ≡ 1 + of_choice c.in-Test.choice = ap of_value_frame c.in-Test.is in
    MatchResult-weaker c.choosing.result c.choosing.ensures.less (λ now less. omega (arith, is, less)) (λ error none. none)

pub returns-in-Members-clause-less : goal.returns-in-Members-clause-less
returns-in-Members-clause-less c =
    let is : of_value_frame c.args.frame ≡ 1 + of_exprs (exprs_of c.in-Members.rest.now) = ap of_value_frame c.in-Members.is in
    MatchResult-weaker c.members.result c.members.ensures.less (λ now less. omega (arith, is, less)) (λ error none. none)

pub returns-in-Designator-clause-less : goal.returns-in-Designator-clause-less
returns-in-Designator-clause-less c =
    let is : of_value_frame c.args.frame ≡ 2 + of_exprs (exprs_of c.in-Designator.left.now) = ap of_value_frame c.in-Designator.is in
    MatchResult-weaker c.arguments.result c.arguments.ensures.less (λ now less. omega (arith, is, less)) (λ error none. none)

pub returns-in_ok-all-in-Argument-clause-less : goal.returns-in_ok-all-in-Argument-clause-less
returns-in_ok-all-in-Argument-clause-less c =
    let is : of_value_frame c.args.frame ≡ 2 + of_exprs (exprs_of c.in-Argument.rest.now) = ap of_value_frame c.in-Argument.is in
    MatchResult-weaker c.arguments-in-Argument.result c.arguments-in-Argument.ensures.less (λ now less. omega (arith, is, less)) (λ error none. none)
