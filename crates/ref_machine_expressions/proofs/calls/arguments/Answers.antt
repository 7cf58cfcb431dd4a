use Rattle.std.proofs.Common.{◌≡◌, ◌+◌, ap, arith}
use Rattle.std.proofs.lemmas.List.{nil_from_length}
use Rattle.std.proofs.lemmas.Result.{MatchResult-weaker}
use Rattle.c_tree.specs.View.{expr_of, exprs_of, program_of}
use Rattle.c_values.specs.Seen.{seen}
use Rattle.c_meaning.specs.Results.{with_memory}
use Rattle.ref_machine_frames.specs.Frames.{place_of, stack, after_value}
use Rattle.ref_machine_expressions.proofs.Following.{no_argument, an_argument}
use Rattle.ref_machine_frames.specs.Work.{of_expr, of_exprs}
use Rattle.ref_machine_expressions.proofs.calls.arguments.Goals as goal

pub returns-in_default-clause-same : goal.returns-in_default-clause-same
returns-in_default-clause-same c =
    MatchResult-weaker c.made.result c.made.ensures.same (λ now same h w st.
    let p = program_of c.args.program.now in
    no_argument p w c.args.wanted c.args.whom c.args.before.items (with_memory st (seen c.args.memory.now)) (place_of h) (exprs_of c.args.left.now) (after_value p w (place_of h) (stack c.args.todo.now.items)) _ (ap exprs_of (nil_from_length c.args.left.now c.in_default.ensures.cases)) (same w (place_of h) (stack c.args.todo.now.items) st)) (λ error none. none)

pub returns-clause-same : goal.returns-clause-same
returns-clause-same c =
    MatchResult-weaker c.wait.result c.wait.ensures.same (λ now same h w st.
    let p = program_of c.args.program.now in
    an_argument p w c.args.wanted c.args.whom c.args.before.items (with_memory st (seen c.args.memory.now)) (place_of h) (exprs_of c.args.left.now) (expr_of c.in-Some.first.now) (exprs_of c.in-Some.rest.now) (after_value p w (place_of h) (stack c.args.todo.now.items)) _ (ap exprs_of c.in-Some.ensures.cases.0) (same p h (seen c.args.memory.now) w st)) (λ error none. none)

pub returns-in_default-clause-less : goal.returns-in_default-clause-less
returns-in_default-clause-less c = MatchResult-weaker c.made.result c.made.ensures.less (λ now less. omega (arith, less)) (λ error none. none)

pub returns-clause-less : goal.returns-clause-less
returns-clause-less c =
    let is : of_exprs (exprs_of c.args.left.now) ≡ 1 + (of_expr (expr_of c.in-Some.first.now) + of_exprs (exprs_of c.in-Some.rest.now)) = ap (λ es. of_exprs (exprs_of es)) c.in-Some.ensures.cases.0 in
    MatchResult-weaker c.wait.result c.wait.ensures.less (λ now less. omega (arith, is, less)) (λ error none. none)
