use Rattle.std.proofs.Common.{◌≡◌, ◌+◌, ap, arith}
use Rattle.std.proofs.lemmas.List.{nil_from_length}
use Rattle.std.proofs.lemmas.Result.{MatchResult-weaker}
use Rattle.c_tree.specs.View.{expr_of, exprs_of}
use Rattle.c_meaning.specs.Results.{with_memory}
use Rattle.ref_machine_frames.specs.Frames.{place_of, stack, after_value}
use Rattle.ref_machine_expressions.proofs.Following.{last_member, more_members, no_member, nothing_left, something_left}
use Rattle.ref_machine_frames.specs.Work.{of_expr, of_exprs}
use Rattle.ref_machine_expressions.proofs.values.members.Goals as goal

pub returns-then-is_empty-clause-same : goal.returns-then-is_empty-clause-same
returns-then-is_empty-clause-same c p h m w st =
    last_member p w (place_of h) c.args.wanted c.args.left.now c.in-Some.first.now c.in-Some.rest.now (with_memory st m) (after_value p w (place_of h) (stack c.args.todo.now.items)) c.in-Some.ensures.cases.0 (nothing_left c.in-Some.rest.now c.is_empty.result c.is_empty.ensures c.if-is_empty.true)

pub returns-clause-same : goal.returns-clause-same
returns-clause-same c =
    MatchResult-weaker c.wait.result c.wait.ensures.same (λ now same p h m w st.
    more_members p w (place_of h) c.args.wanted c.args.left.now c.in-Some.first.now c.in-Some.rest.now (with_memory st m) (after_value p w (place_of h) (stack c.args.todo.now.items)) _ c.in-Some.ensures.cases.0 (something_left c.in-Some.rest.now c.is_empty.result c.is_empty.ensures c.if-is_empty.false) (same p h m w st)) (λ error none. none)

pub returns-in_default-clause-same : goal.returns-in_default-clause-same
returns-in_default-clause-same c p h m w st =
    no_member p w (place_of h) c.args.wanted c.args.left.now (with_memory st m) (after_value p w (place_of h) (stack c.args.todo.now.items)) (nil_from_length c.args.left.now c.in_default.ensures.cases)

pub returns-clause-less : goal.returns-clause-less
returns-clause-less c =
    let is : of_exprs (exprs_of c.args.left.now) ≡ 1 + (of_expr (expr_of c.in-Some.first.now) + of_exprs (exprs_of c.in-Some.rest.now)) = ap (λ es. of_exprs (exprs_of es)) c.in-Some.ensures.cases.0 in
    MatchResult-weaker c.wait.result c.wait.ensures.less (λ now less. omega (arith, is, less)) (λ error none. none)
