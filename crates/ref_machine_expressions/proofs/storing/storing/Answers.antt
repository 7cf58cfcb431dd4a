use Rattle.std.proofs.Common.{ap, sym, ◌∙◌, ◌≡◌, ◌+◌, arith}
use Rattle.std.proofs.lemmas.Result.{MatchResult-weaker}
use Rattle.c_values.specs.Seen.{seen}
use Rattle.c_meaning.specs.Results.{with_memory, then_do}
use Rattle.ref_machine_frames.specs.Frames.{place_of, stack, after_value, storing}
use Rattle.c_tree.specs.View.{expr_of}
use Rattle.ref_machine_frames.specs.Work.{of_expr, of_storing}
use Rattle.ref_machine_expressions.proofs.storing.storing.Goals as goal

pub returns-in-Place-clause-same : goal.returns-in-Place-clause-same
returns-in-Place-clause-same c =
    MatchResult-weaker c.wait.result c.wait.ensures.same (λ now same p h w st.
    let m = seen c.args.memory.now in
    let fr = place_of h in
    let k = after_value p w fr (stack c.args.todo.now.items) in
    same p h m w st ∙ ap (λ s. then_do (storing p w fr s c.args.v (with_memory st m)) k) (sym c.in-Place.is)) (λ error none. none)

pub returns-in-Value-clause-same : goal.returns-in-Value-clause-same
returns-in-Value-clause-same c =
    MatchResult-weaker c.stored.result c.stored.ensures.same (λ now same p h w st.
    let m = seen c.args.memory.now in
    let fr = place_of h in
    let k = after_value p w fr (stack c.args.todo.now.items) in
    same p h w st ∙ ap (λ s. then_do (storing p w fr s c.args.v (with_memory st m)) k) (sym c.in-Value.is)) (λ error none. none)

pub returns-in-Old-clause-same : goal.returns-in-Old-clause-same
returns-in-Old-clause-same c =
    MatchResult-weaker c.loading.result c.loading.ensures.same (λ now same p h w st.
    let m = seen c.args.memory.now in
    let fr = place_of h in
    let k = after_value p w fr (stack c.args.todo.now.items) in
    same p h w st ∙ ap (λ s. then_do (storing p w fr s c.args.v (with_memory st m)) k) (sym c.in-Old.is)) (λ error none. none)

pub returns-in-New-clause-same : goal.returns-in-New-clause-same
returns-in-New-clause-same c =
    MatchResult-weaker c.renewing.result c.renewing.ensures.same (λ now same p h w st.
    let m = seen c.args.memory.now in
    let fr = place_of h in
    let k = after_value p w fr (stack c.args.todo.now.items) in
    same p h w st ∙ ap (λ s. then_do (storing p w fr s c.args.v (with_memory st m)) k) (sym c.in-New.is)) (λ error none. none)

pub returns-in-Place-clause-less : goal.returns-in-Place-clause-less
returns-in-Place-clause-less c =
    let is : of_storing c.args.part ≡ 2 + of_expr (expr_of c.in-Place.right.now) = ap of_storing c.in-Place.is in
    MatchResult-weaker c.wait.result c.wait.ensures.less (λ now less. omega (arith, is, less)) (λ error none. none)

pub returns-in-Value-clause-less : goal.returns-in-Value-clause-less
returns-in-Value-clause-less c =
    let is : of_storing c.args.part ≡ 1 = ap of_storing c.in-Value.is in
    MatchResult-weaker c.stored.result c.stored.ensures.less (λ now less. omega (arith, is, less)) (λ error none. none)

pub returns-in-Old-clause-less : goal.returns-in-Old-clause-less
returns-in-Old-clause-less c =
    let is : of_storing c.args.part ≡ 2 + of_expr (expr_of c.in-Old.right.now) = ap of_storing c.in-Old.is in
    MatchResult-weaker c.loading.result c.loading.ensures.less (λ now less. omega (arith, is, less)) (λ error none. none)

pub returns-in-New-clause-less : goal.returns-in-New-clause-less
returns-in-New-clause-less c =
    let is : of_storing c.args.part ≡ 1 = ap of_storing c.in-New.is in
    MatchResult-weaker c.renewing.result c.renewing.ensures.less (λ now less. omega (arith, is, less)) (λ error none. none)
