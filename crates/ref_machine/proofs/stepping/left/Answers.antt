use Rattle.std.proofs.Common.{◌≡◌, [], ap, sym, ◌∙◌, arith}
use Rattle.std.proofs.lemmas.Result.{MatchResult-weaker}
use Rattle.std.specs.Vec.{vec_len}
use Rattle.c_values.specs.Seen.{seen}
use Rattle.c_meaning.specs.Results.{with_memory}
use Rattle.ref_machine_frames.specs.Frames.{exit_in, place_of, stack, after_exit}
use Rattle.ref_machine_frames.proofs.Joining.{pushed}
use Rattle.ref_machine_frames.proofs.Working.{pushed_work}
use Rattle.ref_machine.proofs.Turning.{nothing_to_do}
use Rattle.ref_machine.proofs.stepping.left.Goals as goal

pub returns-in-Some-clause-same : goal.returns-in-Some-clause-same
returns-in-Some-clause-same c =
    MatchResult-weaker c.left_with.result c.left_with.ensures.same (λ now same p w st.
    same p w st ∙ ap (λ k. after_exit p w (place_of c.args.here.now) k (exit_in c.args.by) (with_memory st (seen c.args.memory.now))) (sym (pushed c.pop.new.self.items c.args.todo.now.items c.in-Some.frame c.in-Some.ensures.items))) (λ error none. none)

pub returns-in-None-clause-same : goal.returns-in-None-clause-same
returns-in-None-clause-same c p w st =
    let none : [] ≡ c.args.todo.now.items = nothing_to_do c.args.todo.now.items (vec_len c.args.todo.now) c.in-None.ensures.cases.0 c.args.todo.now.ok.0 in
    ap (λ todo. after_exit p w (place_of c.args.here.now) (stack todo) (exit_in c.args.by) (with_memory st (seen c.args.memory.now))) none

pub returns-in-Some-clause-less : goal.returns-in-Some-clause-less
returns-in-Some-clause-less c =
    MatchResult-weaker c.left_with.result c.left_with.ensures.less (λ now less. omega (arith, less, pushed_work c.pop.new.self.items c.args.todo.now.items c.in-Some.frame c.in-Some.ensures.items)) (λ error none. none)
