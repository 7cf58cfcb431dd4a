use Rattle.std.proofs.Common.{◌≡◌, ◌≤◌, ◌-◌, suc, ap, ◌∙◌, arith}
use Rattle.std.proofs.lemmas.Result.{MatchResult-weaker}
use Rattle.c_tree.specs.View.{stmt_of}
use Rattle.c_meaning.specs.Results.{then_do}
use Rattle.ref_machine_frames.specs.Held.{world}
use Rattle.ref_machine_frames.specs.Frames.{place_of, stack, after_exit, rounds_of}
use Rattle.ref_machine.specs.Standing.{state}
use Rattle.ref_machine.proofs.Turning.{loop_turn}
use Rattle.ref_machine.proofs.stepping.test_in_turn.Goals as goal

pub returns-clause-same : goal.returns-clause-same
returns-clause-same c =
    MatchResult-weaker c.test_loop.result c.test_loop.ensures (λ now given p h m entries n records taken le.
    let w = world p n in
    let l = rounds_of (stmt_of c.args.of.now) in
    let k = after_exit p w (place_of h) (stack c.args.todo.now.items) in
    let left : suc (c.args.turns.now - 1) ≡ c.args.turns.now = omega arith in
    let enough : suc (c.args.turns.now - 1) ≤ n = omega (arith, le) in
    given p h m w (state m entries records taken (c.args.turns.now - 1))
    ∙ (loop_turn p n (place_of h) l m entries records taken (c.args.turns.now - 1) k enough
    ∙ ap (λ t. then_do (w.again (place_of h) l (state m entries records taken t)) k) left)) (λ error none. none)
