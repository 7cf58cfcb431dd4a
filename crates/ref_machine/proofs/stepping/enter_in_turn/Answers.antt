use Rattle.std.proofs.Common.{◌≡◌, ◌≤◌, ◌-◌, suc, ap, ◌∙◌, arith}
use Rattle.std.proofs.lemmas.Result.{MatchResult-weaker}
use Rattle.c_tree.specs.View.{program_of}
use Rattle.c_values.specs.Seen.{seen}
use Rattle.c_meaning.specs.Results.{then_do}
use Rattle.ref_machine_frames.specs.Held.{world}
use Rattle.ref_machine_frames.specs.Frames.{place_of, stack, after_value}
use Rattle.ref_machine.specs.Standing.{state}
use Rattle.ref_machine.proofs.Turning.{enter_turn}
use Rattle.ref_machine.proofs.stepping.enter_in_turn.Goals as goal

pub returns-clause-same : goal.returns-clause-same
returns-clause-same c =
    MatchResult-weaker c.enter.result c.enter.ensures.entered (λ now entered n records taken le.
    let p = program_of c.args.program.now in
    let w = world p n in
    let m = seen c.args.memory.now in
    let k = after_value p w (place_of c.args.here.now) (stack c.args.todo.now.items) in
    let left : suc (c.args.turns.now - 1) ≡ c.args.turns.now = omega arith in
    let enough : suc (c.args.turns.now - 1) ≤ n = omega (arith, le) in
    entered w records taken (c.args.turns.now - 1)
    ∙ (enter_turn p n c.args.wanted c.args.f c.args.values.now m c.args.entries.now records taken (c.args.turns.now - 1) k enough
    ∙ ap (λ t. then_do (w.enter c.args.wanted c.args.f c.args.values.now (state m c.args.entries.now records taken t)) k) left)) (λ error none. none)
