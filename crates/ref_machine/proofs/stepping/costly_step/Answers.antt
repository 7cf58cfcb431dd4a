use Rattle.std.proofs.Common.{ap, sym, ◌∙◌}
use Rattle.std.proofs.lemmas.Result.{MatchResult-weaker}
use Rattle.c_tree.specs.View.{program_of}
use Rattle.c_values.specs.Seen.{seen}
use Rattle.c_meaning.specs.Results.{then_do}
use Rattle.ref_machine_frames.specs.Held.{world}
use Rattle.ref_machine_frames.specs.Frames.{place_of, stack, after_value, rest}
use Rattle.ref_machine.specs.Standing.{state}
use Rattle.ref_machine.proofs.stepping.costly_step.Goals as goal

pub returns-in-Enter-clause-same : goal.returns-in-Enter-clause-same
returns-in-Enter-clause-same c =
    MatchResult-weaker c.enter_in_turn.result c.enter_in_turn.ensures.same (λ next same n records taken le.
    let p = program_of c.args.program.now in
    let w = world p n in
    let st = state (seen c.args.memory.now) c.args.entries.now records taken c.args.turns.now in
    same n records taken le
    ∙ (ap (λ vs. then_do (w.enter c.in-Enter.wanted c.in-Enter.function vs st) (after_value p w (place_of c.args.here.now) (stack c.args.todo.now.items))) c.deref.ensures.value
    ∙ ap (λ now. rest p w (place_of c.args.here.now) now (stack c.args.todo.now.items) st) (sym c.in-Enter.is))) (λ error none. none)

pub returns-in-Test-clause-same : goal.returns-in-Test-clause-same
returns-in-Test-clause-same c =
    MatchResult-weaker c.test_in_turn.result c.test_in_turn.ensures.same (λ next same n records taken le.
    let p = program_of c.args.program.now in
    let w = world p n in
    let st = state (seen c.args.memory.now) c.args.entries.now records taken c.args.turns.now in
    same p c.args.here.now (seen c.args.memory.now) c.args.entries.now n records taken le ∙ ap (λ now. rest p w (place_of c.args.here.now) now (stack c.args.todo.now.items) st) (sym c.in-Test.is)) (λ error none. none)
