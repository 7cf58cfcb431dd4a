use Rattle.std.proofs.Common.{[], ap, sym, ◌∙◌, refl, subst}
use Rattle.c_tree.specs.View.{program_of}
use Rattle.c_values.specs.Seen.{seen}
use Rattle.c_meaning.specs.Runs.{ending}
use Rattle.c_meaning.specs.TypedResults.{IsEnding}
use Rattle.ref_machine_frames.specs.Held.{world}
use Rattle.ref_machine_frames.specs.Frames.{place_of, stack, then_comes}
use Rattle.ref_machine_frames.specs.declared.frames.Now.{Now}
use Rattle.ref_machine_frames.specs.declared.frames.Now.TheVariants.{Ask, Stopped}
use Rattle.ref_machine.specs.Futures.{Future, event_first, future_at}
use Rattle.ref_machine.specs.Standing.{IsPausing, state}
use Rattle.ref_machine.proofs.Resuming.{needs_one, has_ended, never_mistyped, right_after, right_alike}
use Rattle.ref_machine.proofs.Turning.{ended_after, exits_fit}
use Rattle.ref_machine.proofs.machine.Machine.pause.Goals as goal

pub returns-in-Ask-clause-goes_on : goal.returns-in-Ask-clause-goes_on
returns-in-Ask-clause-goes_on c =
    needs_one c.args.self.now c.in-Ask.name c.in-Ask.request c.args.now (future_at c.args.self.now (Ask c.in-Ask.name c.in-Ask.request)) c.in-Ask.is (λ records. refl)

pub invariant_of-self : goal.invariant_of-self
invariant_of-self c =
    let m = c.args.self.now in
    record {
      counted = m.counted;
      bounded = m.bounded;
      few = m.few;
      right = right_alike (future_at m c.args.now) (future_at m (Ask c.in-Ask.name c.in-Ask.request)) (λ records. ap (λ now. future_at m now records) c.in-Ask.is) c.requires.right;
      called = tt;
    }

pub coming-requires : goal.coming-requires
coming-requires c =
    let m = c.args.self.now in
    let p = program_of m.program.now in
    exits_fit p (world p m.allowed) (place_of m.here) c.in-Told.event c.in-Told.then (stack m.todo.items) (state (seen m.memory) m.entries [] m.taken m.turns) (subst (λ (now : Now). IsEnding (future_at m now []).outcome) c.in-Told.is (c.requires.right []))

pub returns-in-Told-clause-goes_on : goal.returns-in-Told-clause-goes_on
returns-in-Told-clause-goes_on c =
    let m = c.args.self.now in
    let p = program_of m.program.now in
    let w = world p m.allowed in
    (λ records. let st = state (seen m.memory) m.entries records m.taken m.turns in ap (λ now. future_at m now records) c.in-Told.is ∙ (ended_after c.in-Told.event (then_comes p w (place_of m.here) c.in-Told.then (stack m.todo.items) st) ∙ ap (λ r. event_first c.in-Told.event (ending r)) (sym (c.coming.ensures p w (place_of m.here) (stack m.todo.items) st))), refl)

pub invariant_of-self-in-Told : goal.invariant_of-self-in-Told
invariant_of-self-in-Told c =
    let m = c.args.self.now in
    let p = program_of m.program.now in
    let w = world p m.allowed in
    let new : Future = λ records. future_at m c.coming.result records in
    record {
      counted = m.counted;
      bounded = m.bounded;
      few = m.few;
      right = right_after c.in-Told.event (future_at m c.args.now) new (λ records. let st = state (seen m.memory) m.entries records m.taken m.turns in ap (λ now. future_at m now records) c.in-Told.is ∙ (ended_after c.in-Told.event (then_comes p w (place_of m.here) c.in-Told.then (stack m.todo.items) st) ∙ ap (λ r. event_first c.in-Told.event (ending r)) (sym (c.coming.ensures p w (place_of m.here) (stack m.todo.items) st)))) c.requires.right;
      called = tt;
    }

pub returns-in-Stopped-clause-goes_on : goal.returns-in-Stopped-clause-goes_on
returns-in-Stopped-clause-goes_on c =
    let m = c.args.self.now in
    has_ended (future_at m c.args.now) (future_at m (Stopped c.in-Stopped.outcome)) c.in-Stopped.outcome c.ended-pause.result c.ended-pause.ensures (λ records. ap (λ now. future_at m now records) c.in-Stopped.is) (λ records. refl)

pub invariant_of-self-in-Stopped : goal.invariant_of-self-in-Stopped
invariant_of-self-in-Stopped c =
    let m = c.args.self.now in
    record {
      counted = m.counted;
      bounded = m.bounded;
      few = m.few;
      right = right_alike (future_at m c.args.now) (future_at m (Stopped c.in-Stopped.outcome)) (λ records. ap (λ now. future_at m now records) c.in-Stopped.is) c.requires.right;
      called = tt;
    }

pub unreachable-requires : goal.unreachable-requires
unreachable-requires c = subst IsPausing c.in-Eval.is c.requires.pausing

pub unreachable-requires-in-Have : goal.unreachable-requires-in-Have
unreachable-requires-in-Have c = subst IsPausing c.in-Have.is c.requires.pausing

pub unreachable-requires-in-Exec : goal.unreachable-requires-in-Exec
unreachable-requires-in-Exec c = subst IsPausing c.in-Exec.is c.requires.pausing

pub unreachable-requires-in-Left : goal.unreachable-requires-in-Left
unreachable-requires-in-Left c = subst IsPausing c.in-Left.is c.requires.pausing

pub unreachable-requires-in-Enter : goal.unreachable-requires-in-Enter
unreachable-requires-in-Enter c = subst IsPausing c.in-Enter.is c.requires.pausing

pub unreachable-requires-in-Test : goal.unreachable-requires-in-Test
unreachable-requires-in-Test c = subst IsPausing c.in-Test.is c.requires.pausing

pub unreachable-requires-in-Mistyped : goal.unreachable-requires-in-Mistyped
unreachable-requires-in-Mistyped c = never_mistyped c.args.self.now c.args.now c.in-Mistyped.is c.requires.right
