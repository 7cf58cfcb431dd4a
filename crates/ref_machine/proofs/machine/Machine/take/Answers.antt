use Rattle.std.proofs.Common.{◌+◌, ◌≤◌, ◌∷◌, refl, subst, arith}
use Rattle.c_tree.specs.View.{program_of}
use Rattle.c_values.specs.Seen.{seen}
use Rattle.c_meaning.specs.Runs.{Run}
use Rattle.c_meaning.specs.TypedResults.{IsEnding}
use Rattle.ref_machine_frames.specs.Requests.{asked_by}
use Rattle.ref_machine_frames.specs.Held.{world}
use Rattle.ref_machine_frames.specs.Frames.{place_of, stack, after_value}
use Rattle.ref_machine.proofs.Recording.{taken_answered, taken_badly}
use Rattle.ref_machine.proofs.machine.Machine.take.Goals as goal

pub returns-in-Answered-clause-resumes : goal.returns-in-Answered-clause-resumes
returns-in-Answered-clause-resumes c =
    let m = c.args.self.now in
    let p = program_of m.program.now in
    record { so = (taken_answered p (world p m.allowed) (place_of m.here) (seen m.memory) (seen c.take_record.new.memory) m.entries m.taken (m.taken + 1) m.turns (stack m.todo.items) c.args.name (asked_by c.args.request) c.args.recorded.now c.in-Answered.event c.in-Answered.value c.settled.result c.in-Answered.ensures refl c.settled.ensures, refl) }

pub returns-in-BadResult-clause-resumes : goal.returns-in-BadResult-clause-resumes
returns-in-BadResult-clause-resumes c =
    let m = c.args.self.now in
    let p = program_of m.program.now in
    record { so = (λ records. (taken_badly (seen m.memory) (seen c.take_record.new.memory) m.entries m.taken (m.taken + 1) m.turns c.args.name (asked_by c.args.request) c.args.recorded.now (after_value p (world p m.allowed) (place_of m.here) (stack m.todo.items)) c.in-BadResult.ensures refl records, refl), refl) }

pub invariant_of-self : goal.invariant_of-self
invariant_of-self c =
    let m = c.args.self.now in
    let p = program_of m.program.now in
    record {
      counted = m.counted;
      bounded = m.bounded;
      few = m.few;
      right = λ records. subst (λ (r : Run). IsEnding r.outcome) (taken_answered p (world p m.allowed) (place_of m.here) (seen m.memory) (seen c.take_record.new.memory) m.entries m.taken (m.taken + 1) m.turns (stack m.todo.items) c.args.name (asked_by c.args.request) c.args.recorded.now c.in-Answered.event c.in-Answered.value c.settled.result c.in-Answered.ensures refl c.settled.ensures records) (c.requires.right (c.args.recorded.now ∷ records));
      called = tt;
    }

pub invariant_of-self-in-BadResult : goal.invariant_of-self-in-BadResult
invariant_of-self-in-BadResult c =
    let m = c.args.self.now in
    let some : 1 ≤ m.taken + 1 = omega arith in
    record {
      counted = m.counted;
      bounded = m.bounded;
      few = m.few;
      right = λ records. some;
      called = tt;
    }
