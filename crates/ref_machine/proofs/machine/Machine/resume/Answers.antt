use Rattle.std.proofs.Common.{ap, sym, ◌∙◌, refl, rules, subst}
use Rattle.std.specs.Prelude.{IsSome}
use Rattle.std.specs.Option.{option_copied}
use Rattle.c_values.specs.Seen.{seen}
use Rattle.ref_machine_frames.specs.declared.frames.Now.TheVariants.{Ask}
use Rattle.ref_machine.specs.Futures.{future, future_at}
use Rattle.ref_machine.proofs.Resuming.{call_waits, ended_right, resumed_without, resumed_with, right_alike}
use Rattle.ref_machine.proofs.machine.Machine.resume.Goals as goal

pub take-requires-clause-right : goal.take-requires-clause-right
take-requires-clause-right c =
    let m = c.args.self.now in
    right_alike (future m) (future_at m (Ask c.in-Ask.name c.in-Ask.request)) (λ records. ap (λ now. future_at m now records) (sym c.replace-now.ensures.value ∙ c.in-Ask.is)) m.right

pub returns-in-None-clause-resumes : goal.returns-in-None-clause-resumes
returns-in-None-clause-resumes c =
    (λ records. (resumed_without c.args.self.now c.in-Ask.name c.in-Ask.request (option_copied c.args.given) (sym c.replace-now.ensures.value ∙ c.in-Ask.is) (ap option_copied c.in-None.is) records, refl), refl)

pub returns-in-Some-clause-resumes : goal.returns-in-Some-clause-resumes
returns-in-Some-clause-resumes c =
    resumed_with c.args.self.now c.in-Ask.name c.in-Ask.request (option_copied c.args.given) c.take.ensures.resumes (sym c.replace-now.ensures.value ∙ c.in-Ask.is) refl (search rules)

pub take-requires-clause-few : goal.take-requires-clause-few
take-requires-clause-few c = c.requires.few (subst (λ o. IsSome o) (sym c.in-Some.is) refl)

pub unreachable-requires : goal.unreachable-requires
unreachable-requires c =
    let m = c.args.self.now in
    call_waits m.stage m.next c.replace-now.result c.requires.waiting m.called c.replace-now.ensures.value (λ name request is. c.in_default.not-Ask name request is)

pub invariant_of-self : goal.invariant_of-self
invariant_of-self c =
    let m = c.args.self.now in
    record {
      counted = m.counted;
      bounded = m.bounded;
      few = m.few;
      right = ended_right m m.here (seen m.memory) m.entries m.turns c.replace-now.new.dest m.todo.items c.replace-now.ensures.after;
      called = tt;
    }
