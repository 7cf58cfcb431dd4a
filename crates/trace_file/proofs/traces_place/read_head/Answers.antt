use Rattle.std.proofs.Common.{◌≡◌, refl, subst, inl, inr}
use Rattle.std.specs.Prelude.{◌⊎◌, Err, codes}
use Rattle.line_text.specs.declared.miss.Miss.{Miss}
use Rattle.line_text.specs.Reading.{Reads, Agree}
use Rattle.trace_file.specs.declared.version.TracesVersion.{TracesVersion}
use Rattle.trace_file.specs.declared.version.TracesVersion.TheVariants.{One, Two}
use Rattle.trace_file.specs.Traces.{traces_head}
use Rattle.trace_file.proofs.HeadLemmas.{other_number}
use Rattle.trace_file.proofs.TracesLemmas.{traces_head-is}
use Rattle.trace_file.proofs.traces_place.read_head.Goals as goal

pub returns-in-Ok-clause-head : goal.returns-in-Ok-clause-head
returns-in-Ok-clause-head c = (c.take.new.self.rest.now, c.in-Ok.ensures.reads.stands)

pub returns-in-Ok-take-clause-head : goal.returns-in-Ok-take-clause-head
returns-in-Ok-take-clause-head c = (c.take-in-Err-Wrong.new.self.rest.now, c.in-Ok-take.ensures.reads.stands)

pub returns-in-Some-clause-refused : goal.returns-in-Some-clause-refused
returns-in-Some-clause-refused c =
    let first = subst (λ (m : Miss). Reads {V = Unit {0}} (λ _. Unit {0}) (λ _. traces_head One) c.args.line.now c.take.new.self.rest.now (Err m)) c.in-Err-Wrong.field-0-is c.in-Err-Wrong.ensures.reads in
    let second = subst (λ (m : Miss). Reads {V = Unit {0}} (λ _. Unit {0}) (λ _. traces_head Two) c.args.line.now c.take-in-Err-Wrong.new.self.rest.now (Err m)) c.in-Err-Wrong-take.field-0-is c.in-Err-Wrong-take.ensures.reads in
    let n = c.in-Some.field-0 in
    let other : (n ≡ 1) ⊎ (n ≡ 2) → ⊥ = elim [
      | inl one ↦ other_number (traces_head One) (codes "dyckmon-traces ") c.args.line.now 1 n (traces_head-is One) (first tt tt) c.in-Some.ensures.some one
      | inr two ↦ other_number (traces_head Two) (codes "dyckmon-traces ") c.args.line.now 2 n (traces_head-is Two) (second tt tt) c.in-Some.ensures.some two
    ] in
    (n, c.in-Some.ensures.small, other, c.in-Some.ensures.some)

pub returns-in-None-clause-refused : goal.returns-in-None-clause-refused
returns-in-None-clause-refused c =
    let first = subst (λ (m : Miss). Reads {V = Unit {0}} (λ _. Unit {0}) (λ _. traces_head One) c.args.line.now c.take.new.self.rest.now (Err m)) c.in-Err-Wrong.field-0-is c.in-Err-Wrong.ensures.reads in
    let second = subst (λ (m : Miss). Reads {V = Unit {0}} (λ _. Unit {0}) (λ _. traces_head Two) c.args.line.now c.take-in-Err-Wrong.new.self.rest.now (Err m)) c.in-Err-Wrong-take.field-0-is c.in-Err-Wrong-take.ensures.reads in
    let none : (v : TracesVersion) → Agree (traces_head v) c.args.line.now → ⊥ = elim [ One ↦ first tt tt | Two ↦ second tt tt ] in
    (refl, none, c.in-None.ensures.none)
