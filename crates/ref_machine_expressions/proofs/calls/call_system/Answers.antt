use Rattle.std.proofs.Common.{◌≡◌, ◌<◌, ap, sym, ◌∙◌, arith}
use Rattle.std.proofs.lemmas.Result.{MatchResult-weaker}
use Rattle.c_values.specs.Seen.{seen}
use Rattle.c_meaning.specs.Results.{with_memory, then_do}
use Rattle.ref_machine_frames.specs.Held.{system_call}
use Rattle.ref_machine_frames.specs.Frames.{after_value}
use Rattle.ref_machine_expressions.proofs.Following.{alone, not_alone}
use Rattle.ref_machine_expressions.proofs.calls.call_system.Goals as goal

pub returns-clause-same : goal.returns-clause-same
returns-clause-same c =
    MatchResult-weaker c.system_call.result c.system_call.ensures.same (λ now same p w fr todo st.
    let at = with_memory st (seen c.args.memory.now) in
    let below : c.args.x < 24 = omega arith in
    let name : c.in-Some.name ≡ c.args.x = c.in-Some.ensures.name in
    same p w fr todo st
    ∙ (ap (λ x. then_do (system_call x c.args.values.now at) (after_value p w fr todo)) name
    ∙ ap (λ r. then_do r (after_value p w fr todo)) (sym (alone c.args.x c.args.values.now at below)))) (λ error none. none)

pub returns-then-x-ge24-clause-same : goal.returns-then-x-ge24-clause-same
returns-then-x-ge24-clause-same c p w fr todo st =
    ap (λ r. then_do r (after_value p w fr todo)) (sym (not_alone c.args.x c.args.values.now (with_memory st (seen c.args.memory.now)) c.if-x-ge24.true))
