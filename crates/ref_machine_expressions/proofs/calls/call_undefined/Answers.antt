use Rattle.std.proofs.Common.{ap, sym, ◌∙◌}
use Rattle.std.proofs.lemmas.Result.{MatchResult-weaker}
use Rattle.c_values.specs.Seen.{seen}
use Rattle.c_meaning.specs.Results.{with_memory, then_do}
use Rattle.ref_machine_frames.specs.Held.{call_undefined}
use Rattle.ref_machine_frames.specs.Frames.{after_value}
use Rattle.ref_machine_expressions.proofs.Following.{is_system_call, no_site, with_site}
use Rattle.ref_machine_expressions.proofs.calls.call_undefined.Goals as goal

pub returns-then-x-lt24-clause-same : goal.returns-then-x-lt24-clause-same
returns-then-x-lt24-clause-same c =
    MatchResult-weaker c.call_system.result c.call_system.ensures.same (λ now same p w fr todo st.
    let at = with_memory st (seen c.args.memory.now) in
    same p w fr todo st ∙ ap (λ r. then_do r (after_value p w fr todo)) (sym (is_system_call c.args.x c.args.values.now at c.if-x-lt24.true))) (λ error none. none)

pub returns-in-Some-clause-same : goal.returns-in-Some-clause-same
returns-in-Some-clause-same c p w fr todo st =
    let at = with_memory st (seen c.args.memory.now) in
    c.null_call.ensures.same p (seen c.args.memory.now) w fr todo st ∙ ap (λ vs. then_do (call_undefined c.args.x vs at) (after_value p w fr todo)) (with_site c.in-Some.site c.args.values.now c.in-Some.ensures)

pub returns-in-None-clause-same : goal.returns-in-None-clause-same
returns-in-None-clause-same c p w fr todo st =
    let at = with_memory st (seen c.args.memory.now) in
    ap (λ r. then_do r (after_value p w fr todo)) (sym (no_site c.args.x c.args.values.now at c.if-x-lt24.false c.in-None.ensures))
