use Rattle.std.proofs.Common.{ap, sym, ◌∙◌, arith}
use Rattle.std.proofs.lemmas.Result.{MatchResult-weaker}
use Rattle.c_values.specs.Seen.{seen}
use Rattle.c_meaning.specs.Results.{with_memory, then_do}
use Rattle.c_meaning.specs.SystemCalls.{request}
use Rattle.ref_machine_frames.specs.Requests.{asked_by}
use Rattle.ref_machine_frames.specs.Frames.{after_value}
use Rattle.ref_machine_expressions.specs.Asking.{asking}
use Rattle.ref_machine_expressions.proofs.Following.{goes_on_with, few_values, many_values}
use Rattle.ref_machine_expressions.proofs.calls.system_call.Goals as goal

pub returns-in-Ok-clause-same : goal.returns-in-Ok-clause-same
returns-in-Ok-clause-same c p w fr todo st =
    let m = seen c.args.memory.now in
    goes_on_with (request c.args.name m c.args.values.now) (asked_by c.in-Ok.request) (with_memory st m) (asking c.args.name) (after_value p w fr todo) _ c.in-Ok.ensures (c.asking.ensures.same p m w fr todo st)
    ∙ ap (λ r. then_do r (after_value p w fr todo)) (sym (few_values c.args.name c.args.values.now (with_memory st m) (omega arith)))

pub returns-in-Err-clause-same : goal.returns-in-Err-clause-same
returns-in-Err-clause-same c =
    MatchResult-weaker c.refused.result c.refused.ensures.same (λ now same p w fr todo st.
    let m = seen c.args.memory.now in
    same (request c.args.name m c.args.values.now) c.in-Err.ensures p w fr todo (with_memory st m) (asking c.args.name)
    ∙ ap (λ r. then_do r (after_value p w fr todo)) (sym (few_values c.args.name c.args.values.now (with_memory st m) (omega arith)))) (λ error none. none)

pub returns-then-values-gt3-clause-same : goal.returns-then-values-gt3-clause-same
returns-then-values-gt3-clause-same c p w fr todo st =
    let m = seen c.args.memory.now in
    ap (λ r. then_do r (after_value p w fr todo)) (sym (many_values c.args.name c.args.values.now (with_memory st m) (omega arith)))
