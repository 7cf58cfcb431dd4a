use Rattle.std.proofs.Common.{ap, sym, ◌∙◌}
use Rattle.std.proofs.lemmas.Result.{MatchResult-weaker}
use Rattle.c_tree.specs.View.{program_of}
use Rattle.c_values.specs.Seen.{seen}
use Rattle.c_meaning.specs.Pointers.{callee}
use Rattle.c_meaning.specs.Results.{with_memory, then_do}
use Rattle.ref_machine_frames.specs.Faults.{number_of}
use Rattle.ref_machine_frames.specs.Held.{called_through}
use Rattle.ref_machine_frames.specs.Frames.{after_value, made}
use Rattle.ref_machine_expressions.proofs.Following.{goes_on_with, stops_with}
use Rattle.ref_machine_expressions.proofs.calls.made.Goals as goal

pub returns-in-Named-clause-same : goal.returns-in-Named-clause-same
returns-in-Named-clause-same c =
    MatchResult-weaker c.called.result c.called.ensures.same (λ now same w fr todo st.
    let p = program_of c.args.program.now in
    same w fr todo st ∙ ap (λ f. then_do (made p w c.args.wanted f c.args.values.items (with_memory st (seen c.args.memory.now))) (after_value p w fr todo)) (sym c.in-Named.is)) (λ error none. none)

pub returns-in-Ok-clause-same : goal.returns-in-Ok-clause-same
returns-in-Ok-clause-same c =
    MatchResult-weaker c.called_through.result c.called_through.ensures.same (λ now same w fr todo st.
    let p = program_of c.args.program.now in
    let at = with_memory st (seen c.args.memory.now) in
    goes_on_with (callee c.in-Through.v) c.in-Ok.f at (λ f st. called_through p w c.args.wanted f c.args.values.items st) (after_value p w fr todo) _ c.in-Ok.ensures (same w fr todo st)
    ∙ ap (λ f. then_do (made p w c.args.wanted f c.args.values.items at) (after_value p w fr todo)) (sym c.in-Through.is)) (λ error none. none)

pub returns-in-Err-clause-same : goal.returns-in-Err-clause-same
returns-in-Err-clause-same c w fr todo st =
    let p = program_of c.args.program.now in
    let at = with_memory st (seen c.args.memory.now) in
    let k = after_value p w fr todo in
    stops_with (callee c.in-Through.v) (number_of c.in-Err.fault) at (λ f st. called_through p w c.args.wanted f c.args.values.items st) k _ k c.in-Err.ensures (c.stopped.ensures.same p w fr todo at)
    ∙ ap (λ f. then_do (made p w c.args.wanted f c.args.values.items at) k) (sym c.in-Through.is)
