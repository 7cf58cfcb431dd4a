use Rattle.std.proofs.Common.{arith}
use Rattle.std.proofs.lemmas.Result.{MatchResult-weaker}
use Rattle.c_tree.specs.View.{program_of}
use Rattle.c_values.specs.Seen.{seen}
use Rattle.c_meaning.specs.Results.{with_memory}
use Rattle.ref_machine_frames.specs.Held.{system_call_alone}
use Rattle.ref_machine_frames.specs.Frames.{after_value}
use Rattle.ref_machine_expressions.proofs.Following.{function_named, other_named}
use Rattle.ref_machine_expressions.proofs.calls.called_through.Goals as goal

pub returns-then-f-count-clause-same : goal.returns-then-f-count-clause-same
returns-then-f-count-clause-same c w fr todo st =
    let p = program_of c.args.program.now in
    function_named p w c.args.wanted c.args.f c.args.values.items (with_memory st (seen c.args.memory.now)) (after_value p w fr todo) c.defined-count.result system_call_alone c.defined-count.ensures c.if-f-count.true

pub returns-clause-same : goal.returns-clause-same
returns-clause-same c =
    MatchResult-weaker c.call_system.result c.call_system.ensures.same (λ now same w fr todo st.
    let p = program_of c.args.program.now in
    other_named p w c.args.wanted c.args.f c.args.values.items c.deref.result.now (with_memory st (seen c.args.memory.now)) (after_value p w fr todo) c.defined-count.result system_call_alone _ c.defined-count.ensures c.if-f-count.false c.deref.ensures.value (same p w fr todo st)) (λ error none. none)

pub returns-clause-less : goal.returns-clause-less
returns-clause-less c = MatchResult-weaker c.call_system.result c.call_system.ensures.done (λ now done. omega (arith, done)) (λ error none. none)
