use Rattle.null_calls_laws.specs.Instrumented.{instrumented_unit}
use Rattle.null_calls_laws.specs.InstrumentedTexts.{instrumented_text}
use Rattle.null_calls_laws.proofs.InstrumentedTexts.{accepted, does_as_marked}
use Rattle.null_calls_laws.proofs.instrumented_texts.instrumented_texts_are_accepted.Goals as goal

pub returns : goal.returns
returns c text tokens u p lexed spelled typed short =
    let a = c.instrumented_texts_run_marked.ensures text tokens u p lexed spelled typed in
    let read = c.instrumented_texts_are_read_back.ensures text tokens u p lexed spelled typed short in
    let none = c.a_plain_text_makes_no_null_call.ensures text p (record { tokens = tokens; unit = u; lexed = lexed; spelled = spelled; typed = typed }) in (
      a.0,
      accepted c.units_are_typed_alike_apart_from_places.ensures (instrumented_text p u) (instrumented_unit p u) a.0 read a.1,
      does_as_marked c.marked_runs_are_runs.ensures.differ c.marked_runs_are_runs.ensures.erased p a.0 none a.2 a.3,
    )
