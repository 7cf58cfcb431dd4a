use Rattle.std.proofs.lemmas.Result.{MatchResult-weaker}
use Rattle.c_values.specs.Seen.{seen}
use Rattle.c_meaning.specs.Pointers.{test}
use Rattle.c_meaning.specs.Results.{with_memory}
use Rattle.ref_machine_frames.specs.Faults.{number_of}
use Rattle.ref_machine_frames.specs.Frames.{place_of, stack, after_value, chosen}
use Rattle.ref_machine_expressions.proofs.Following.{goes_on_with, stops_with}
use Rattle.ref_machine_expressions.proofs.choices.choosing.Goals as goal

pub returns-in-Ok-clause-same : goal.returns-in-Ok-clause-same
returns-in-Ok-clause-same c =
    MatchResult-weaker c.chosen.result c.chosen.ensures.same (λ now same p h w st.
    let m = seen c.args.memory.now in
    goes_on_with (test m c.args.v) c.in-Ok.holds (with_memory st m) (chosen p w (place_of h) c.args.choice) (after_value p w (place_of h) (stack c.args.todo.now.items)) _ c.in-Ok.ensures (same p h m w st)) (λ error none. none)

pub returns-in-Err-clause-same : goal.returns-in-Err-clause-same
returns-in-Err-clause-same c p h w st =
    let m = seen c.args.memory.now in
    let k = after_value p w (place_of h) (stack c.args.todo.now.items) in
    stops_with (test m c.args.v) (number_of c.in-Err.fault) (with_memory st m) (chosen p w (place_of h) c.args.choice) k _ k c.in-Err.ensures (c.stopped.ensures.same p w (place_of h) (stack c.args.todo.now.items) (with_memory st m))
