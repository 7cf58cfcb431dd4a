use Rattle.c_values.specs.Seen.{seen}
use Rattle.c_meaning.specs.Pointers.{store_place}
use Rattle.c_meaning.specs.Results.{with_memory}
use Rattle.ref_machine_frames.specs.Faults.{number_of}
use Rattle.ref_machine_frames.specs.Frames.{place_of, stack, after_value}
use Rattle.ref_machine_expressions.proofs.Following.{stored_on, not_stored}
use Rattle.ref_machine_expressions.proofs.storing.stored.Goals as goal

pub returns-in-Ok-clause-same : goal.returns-in-Ok-clause-same
returns-in-Ok-clause-same c p h w st =
    let old = seen c.args.memory.now in
    stored_on (store_place old c.args.place c.args.value) (seen c.store_place.new.memory) c.args.gives (with_memory st old) (after_value p w (place_of h) (stack c.args.todo.now.items)) c.in-Ok.ensures.answer

pub returns-in-Err-clause-same : goal.returns-in-Err-clause-same
returns-in-Err-clause-same c p h w st =
    let old = seen c.args.memory.now in
    let new = seen c.store_place.new.memory in
    not_stored (store_place old c.args.place c.args.value) (number_of c.in-Err.fault) c.args.gives (with_memory st old) (with_memory st new) (after_value p w (place_of h) (stack c.args.todo.now.items)) _ c.in-Err.ensures.answer (c.stopped.ensures.same p w (place_of h) (stack c.args.todo.now.items) (with_memory st new))
