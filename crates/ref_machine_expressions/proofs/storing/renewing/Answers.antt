use Rattle.std.proofs.lemmas.Result.{MatchResult-weaker}
use Rattle.c_tree.specs.View.{ctype_of}
use Rattle.c_values.specs.Seen.{seen}
use Rattle.c_meaning.specs.Meaning.{either, updated}
use Rattle.c_meaning.specs.Pointers.{store_place}
use Rattle.c_meaning.specs.Results.{with_memory, remembered}
use Rattle.ref_machine_frames.specs.Faults.{number_of}
use Rattle.ref_machine_frames.specs.Frames.{place_of, stack, after_value}
use Rattle.ref_machine_expressions.proofs.Following.{goes_on_with, stops_with}
use Rattle.ref_machine_expressions.proofs.storing.renewing.Goals as goal

pub returns-in-Ok-clause-same : goal.returns-in-Ok-clause-same
returns-in-Ok-clause-same c =
    MatchResult-weaker c.renewed.result c.renewed.ensures.same (λ now same p h w st.
    let m = seen c.args.memory.now in
    goes_on_with (updated c.args.op (ctype_of c.args.ctype.now) (ctype_of c.args.right.now) m c.args.before c.args.v) c.in-Ok.new (with_memory st m) (λ new st. remembered (store_place st.memory c.args.place new) (either c.args.old c.args.before new) st) (after_value p w (place_of h) (stack c.args.todo.now.items)) _ c.in-Ok.ensures (same p h w st)) (λ error none. none)

pub returns-in-Err-clause-same : goal.returns-in-Err-clause-same
returns-in-Err-clause-same c p h w st =
    let m = seen c.args.memory.now in
    let k = after_value p w (place_of h) (stack c.args.todo.now.items) in
    stops_with (updated c.args.op (ctype_of c.args.ctype.now) (ctype_of c.args.right.now) m c.args.before c.args.v) (number_of c.in-Err.fault) (with_memory st m) (λ new st. remembered (store_place st.memory c.args.place new) (either c.args.old c.args.before new) st) k _ k c.in-Err.ensures (c.stopped.ensures.same p w (place_of h) (stack c.args.todo.now.items) (with_memory st m))
