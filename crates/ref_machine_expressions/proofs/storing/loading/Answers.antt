use Rattle.std.proofs.Common.{true, arith}
use Rattle.std.proofs.lemmas.Result.{MatchResult-weaker}
use Rattle.c_tree.specs.View.{ctype_of, expr_of}
use Rattle.c_values.specs.Seen.{seen}
use Rattle.c_meaning.specs.Pointers.{load_place}
use Rattle.c_meaning.specs.Results.{with_memory, then_do}
use Rattle.ref_machine_frames.specs.Faults.{number_of}
use Rattle.ref_machine_frames.specs.Held.{eval}
use Rattle.ref_machine_frames.specs.Frames.{place_of, stack, after_value}
use Rattle.ref_machine_expressions.specs.Renewing.{renewing}
use Rattle.ref_machine_expressions.proofs.Following.{goes_on_with, stops_with}
use Rattle.ref_machine_expressions.proofs.storing.loading.Goals as goal

pub returns-in-Ok-clause-same : goal.returns-in-Ok-clause-same
returns-in-Ok-clause-same c =
    MatchResult-weaker c.wait.result c.wait.ensures.same (λ now same p h w st.
    let m = seen c.args.memory.now in
    goes_on_with (load_place m c.args.place) c.in-Ok.before (with_memory st m) (λ before st. then_do (eval p w (place_of h) true (expr_of c.args.right.now) st) (renewing c.args.op c.args.old (ctype_of c.args.ctype.now) (ctype_of c.args.right.now.ctype) c.args.place before)) (after_value p w (place_of h) (stack c.args.todo.now.items)) _ c.in-Ok.ensures (same p h m w st)) (λ error none. none)

pub returns-in-Err-clause-same : goal.returns-in-Err-clause-same
returns-in-Err-clause-same c p h w st =
    let m = seen c.args.memory.now in
    let k = after_value p w (place_of h) (stack c.args.todo.now.items) in
    stops_with (load_place m c.args.place) (number_of c.in-Err.fault) (with_memory st m) (λ before st. then_do (eval p w (place_of h) true (expr_of c.args.right.now) st) (renewing c.args.op c.args.old (ctype_of c.args.ctype.now) (ctype_of c.args.right.now.ctype) c.args.place before)) k _ k c.in-Err.ensures (c.stopped.ensures.same p w (place_of h) (stack c.args.todo.now.items) (with_memory st m))

pub returns-in-Ok-clause-less : goal.returns-in-Ok-clause-less
returns-in-Ok-clause-less c = MatchResult-weaker c.wait.result c.wait.ensures.less (λ now less. omega (arith, less)) (λ error none. none)
