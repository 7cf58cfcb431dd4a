use Rattle.std.proofs.Common.{true, ap, sym, ◌∙◌, ◌≡◌, ◌+◌, arith}
use Rattle.std.proofs.lemmas.Result.{MatchResult-weaker}
use Rattle.c_tree.specs.declared.value.Value.TheVariants.{Func}
use Rattle.c_tree.specs.declared.tree.TExpr.{TExpr}
use Rattle.c_tree.specs.Tree.{constant, function_name, string_place, variable, dereference, load, decay, discard, field, unary_operation, conversion, arithmetic, comparison, pointer_add, pointer_diff, conditional, and, or, assign, update, call, call_through}
use Rattle.c_tree.specs.View.{ctype_of, expr_of, expr_with, exprs_of, program_of}
use Rattle.c_tree.proofs.Rows.{comma_is, call_is, call_through_is}
use Rattle.c_values.specs.Seen.{seen}
use Rattle.c_meaning.specs.Results.{with_memory, then_do, answered}
use Rattle.ref_machine_frames.specs.Held.{eval, eval_each, whole}
use Rattle.ref_machine_frames.specs.declared.frames.Choice.TheVariants as choices
use Rattle.ref_machine_frames.specs.Frames.{place_of, stack, after_value, chosen}
use Rattle.ref_machine_expressions.proofs.Calling.{begun, begins, at_once, call_begins, through_begins, decay_begins, update_begins}
use Rattle.ref_machine_expressions.proofs.Following.{asked_first}
use Rattle.ref_machine_frames.specs.Work.{of_expr, of_exprs}
use Rattle.ref_machine_expressions.proofs.beginning.begin.Goals as goal

pub returns-in-Const-clause-same : goal.returns-in-Const-clause-same
returns-in-Const-clause-same c w st =
    let p = program_of c.args.program.now in
    let m = seen c.args.memory.now in
    let fr = place_of c.args.here in
    let t = ctype_of c.args.e.now.ctype in
    let k = after_value p w fr (stack c.args.todo.now.items) in
    begun p w fr c.args.wanted (constant t c.in-Const.value) (expr_of c.args.e.now) (with_memory st m) k _ (at_once c.in-Const.value (with_memory st m) k) (ap (expr_with t) (sym c.in-Const.is))

pub returns-in-Function-clause-same : goal.returns-in-Function-clause-same
returns-in-Function-clause-same c w st =
    let p = program_of c.args.program.now in
    let m = seen c.args.memory.now in
    let fr = place_of c.args.here in
    let t = ctype_of c.args.e.now.ctype in
    let k = after_value p w fr (stack c.args.todo.now.items) in
    begun p w fr c.args.wanted (function_name t c.in-Function.f) (expr_of c.args.e.now) (with_memory st m) k _ (at_once (Func c.in-Function.f) (with_memory st m) k) (ap (expr_with t) (sym c.in-Function.is))

pub returns-in-Deref-clause-same : goal.returns-in-Deref-clause-same
returns-in-Deref-clause-same c =
    let t = ctype_of c.args.e.now.ctype in
    let a = c.deref.result.now in
    begins c.wait.result (program_of c.args.program.now) c.args.here (seen c.args.memory.now) c.args.todo.now.items c.wait.new.todo.items c.args.wanted (dereference t (expr_of a)) (expr_of c.args.e.now) c.wait.ensures.same (ap (λ x. dereference t (expr_of x)) c.deref.ensures ∙ ap (expr_with t) (sym c.in-Deref.is))

pub returns-in-Load-clause-same : goal.returns-in-Load-clause-same
returns-in-Load-clause-same c =
    let t = ctype_of c.args.e.now.ctype in
    let a = c.deref-in-Load.result.now in
    begins c.wait-in-Load.result (program_of c.args.program.now) c.args.here (seen c.args.memory.now) c.args.todo.now.items c.wait-in-Load.new.todo.items c.args.wanted (load t (expr_of a)) (expr_of c.args.e.now) c.wait-in-Load.ensures.same (ap (λ x. load t (expr_of x)) c.deref-in-Load.ensures ∙ ap (expr_with t) (sym c.in-Load.is))

pub returns-in-Discard-clause-same : goal.returns-in-Discard-clause-same
returns-in-Discard-clause-same c =
    let t = ctype_of c.args.e.now.ctype in
    let a = c.deref-in-Discard.result.now in
    begins c.wait-in-Discard.result (program_of c.args.program.now) c.args.here (seen c.args.memory.now) c.args.todo.now.items c.wait-in-Discard.new.todo.items c.args.wanted (discard t (expr_of a)) (expr_of c.args.e.now) c.wait-in-Discard.ensures.same (ap (λ x. discard t (expr_of x)) c.deref-in-Discard.ensures ∙ ap (expr_with t) (sym c.in-Discard.is))

pub returns-in-Field-clause-same : goal.returns-in-Field-clause-same
returns-in-Field-clause-same c =
    let t = ctype_of c.args.e.now.ctype in
    let a = c.deref-in-Field.result.now in
    begins c.wait-in-Field.result (program_of c.args.program.now) c.args.here (seen c.args.memory.now) c.args.todo.now.items c.wait-in-Field.new.todo.items c.args.wanted (field t c.in-Field.first (expr_of a)) (expr_of c.args.e.now) c.wait-in-Field.ensures.same (ap (λ x. field t c.in-Field.first (expr_of x)) c.deref-in-Field.ensures ∙ ap (expr_with t) (sym c.in-Field.is))

pub returns-in-Unary-clause-same : goal.returns-in-Unary-clause-same
returns-in-Unary-clause-same c =
    let t = ctype_of c.args.e.now.ctype in
    let a = c.deref-in-Unary.result.now in
    begins c.wait-in-Unary.result (program_of c.args.program.now) c.args.here (seen c.args.memory.now) c.args.todo.now.items c.wait-in-Unary.new.todo.items c.args.wanted (unary_operation t c.in-Unary.op (expr_of a)) (expr_of c.args.e.now) c.wait-in-Unary.ensures.same (ap (λ x. unary_operation t c.in-Unary.op (expr_of x)) c.deref-in-Unary.ensures ∙ ap (expr_with t) (sym c.in-Unary.is))

pub returns-in-Convert-clause-same : goal.returns-in-Convert-clause-same
returns-in-Convert-clause-same c =
    let t = ctype_of c.args.e.now.ctype in
    let a = c.deref-in-Convert.result.now in
    begins c.wait-in-Convert.result (program_of c.args.program.now) c.args.here (seen c.args.memory.now) c.args.todo.now.items c.wait-in-Convert.new.todo.items c.args.wanted (conversion t c.in-Convert.to (expr_of a)) (expr_of c.args.e.now) c.wait-in-Convert.ensures.same (ap (λ x. conversion t c.in-Convert.to (expr_of x)) c.deref-in-Convert.ensures ∙ ap (expr_with t) (sym c.in-Convert.is))

pub returns-in-Arith-clause-same : goal.returns-in-Arith-clause-same
returns-in-Arith-clause-same c =
    let t = ctype_of c.args.e.now.ctype in
    let a = c.deref-in-Arith-2.result.now in
    let b = c.deref-in-Arith.result.now in
    begins c.wait-in-Arith.result (program_of c.args.program.now) c.args.here (seen c.args.memory.now) c.args.todo.now.items c.wait-in-Arith.new.todo.items c.args.wanted (arithmetic t c.in-Arith.op (expr_of a) (expr_of b)) (expr_of c.args.e.now) c.wait-in-Arith.ensures.same (ap (λ x. arithmetic t c.in-Arith.op (expr_of x) (expr_of b)) c.deref-in-Arith-2.ensures ∙ (ap (λ x. arithmetic t c.in-Arith.op (expr_of c.in-Arith.a.value) (expr_of x)) c.deref-in-Arith.ensures ∙ ap (expr_with t) (sym c.in-Arith.is)))

pub returns-in-Compare-clause-same : goal.returns-in-Compare-clause-same
returns-in-Compare-clause-same c =
    let t = ctype_of c.args.e.now.ctype in
    let a = c.deref-in-Compare-2.result.now in
    let b = c.deref-in-Compare.result.now in
    begins c.wait-in-Compare.result (program_of c.args.program.now) c.args.here (seen c.args.memory.now) c.args.todo.now.items c.wait-in-Compare.new.todo.items c.args.wanted (comparison t c.in-Compare.op (expr_of a) (expr_of b)) (expr_of c.args.e.now) c.wait-in-Compare.ensures.same (ap (λ x. comparison t c.in-Compare.op (expr_of x) (expr_of b)) c.deref-in-Compare-2.ensures ∙ (ap (λ x. comparison t c.in-Compare.op (expr_of c.in-Compare.a.value) (expr_of x)) c.deref-in-Compare.ensures ∙ ap (expr_with t) (sym c.in-Compare.is)))

pub returns-in-PointerAdd-clause-same : goal.returns-in-PointerAdd-clause-same
returns-in-PointerAdd-clause-same c =
    let t = ctype_of c.args.e.now.ctype in
    let a = c.deref-in-PointerAdd-2.result.now in
    let b = c.deref-in-PointerAdd.result.now in
    begins c.wait-in-PointerAdd.result (program_of c.args.program.now) c.args.here (seen c.args.memory.now) c.args.todo.now.items c.wait-in-PointerAdd.new.todo.items c.args.wanted (pointer_add t c.in-PointerAdd.pointer_first c.in-PointerAdd.subtracted (expr_of a) (expr_of b)) (expr_of c.args.e.now) c.wait-in-PointerAdd.ensures.same (ap (λ x. pointer_add t c.in-PointerAdd.pointer_first c.in-PointerAdd.subtracted (expr_of x) (expr_of b)) c.deref-in-PointerAdd-2.ensures ∙ (ap (λ x. pointer_add t c.in-PointerAdd.pointer_first c.in-PointerAdd.subtracted (expr_of c.in-PointerAdd.left.value) (expr_of x)) c.deref-in-PointerAdd.ensures ∙ ap (expr_with t) (sym c.in-PointerAdd.is)))

pub returns-in-PointerDiff-clause-same : goal.returns-in-PointerDiff-clause-same
returns-in-PointerDiff-clause-same c =
    let t = ctype_of c.args.e.now.ctype in
    let a = c.deref-in-PointerDiff-2.result.now in
    let b = c.deref-in-PointerDiff.result.now in
    begins c.wait-in-PointerDiff.result (program_of c.args.program.now) c.args.here (seen c.args.memory.now) c.args.todo.now.items c.wait-in-PointerDiff.new.todo.items c.args.wanted (pointer_diff t (expr_of a) (expr_of b)) (expr_of c.args.e.now) c.wait-in-PointerDiff.ensures.same (ap (λ x. pointer_diff t (expr_of x) (expr_of b)) c.deref-in-PointerDiff-2.ensures ∙ (ap (λ x. pointer_diff t (expr_of c.in-PointerDiff.a.value) (expr_of x)) c.deref-in-PointerDiff.ensures ∙ ap (expr_with t) (sym c.in-PointerDiff.is)))

pub returns-in-Assign-clause-same : goal.returns-in-Assign-clause-same
returns-in-Assign-clause-same c =
    let t = ctype_of c.args.e.now.ctype in
    let a = c.deref-in-Assign-2.result.now in
    let b = c.deref-in-Assign.result.now in
    begins c.wait-in-Assign.result (program_of c.args.program.now) c.args.here (seen c.args.memory.now) c.args.todo.now.items c.wait-in-Assign.new.todo.items c.args.wanted (assign t (expr_of a) (expr_of b)) (expr_of c.args.e.now) c.wait-in-Assign.ensures.same (ap (λ x. assign t (expr_of x) (expr_of b)) c.deref-in-Assign-2.ensures ∙ (ap (λ x. assign t (expr_of c.in-Assign.a.value) (expr_of x)) c.deref-in-Assign.ensures ∙ ap (expr_with t) (sym c.in-Assign.is)))

pub returns-in-Comma-clause-same : goal.returns-in-Comma-clause-same
returns-in-Comma-clause-same c =
    MatchResult-weaker c.members.result c.members.ensures.same (λ now same w st.
    let p = program_of c.args.program.now in
    let m = seen c.args.memory.now in
    let fr = place_of c.args.here in
    let t = ctype_of c.args.e.now.ctype in
    let k = after_value p w fr (stack c.args.todo.now.items) in
    same p c.args.here m w st
    ∙ (ap (λ es. then_do (eval_each p w fr c.args.wanted (exprs_of es) (with_memory st m)) k) c.deref-in-Comma.ensures.value
    ∙ ap (λ e. then_do (eval p w fr c.args.wanted e (with_memory st m)) k) (sym (ap (expr_with t) c.in-Comma.is ∙ comma_is t _)))) (λ error none. none)

pub returns-in-Call-clause-same : goal.returns-in-Call-clause-same
returns-in-Call-clause-same c =
    MatchResult-weaker c.arguments.result c.arguments.ensures.same (λ now same w st.
    let p = program_of c.args.program.now in
    let m = seen c.args.memory.now in
    let fr = place_of c.args.here in
    let t = ctype_of c.args.e.now.ctype in
    let k = after_value p w fr (stack c.args.todo.now.items) in
    begun p w fr c.args.wanted (call t c.in-Call._site c.in-Call.function (exprs_of c.in-Call.left.items)) (expr_of c.args.e.now) (with_memory st m) k _ (call_begins p w fr c.args.wanted t c.in-Call._site c.in-Call.function (exprs_of c.deref-in-Call.result.now) (exprs_of c.in-Call.left.items) (with_memory st m) k _ c.wants-wanted.result c.new-none.result.items c.wants-wanted.ensures c.new-none.ensures.items (ap exprs_of c.deref-in-Call.ensures.value) (same c.args.here w st)) (sym (ap (expr_with t) c.in-Call.is ∙ call_is t c.in-Call._site c.in-Call.function c.in-Call.left))) (λ error none. none)

pub returns-in-CallThrough-clause-same : goal.returns-in-CallThrough-clause-same
returns-in-CallThrough-clause-same c =
    MatchResult-weaker c.wait-in-CallThrough.result c.wait-in-CallThrough.ensures.same (λ now same w st.
    let p = program_of c.args.program.now in
    let m = seen c.args.memory.now in
    let fr = place_of c.args.here in
    let t = ctype_of c.args.e.now.ctype in
    let k = after_value p w fr (stack c.args.todo.now.items) in
    begun p w fr c.args.wanted (call_through t c.in-CallThrough._site (expr_of c.in-CallThrough.designator.value) (exprs_of c.in-CallThrough.left.items)) (expr_of c.args.e.now) (with_memory st m) k _ (through_begins p w fr c.args.wanted t c.in-CallThrough._site (expr_of c.deref-in-CallThrough-2.result.now) (expr_of c.in-CallThrough.designator.value) (exprs_of c.deref-in-CallThrough.result.now) (exprs_of c.in-CallThrough.left.items) (with_memory st m) k _ c.wants.result c.wants.ensures (ap expr_of c.deref-in-CallThrough-2.ensures) (ap exprs_of c.deref-in-CallThrough.ensures.value) (same p c.args.here m w st)) (sym (ap (expr_with t) c.in-CallThrough.is ∙ call_through_is t c.in-CallThrough._site c.in-CallThrough.designator c.in-CallThrough.left))) (λ error none. none)

pub returns-in-StringPlace-clause-same : goal.returns-in-StringPlace-clause-same
returns-in-StringPlace-clause-same c w st =
    let p = program_of c.args.program.now in
    let m = seen c.args.memory.now in
    let fr = place_of c.args.here in
    let t = ctype_of c.args.e.now.ctype in
    let k = after_value p w fr (stack c.args.todo.now.items) in
    begun p w fr c.args.wanted (string_place t c.in-StringPlace.number) (expr_of c.args.e.now) (with_memory st m) k _ (c.given.ensures.same p w fr (stack c.args.todo.now.items) (with_memory st m) ∙ (ap (λ a. then_do (answered a (with_memory st m)) k) (c.whole.ensures p.structs c.requires) ∙ ap (λ x. then_do (answered (whole p.structs x t) (with_memory st m)) k) c.name_in.ensures)) (ap (expr_with t) (sym c.in-StringPlace.is))

pub returns-in-Variable-clause-same : goal.returns-in-Variable-clause-same
returns-in-Variable-clause-same c w st =
    let p = program_of c.args.program.now in
    let m = seen c.args.memory.now in
    let fr = place_of c.args.here in
    let t = ctype_of c.args.e.now.ctype in
    let k = after_value p w fr (stack c.args.todo.now.items) in
    begun p w fr c.args.wanted (variable t c.in-Variable.is_static c.in-Variable.number) (expr_of c.args.e.now) (with_memory st m) k _ (c.given-in-Variable.ensures.same p w fr (stack c.args.todo.now.items) (with_memory st m) ∙ (ap (λ a. then_do (answered a (with_memory st m)) k) (c.whole-in-Variable.ensures p.structs c.requires) ∙ ap (λ x. then_do (answered (whole p.structs x t) (with_memory st m)) k) c.name_in-in-Variable.ensures)) (ap (expr_with t) (sym c.in-Variable.is))

pub returns-in-And-clause-same : goal.returns-in-And-clause-same
returns-in-And-clause-same c =
    MatchResult-weaker c.wait-in-And.result c.wait-in-And.ensures.same (λ now same w st.
    let p = program_of c.args.program.now in
    let m = seen c.args.memory.now in
    let fr = place_of c.args.here in
    let t = ctype_of c.args.e.now.ctype in
    let k = after_value p w fr (stack c.args.todo.now.items) in
    let a = c.deref-in-And.result.now in
    let b = c.deref-in-And-2.result.now in
    begun p w fr c.args.wanted (and t (expr_of b) (expr_of a)) (expr_of c.args.e.now) (with_memory st m) k _ (asked_first (eval p w fr true (expr_of b) (with_memory st m)) (chosen p w fr (choices.And c.deref-in-And.result)) k _ (same p c.args.here m w st)) (ap (λ a. and t (expr_of b) (expr_of a)) c.deref-in-And.ensures ∙ (ap (λ x. and t (expr_of x) (expr_of c.in-And.b.value)) c.deref-in-And-2.ensures ∙ ap (expr_with t) (sym c.in-And.is)))) (λ error none. none)

pub returns-in-Or-clause-same : goal.returns-in-Or-clause-same
returns-in-Or-clause-same c =
    MatchResult-weaker c.wait-in-Or.result c.wait-in-Or.ensures.same (λ now same w st.
    let p = program_of c.args.program.now in
    let m = seen c.args.memory.now in
    let fr = place_of c.args.here in
    let t = ctype_of c.args.e.now.ctype in
    let k = after_value p w fr (stack c.args.todo.now.items) in
    let a = c.deref-in-Or.result.now in
    let b = c.deref-in-Or-2.result.now in
    begun p w fr c.args.wanted (or t (expr_of b) (expr_of a)) (expr_of c.args.e.now) (with_memory st m) k _ (asked_first (eval p w fr true (expr_of b) (with_memory st m)) (chosen p w fr (choices.Or c.deref-in-Or.result)) k _ (same p c.args.here m w st)) (ap (λ a. or t (expr_of b) (expr_of a)) c.deref-in-Or.ensures ∙ (ap (λ x. or t (expr_of x) (expr_of c.in-Or.b.value)) c.deref-in-Or-2.ensures ∙ ap (expr_with t) (sym c.in-Or.is)))) (λ error none. none)

pub returns-in-Decay-clause-same : goal.returns-in-Decay-clause-same
returns-in-Decay-clause-same c =
    MatchResult-weaker c.wait-in-Decay.result c.wait-in-Decay.ensures.same (λ now same w st.
    let p = program_of c.args.program.now in
    let m = seen c.args.memory.now in
    let fr = place_of c.args.here in
    let t = ctype_of c.args.e.now.ctype in
    let k = after_value p w fr (stack c.args.todo.now.items) in
    let a = c.deref-in-Decay-2.result.now in
    begun p w fr c.args.wanted (decay t (expr_of a)) (expr_of c.args.e.now) (with_memory st m) k _ (decay_begins p w fr c.args.wanted t a (ctype_of c.deref-in-Decay.result.now.ctype) (with_memory st m) k _ (ap (λ (x : TExpr). ctype_of x.ctype) (c.deref-in-Decay.ensures ∙ sym c.deref-in-Decay-2.ensures)) (same p c.args.here m w st)) (ap (λ x. decay t (expr_of x)) c.deref-in-Decay-2.ensures ∙ ap (expr_with t) (sym c.in-Decay.is))) (λ error none. none)

pub returns-in-Update-clause-same : goal.returns-in-Update-clause-same
returns-in-Update-clause-same c =
    MatchResult-weaker c.wait-in-Update.result c.wait-in-Update.ensures.same (λ now same w st.
    let p = program_of c.args.program.now in
    let m = seen c.args.memory.now in
    let fr = place_of c.args.here in
    let t = ctype_of c.args.e.now.ctype in
    let k = after_value p w fr (stack c.args.todo.now.items) in
    let a = c.deref-in-Update-2.result.now in
    let b = c.deref-in-Update.result.now in
    begun p w fr c.args.wanted (update t c.in-Update.op c.in-Update.old (expr_of a) (expr_of b)) (expr_of c.args.e.now) (with_memory st m) k _ (update_begins p w fr c.args.wanted t c.in-Update.op c.in-Update.old (expr_of a) b (with_memory st m) k _ (same p c.args.here m w st)) (ap (λ x. update t c.in-Update.op c.in-Update.old (expr_of x) (expr_of b)) c.deref-in-Update-2.ensures ∙ (ap (λ x. update t c.in-Update.op c.in-Update.old (expr_of c.in-Update.place.value) (expr_of x)) c.deref-in-Update.ensures ∙ ap (expr_with t) (sym c.in-Update.is)))) (λ error none. none)

pub returns-in-Cond-clause-same : goal.returns-in-Cond-clause-same
returns-in-Cond-clause-same c =
    MatchResult-weaker c.wait-in-Cond.result c.wait-in-Cond.ensures.same (λ now same w st.
    let p = program_of c.args.program.now in
    let m = seen c.args.memory.now in
    let fr = place_of c.args.here in
    let t = ctype_of c.args.e.now.ctype in
    let k = after_value p w fr (stack c.args.todo.now.items) in
    let a = c.deref-in-Cond.result in
    let b = c.deref-in-Cond-2.result in
    let e = c.deref-in-Cond-3.result.now in
    begun p w fr c.args.wanted (conditional t (expr_of e) (expr_of a.now) (expr_of b.now)) (expr_of c.args.e.now) (with_memory st m) k _ (asked_first (eval p w fr true (expr_of e) (with_memory st m)) (chosen p w fr (choices.Cond true a b)) k _ (same p c.args.here m w st)) (ap (λ x. conditional t (expr_of x) (expr_of a.now) (expr_of b.now)) c.deref-in-Cond-3.ensures ∙ (ap (λ x. conditional t (expr_of c.in-Cond.test.value) (expr_of x) (expr_of b.now)) c.deref-in-Cond.ensures ∙ (ap (λ x. conditional t (expr_of c.in-Cond.test.value) (expr_of c.in-Cond.yes.value) (expr_of x)) c.deref-in-Cond-2.ensures ∙ ap (expr_with t) (sym c.in-Cond.is))))) (λ error none. none)

pub returns-in-Const-clause-less : goal.returns-in-Const-clause-less
returns-in-Const-clause-less c =
    let is : of_expr (expr_of c.args.e.now) ≡ 1 = ap (λ k. of_expr (expr_with (ctype_of c.args.e.now.ctype) k)) c.in-Const.is in
    omega (arith, is)

pub returns-in-Function-clause-less : goal.returns-in-Function-clause-less
returns-in-Function-clause-less c =
    let is : of_expr (expr_of c.args.e.now) ≡ 1 = ap (λ k. of_expr (expr_with (ctype_of c.args.e.now.ctype) k)) c.in-Function.is in
    omega (arith, is)

pub returns-in-StringPlace-clause-less : goal.returns-in-StringPlace-clause-less
returns-in-StringPlace-clause-less c =
    let is : of_expr (expr_of c.args.e.now) ≡ 1 = ap (λ k. of_expr (expr_with (ctype_of c.args.e.now.ctype) k)) c.in-StringPlace.is in
    omega (arith, is, c.given.ensures.done)

pub returns-in-Variable-clause-less : goal.returns-in-Variable-clause-less
returns-in-Variable-clause-less c =
    let is : of_expr (expr_of c.args.e.now) ≡ 1 = ap (λ k. of_expr (expr_with (ctype_of c.args.e.now.ctype) k)) c.in-Variable.is in
    omega (arith, is, c.given-in-Variable.ensures.done)

pub returns-in-Deref-clause-less : goal.returns-in-Deref-clause-less
returns-in-Deref-clause-less c =
    let is : of_expr (expr_of c.args.e.now) ≡ 2 + of_expr (expr_of c.in-Deref.a.value) = ap (λ k. of_expr (expr_with (ctype_of c.args.e.now.ctype) k)) c.in-Deref.is in
    let d1 : of_expr (expr_of c.deref.result.now) ≡ of_expr (expr_of c.in-Deref.a.value) = ap (λ (x : TExpr). of_expr (expr_of x)) c.deref.ensures in
    MatchResult-weaker c.wait.result c.wait.ensures.less (λ now less. omega (arith, is, d1, less)) (λ error none. none)

pub returns-in-Load-clause-less : goal.returns-in-Load-clause-less
returns-in-Load-clause-less c =
    let is : of_expr (expr_of c.args.e.now) ≡ 2 + of_expr (expr_of c.in-Load.a.value) = ap (λ k. of_expr (expr_with (ctype_of c.args.e.now.ctype) k)) c.in-Load.is in
    let d1 : of_expr (expr_of c.deref-in-Load.result.now) ≡ of_expr (expr_of c.in-Load.a.value) = ap (λ (x : TExpr). of_expr (expr_of x)) c.deref-in-Load.ensures in
    MatchResult-weaker c.wait-in-Load.result c.wait-in-Load.ensures.less (λ now less. omega (arith, is, d1, less)) (λ error none. none)

pub returns-in-Discard-clause-less : goal.returns-in-Discard-clause-less
returns-in-Discard-clause-less c =
    let is : of_expr (expr_of c.args.e.now) ≡ 2 + of_expr (expr_of c.in-Discard.a.value) = ap (λ k. of_expr (expr_with (ctype_of c.args.e.now.ctype) k)) c.in-Discard.is in
    let d1 : of_expr (expr_of c.deref-in-Discard.result.now) ≡ of_expr (expr_of c.in-Discard.a.value) = ap (λ (x : TExpr). of_expr (expr_of x)) c.deref-in-Discard.ensures in
    MatchResult-weaker c.wait-in-Discard.result c.wait-in-Discard.ensures.less (λ now less. omega (arith, is, d1, less)) (λ error none. none)

pub returns-in-Field-clause-less : goal.returns-in-Field-clause-less
returns-in-Field-clause-less c =
    let is : of_expr (expr_of c.args.e.now) ≡ 2 + of_expr (expr_of c.in-Field.a.value) = ap (λ k. of_expr (expr_with (ctype_of c.args.e.now.ctype) k)) c.in-Field.is in
    let d1 : of_expr (expr_of c.deref-in-Field.result.now) ≡ of_expr (expr_of c.in-Field.a.value) = ap (λ (x : TExpr). of_expr (expr_of x)) c.deref-in-Field.ensures in
    MatchResult-weaker c.wait-in-Field.result c.wait-in-Field.ensures.less (λ now less. omega (arith, is, d1, less)) (λ error none. none)

pub returns-in-Unary-clause-less : goal.returns-in-Unary-clause-less
returns-in-Unary-clause-less c =
    let is : of_expr (expr_of c.args.e.now) ≡ 2 + of_expr (expr_of c.in-Unary.a.value) = ap (λ k. of_expr (expr_with (ctype_of c.args.e.now.ctype) k)) c.in-Unary.is in
    let d1 : of_expr (expr_of c.deref-in-Unary.result.now) ≡ of_expr (expr_of c.in-Unary.a.value) = ap (λ (x : TExpr). of_expr (expr_of x)) c.deref-in-Unary.ensures in
    MatchResult-weaker c.wait-in-Unary.result c.wait-in-Unary.ensures.less (λ now less. omega (arith, is, d1, less)) (λ error none. none)

pub returns-in-Convert-clause-less : goal.returns-in-Convert-clause-less
returns-in-Convert-clause-less c =
    let is : of_expr (expr_of c.args.e.now) ≡ 2 + of_expr (expr_of c.in-Convert.a.value) = ap (λ k. of_expr (expr_with (ctype_of c.args.e.now.ctype) k)) c.in-Convert.is in
    let d1 : of_expr (expr_of c.deref-in-Convert.result.now) ≡ of_expr (expr_of c.in-Convert.a.value) = ap (λ (x : TExpr). of_expr (expr_of x)) c.deref-in-Convert.ensures in
    MatchResult-weaker c.wait-in-Convert.result c.wait-in-Convert.ensures.less (λ now less. omega (arith, is, d1, less)) (λ error none. none)

pub returns-in-Decay-clause-less : goal.returns-in-Decay-clause-less
returns-in-Decay-clause-less c =
    let is : of_expr (expr_of c.args.e.now) ≡ 2 + of_expr (expr_of c.in-Decay.a.value) = ap (λ k. of_expr (expr_with (ctype_of c.args.e.now.ctype) k)) c.in-Decay.is in
    let d2 : of_expr (expr_of c.deref-in-Decay-2.result.now) ≡ of_expr (expr_of c.in-Decay.a.value) = ap (λ (x : TExpr). of_expr (expr_of x)) c.deref-in-Decay-2.ensures in
    MatchResult-weaker c.wait-in-Decay.result c.wait-in-Decay.ensures.less (λ now less. omega (arith, is, d2, less)) (λ error none. none)

pub returns-in-AddressOf-clause-less : goal.returns-in-AddressOf-clause-less
returns-in-AddressOf-clause-less c =
    let is : of_expr (expr_of c.args.e.now) ≡ 2 + of_expr (expr_of c.in-AddressOf.a.value) = ap (λ k. of_expr (expr_with (ctype_of c.args.e.now.ctype) k)) c.in-AddressOf.is in
    let d1 : of_expr (expr_of c.deref-in-AddressOf.result.now) ≡ of_expr (expr_of c.in-AddressOf.a.value) = ap (λ (x : TExpr). of_expr (expr_of x)) c.deref-in-AddressOf.ensures in
    omega (arith, is, d1)

pub returns-in-Arith-clause-less : goal.returns-in-Arith-clause-less
returns-in-Arith-clause-less c =
    let is : of_expr (expr_of c.args.e.now) ≡ 3 + (of_expr (expr_of c.in-Arith.a.value) + of_expr (expr_of c.in-Arith.b.value)) = ap (λ k. of_expr (expr_with (ctype_of c.args.e.now.ctype) k)) c.in-Arith.is in
    let d1 : of_expr (expr_of c.deref-in-Arith.result.now) ≡ of_expr (expr_of c.in-Arith.b.value) = ap (λ (x : TExpr). of_expr (expr_of x)) c.deref-in-Arith.ensures in
    let d2 : of_expr (expr_of c.deref-in-Arith-2.result.now) ≡ of_expr (expr_of c.in-Arith.a.value) = ap (λ (x : TExpr). of_expr (expr_of x)) c.deref-in-Arith-2.ensures in
    MatchResult-weaker c.wait-in-Arith.result c.wait-in-Arith.ensures.less (λ now less. omega (arith, is, d1, d2, less)) (λ error none. none)

pub returns-in-Compare-clause-less : goal.returns-in-Compare-clause-less
returns-in-Compare-clause-less c =
    let is : of_expr (expr_of c.args.e.now) ≡ 3 + (of_expr (expr_of c.in-Compare.a.value) + of_expr (expr_of c.in-Compare.b.value)) = ap (λ k. of_expr (expr_with (ctype_of c.args.e.now.ctype) k)) c.in-Compare.is in
    let d1 : of_expr (expr_of c.deref-in-Compare.result.now) ≡ of_expr (expr_of c.in-Compare.b.value) = ap (λ (x : TExpr). of_expr (expr_of x)) c.deref-in-Compare.ensures in
    let d2 : of_expr (expr_of c.deref-in-Compare-2.result.now) ≡ of_expr (expr_of c.in-Compare.a.value) = ap (λ (x : TExpr). of_expr (expr_of x)) c.deref-in-Compare-2.ensures in
    MatchResult-weaker c.wait-in-Compare.result c.wait-in-Compare.ensures.less (λ now less. omega (arith, is, d1, d2, less)) (λ error none. none)

pub returns-in-PointerDiff-clause-less : goal.returns-in-PointerDiff-clause-less
returns-in-PointerDiff-clause-less c =
    let is : of_expr (expr_of c.args.e.now) ≡ 3 + (of_expr (expr_of c.in-PointerDiff.a.value) + of_expr (expr_of c.in-PointerDiff.b.value)) = ap (λ k. of_expr (expr_with (ctype_of c.args.e.now.ctype) k)) c.in-PointerDiff.is in
    let d1 : of_expr (expr_of c.deref-in-PointerDiff.result.now) ≡ of_expr (expr_of c.in-PointerDiff.b.value) = ap (λ (x : TExpr). of_expr (expr_of x)) c.deref-in-PointerDiff.ensures in
    let d2 : of_expr (expr_of c.deref-in-PointerDiff-2.result.now) ≡ of_expr (expr_of c.in-PointerDiff.a.value) = ap (λ (x : TExpr). of_expr (expr_of x)) c.deref-in-PointerDiff-2.ensures in
    MatchResult-weaker c.wait-in-PointerDiff.result c.wait-in-PointerDiff.ensures.less (λ now less. omega (arith, is, d1, d2, less)) (λ error none. none)

pub returns-in-And-clause-less : goal.returns-in-And-clause-less
returns-in-And-clause-less c =
    let is : of_expr (expr_of c.args.e.now) ≡ 3 + (of_expr (expr_of c.in-And.a.value) + of_expr (expr_of c.in-And.b.value)) = ap (λ k. of_expr (expr_with (ctype_of c.args.e.now.ctype) k)) c.in-And.is in
    let d1 : of_expr (expr_of c.deref-in-And.result.now) ≡ of_expr (expr_of c.in-And.b.value) = ap (λ (x : TExpr). of_expr (expr_of x)) c.deref-in-And.ensures in
    let d2 : of_expr (expr_of c.deref-in-And-2.result.now) ≡ of_expr (expr_of c.in-And.a.value) = ap (λ (x : TExpr). of_expr (expr_of x)) c.deref-in-And-2.ensures in
    MatchResult-weaker c.wait-in-And.result c.wait-in-And.ensures.less (λ now less. omega (arith, is, d1, d2, less)) (λ error none. none)

pub returns-in-Or-clause-less : goal.returns-in-Or-clause-less
returns-in-Or-clause-less c =
    let is : of_expr (expr_of c.args.e.now) ≡ 3 + (of_expr (expr_of c.in-Or.a.value) + of_expr (expr_of c.in-Or.b.value)) = ap (λ k. of_expr (expr_with (ctype_of c.args.e.now.ctype) k)) c.in-Or.is in
    let d1 : of_expr (expr_of c.deref-in-Or.result.now) ≡ of_expr (expr_of c.in-Or.b.value) = ap (λ (x : TExpr). of_expr (expr_of x)) c.deref-in-Or.ensures in
    let d2 : of_expr (expr_of c.deref-in-Or-2.result.now) ≡ of_expr (expr_of c.in-Or.a.value) = ap (λ (x : TExpr). of_expr (expr_of x)) c.deref-in-Or-2.ensures in
    MatchResult-weaker c.wait-in-Or.result c.wait-in-Or.ensures.less (λ now less. omega (arith, is, d1, d2, less)) (λ error none. none)

pub returns-in-Assign-clause-less : goal.returns-in-Assign-clause-less
returns-in-Assign-clause-less c =
    let is : of_expr (expr_of c.args.e.now) ≡ 3 + (of_expr (expr_of c.in-Assign.a.value) + of_expr (expr_of c.in-Assign.b.value)) = ap (λ k. of_expr (expr_with (ctype_of c.args.e.now.ctype) k)) c.in-Assign.is in
    let d1 : of_expr (expr_of c.deref-in-Assign.result.now) ≡ of_expr (expr_of c.in-Assign.b.value) = ap (λ (x : TExpr). of_expr (expr_of x)) c.deref-in-Assign.ensures in
    let d2 : of_expr (expr_of c.deref-in-Assign-2.result.now) ≡ of_expr (expr_of c.in-Assign.a.value) = ap (λ (x : TExpr). of_expr (expr_of x)) c.deref-in-Assign-2.ensures in
    MatchResult-weaker c.wait-in-Assign.result c.wait-in-Assign.ensures.less (λ now less. omega (arith, is, d1, d2, less)) (λ error none. none)

pub returns-in-PointerAdd-clause-less : goal.returns-in-PointerAdd-clause-less
returns-in-PointerAdd-clause-less c =
    let is : of_expr (expr_of c.args.e.now) ≡ 3 + (of_expr (expr_of c.in-PointerAdd.left.value) + of_expr (expr_of c.in-PointerAdd.right.value)) = ap (λ k. of_expr (expr_with (ctype_of c.args.e.now.ctype) k)) c.in-PointerAdd.is in
    let d1 : of_expr (expr_of c.deref-in-PointerAdd.result.now) ≡ of_expr (expr_of c.in-PointerAdd.right.value) = ap (λ (x : TExpr). of_expr (expr_of x)) c.deref-in-PointerAdd.ensures in
    let d2 : of_expr (expr_of c.deref-in-PointerAdd-2.result.now) ≡ of_expr (expr_of c.in-PointerAdd.left.value) = ap (λ (x : TExpr). of_expr (expr_of x)) c.deref-in-PointerAdd-2.ensures in
    MatchResult-weaker c.wait-in-PointerAdd.result c.wait-in-PointerAdd.ensures.less (λ now less. omega (arith, is, d1, d2, less)) (λ error none. none)

pub returns-in-Update-clause-less : goal.returns-in-Update-clause-less
returns-in-Update-clause-less c =
    let is : of_expr (expr_of c.args.e.now) ≡ 3 + (of_expr (expr_of c.in-Update.place.value) + of_expr (expr_of c.in-Update.value.value)) = ap (λ k. of_expr (expr_with (ctype_of c.args.e.now.ctype) k)) c.in-Update.is in
    let d1 : of_expr (expr_of c.deref-in-Update.result.now) ≡ of_expr (expr_of c.in-Update.value.value) = ap (λ (x : TExpr). of_expr (expr_of x)) c.deref-in-Update.ensures in
    let d2 : of_expr (expr_of c.deref-in-Update-2.result.now) ≡ of_expr (expr_of c.in-Update.place.value) = ap (λ (x : TExpr). of_expr (expr_of x)) c.deref-in-Update-2.ensures in
    MatchResult-weaker c.wait-in-Update.result c.wait-in-Update.ensures.less (λ now less. omega (arith, is, d1, d2, less)) (λ error none. none)

pub returns-in-Cond-clause-less : goal.returns-in-Cond-clause-less
returns-in-Cond-clause-less c =
    let is : of_expr (expr_of c.args.e.now) ≡ 2 + (of_expr (expr_of c.in-Cond.test.value) + (of_expr (expr_of c.in-Cond.yes.value) + of_expr (expr_of c.in-Cond.no.value))) = ap (λ k. of_expr (expr_with (ctype_of c.args.e.now.ctype) k)) c.in-Cond.is in
    let d1 : of_expr (expr_of c.deref-in-Cond.result.now) ≡ of_expr (expr_of c.in-Cond.yes.value) = ap (λ (x : TExpr). of_expr (expr_of x)) c.deref-in-Cond.ensures in
    let d2 : of_expr (expr_of c.deref-in-Cond-2.result.now) ≡ of_expr (expr_of c.in-Cond.no.value) = ap (λ (x : TExpr). of_expr (expr_of x)) c.deref-in-Cond-2.ensures in
    let d3 : of_expr (expr_of c.deref-in-Cond-3.result.now) ≡ of_expr (expr_of c.in-Cond.test.value) = ap (λ (x : TExpr). of_expr (expr_of x)) c.deref-in-Cond-3.ensures in
    MatchResult-weaker c.wait-in-Cond.result c.wait-in-Cond.ensures.less (λ now less. omega (arith, is, d1, d2, d3, less)) (λ error none. none)

pub returns-in-Comma-clause-less : goal.returns-in-Comma-clause-less
returns-in-Comma-clause-less c =
    let is : of_expr (expr_of c.args.e.now) ≡ 1 + of_exprs (exprs_of c.in-Comma.es.items) = ap of_expr (ap (expr_with (ctype_of c.args.e.now.ctype)) c.in-Comma.is ∙ comma_is (ctype_of c.args.e.now.ctype) _) in
    let same : of_exprs (exprs_of c.deref-in-Comma.result.now) ≡ of_exprs (exprs_of c.in-Comma.es.items) = ap (λ es. of_exprs (exprs_of es)) c.deref-in-Comma.ensures.value in
    MatchResult-weaker c.members.result c.members.ensures.less (λ now less. omega (arith, is, same, less)) (λ error none. none)

pub returns-in-Call-clause-less : goal.returns-in-Call-clause-less
returns-in-Call-clause-less c =
    let is : of_expr (expr_of c.args.e.now) ≡ 2 + of_exprs (exprs_of c.in-Call.left.items) = ap of_expr (ap (expr_with (ctype_of c.args.e.now.ctype)) c.in-Call.is ∙ call_is (ctype_of c.args.e.now.ctype) _ _ _) in
    let same : of_exprs (exprs_of c.deref-in-Call.result.now) ≡ of_exprs (exprs_of c.in-Call.left.items) = ap (λ es. of_exprs (exprs_of es)) c.deref-in-Call.ensures.value in
    MatchResult-weaker c.arguments.result c.arguments.ensures.less (λ now less. omega (arith, is, same, less)) (λ error none. none)

pub returns-in-CallThrough-clause-less : goal.returns-in-CallThrough-clause-less
returns-in-CallThrough-clause-less c =
    let is : of_expr (expr_of c.args.e.now) ≡ 3 + (of_expr (expr_of c.in-CallThrough.designator.value) + of_exprs (exprs_of c.in-CallThrough.left.items)) = ap of_expr (ap (expr_with (ctype_of c.args.e.now.ctype)) c.in-CallThrough.is ∙ call_through_is (ctype_of c.args.e.now.ctype) _ c.in-CallThrough.designator c.in-CallThrough.left) in
    let same : of_exprs (exprs_of c.deref-in-CallThrough.result.now) ≡ of_exprs (exprs_of c.in-CallThrough.left.items) = ap (λ es. of_exprs (exprs_of es)) c.deref-in-CallThrough.ensures.value in
    let d2 : of_expr (expr_of c.deref-in-CallThrough-2.result.now) ≡ of_expr (expr_of c.in-CallThrough.designator.value) = ap (λ (x : TExpr). of_expr (expr_of x)) c.deref-in-CallThrough-2.ensures in
    MatchResult-weaker c.wait-in-CallThrough.result c.wait-in-CallThrough.ensures.less (λ now less. omega (arith, is, same, d2, less)) (λ error none. none)
