use Rattle.std.proofs.Common.{◌≤◌, nat_eq, slice_get, ap, sym, ◌∙◌, subst, arith}
use Rattle.std.proofs.lemmas.Result.{MatchResult-weaker}
use Rattle.c_tree.specs.View.{program_of}
use Rattle.c_values.specs.Seen.{seen}
use Rattle.c_meaning.specs.Results.{then_do}
use Rattle.ref_machine_frames.specs.Frames.{place_of, stack, after_value}
use Rattle.ref_machine.specs.Standing.{state}
use Rattle.ref_machine.proofs.Turning.{few_enter, many_enter, no_function}
use Rattle.ref_machine.proofs.calls.enter.Goals as goal

pub returns-then-values-gt16-clause-entered : goal.returns-then-values-gt16-clause-entered
returns-then-values-gt16-clause-entered c w rs taken turns =
    let p = program_of c.args.program.now in
    many_enter p w (nat_eq c.args.f p.main) c.args.wanted (slice_get p.functions c.args.f) c.args.values.now (state (seen c.args.memory.now) c.args.entries.now rs taken turns) (after_value p w (place_of c.args.here.now) (stack c.args.todo.now.items)) (omega arith)

pub returns-then-f-count-clause-entered : goal.returns-then-f-count-clause-entered
returns-then-f-count-clause-entered c =
    MatchResult-weaker c.enter_defined.result c.enter_defined.ensures.entered (λ now entered w rs taken turns.
    let p = program_of c.args.program.now in
    entered w rs taken turns ∙ ap (λ r. then_do r (after_value p w (place_of c.args.here.now) (stack c.args.todo.now.items))) (sym (few_enter p w (nat_eq c.args.f p.main) c.args.wanted (slice_get p.functions c.args.f) c.args.values.now (state (seen c.args.memory.now) c.args.entries.now rs taken turns) (omega arith)))) (λ error none. none)

pub returns-clause-entered : goal.returns-clause-entered
returns-clause-entered c w rs taken turns =
    let p = program_of c.args.program.now in
    no_function p w (nat_eq c.args.f p.main) c.args.wanted c.args.f c.args.values.now (state (seen c.args.memory.now) c.args.entries.now rs taken turns) (after_value p w (place_of c.args.here.now) (stack c.args.todo.now.items)) (omega arith) (subst (λ n. n ≤ c.args.f) c.defined-count.ensures c.if-f-count.false)
