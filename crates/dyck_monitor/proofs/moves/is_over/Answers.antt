use Rattle.std.proofs.Common.{◌≡◌, ◌≤◌, List, length, get_or, Contains, sym, subst, refl, arith}
use Rattle.std.proofs.lemmas.Bool.{false≢true, iff_false}
use Rattle.std.proofs.lemmas.List.{take_all}
use Rattle.std.proofs.lemmas.List.Elements.{Contains-get_or}
use Rattle.flow_model.specs.declared.records.ModelFunction.{ModelFunction}
use Rattle.dm_sets.specs.Nodes.{Has}
use Rattle.dyck_monitor.proofs.Edges.{function_at, none_more}
use Rattle.dyck_monitor.proofs.moves.is_over.Goals as goal

pub loop-function-init : goal.loop-function-init
loop-function-init g c = record { none = λ f entry exit has. absurd (omega (arith, has.1)); counted = omega arith }

pub returns-then-contains-clause-over : goal.returns-then-contains-clause-over
returns-then-contains-clause-over g c =
    let fs = c.args.functions.now in
    let i = c.loop-function.function-index in
    let one = c.index-functions-function.result in
    let is = subst (λ (ms : List ModelFunction). one ≡ get_or ms (get_or fs i 0) one) c.functions.ensures c.index-functions-function.is in
    let function = function_at c.args.model.now (get_or fs i 0) one (c.requires.functions i 0 c.loop-function-test.true) is in
    (λ _. (get_or fs i 0, one.entry, one.exit, Contains-get_or fs i 0 c.loop-function-test.true, function, c.contains.ensures.0 c.if-contains.true), λ _. refl)

pub loop-function-preserved : goal.loop-function-preserved
loop-function-preserved g c =
    let fs = c.args.functions.now in
    let i = c.loop-function.function-index in
    let one = c.index-functions-function.result in
    let is = subst (λ (ms : List ModelFunction). one ≡ get_or ms (get_or fs i 0) one) c.functions.ensures c.index-functions-function.is in
    let function = function_at c.args.model.now (get_or fs i 0) one (c.requires.functions i 0 c.loop-function-test.true) is in
    record {
      none = none_more c.args.model.now (Has c.args.nodes.now) fs i one.entry one.exit c.loop-function-test.true function (iff_false c.contains.ensures c.if-contains.false) c.loop-function.invariant.none;
      counted = omega (arith, c.tick.ensures, c.loop-function.invariant.counted);
    }

pub returns-clause-over : goal.returns-clause-over
returns-clause-over g c =
    let over : length c.args.functions.now ≤ c.loop-function.function-index = omega arith in (
      λ e. absurd (false≢true e),
      λ (f, entry, exit, has, function, is). absurd (c.loop-function.invariant.none f entry exit (subst (λ fs. Contains fs f) (sym (take_all c.loop-function.function-index c.args.functions.now over)) has) function is),
    )
