use Rattle.std.proofs.Common.{◌≡◌, ◌-◌, ◌<◌, length, get_or, Some, ap, ◌∙◌, arith}
use Rattle.std.proofs.lemmas.Option.{slice_get-get_or, get_or_from_slice_get}
use Rattle.flow_model.specs.declared.records.ModelFunction.{ModelFunction}
use Rattle.flow_model.proofs.ModelLemmas.{functions_few}
use Rattle.flow_model.proofs.OwnersLemmas.{ending_is_last}
use Rattle.flow_model.proofs.rules.function_ending_at.Goals as goal
use Rattle.flow_model.proofs.rules.function_ending_at.Goals.{else-begun-gt0-via-then-begun-gt0+else-functions-begun, else-begun-gt0-via-else-begun-gt0}

pub overflow_cast-result : goal.overflow_cast-result
overflow_cast-result c = let right = c.requires.entries in omega (arith, functions_few c.args.functions.now c.args.nodes right, right.few)

pub returns-then-functions-begun-clause-some : goal.returns-then-functions-begun-clause-some
returns-then-functions-begun-clause-some c =
    let within : c.count_begun-begun.result - 1 < length c.args.functions.now = omega (arith, c.if-begun-gt0.true, c.count_begun-begun.ensures.within) in
    record {
      one = get_or c.args.functions.now (c.count_begun-begun.result - 1) c.index-functions-begun.result;
      has = slice_get-get_or c.args.functions.now (c.count_begun-begun.result - 1) c.index-functions-begun.result within;
      ends = c.if-functions-begun.true;
    }

pub returns-then-functions-begun-clause-only : goal.returns-then-functions-begun-clause-only
returns-then-functions-begun-clause-only c = λ f ends.
    let last = ending_is_last c.args.functions.now c.args.nodes c.args.node c.count_begun-begun.result c.count_begun-begun.ensures.within c.count_begun-begun.ensures.before c.count_begun-begun.ensures.after c.requires.exits f ends in
    let same : c.count_begun-begun.result - 1 ≡ f = omega arith in
    ap Some same

pub returns-clause-only : goal.returns-clause-only
returns-clause-only c = λ f ends.
    let last = ending_is_last c.args.functions.now c.args.nodes c.args.node c.count_begun-begun.result c.count_begun-begun.ensures.within c.count_begun-begun.ensures.before c.count_begun-begun.ensures.after c.requires.exits f ends in
    elim c.else-begun-gt0.branch [
      | else-begun-gt0-via-then-begun-gt0+else-functions-begun w ↦
          let at : c.count_begun-begun.result - 1 ≡ f = omega arith in
          let one : get_or c.args.functions.now (c.count_begun-begun.result - 1) w.index-functions-begun.result ≡ ends.one = ap (λ k. get_or c.args.functions.now k w.index-functions-begun.result) at ∙ get_or_from_slice_get c.args.functions.now f ends.one w.index-functions-begun.result ends.has in
          absurd (w.if-functions-begun.false (ap (λ (m : ModelFunction). m.exit) one ∙ ends.ends))
      | else-begun-gt0-via-else-begun-gt0 w ↦ absurd (omega (arith, last, w.if-begun-gt0.false))
    ]
