use Rattle.std.proofs.Common.{◌≤◌, length, take, get_or, Contains, subst, arith}
use Rattle.std.proofs.lemmas.List.{get_or_default, take_all}
use Rattle.std.proofs.lemmas.List.Elements.{Contains-get_or}
use Rattle.inline_model.specs.Searching.{Completes}
use Rattle.inline_model.proofs.HeightLemmas.{completes_more, completes_none, ready_still, stays_same, stays_then}
use Rattle.inline_model.proofs.reading.complete_each.Goals as goal

pub loop-function-init : goal.loop-function-init
loop-function-init c = record {
  completes = λ g are right. completes_none {F = Contains (take 0 c.args.functions.now)} g c.args.heights.now right (λ f has. omega (arith, has.1));
  stays = stays_same c.args.heights.now c.requires.low;
}

pub complete_one-requires-clause-ready : goal.complete_one-requires-clause-ready
complete_one-requires-clause-ready c =
    let functions = c.args.functions.now in
    let k = c.loop-function.function-index in
    let f = get_or functions k 0 in
    ready_still c.args.entries.now c.args.heights.now c.loop-function.heights f c.loop-function.invariant.stays (c.requires.ready f (Contains-get_or functions k 0 c.loop-function-test.true))

pub loop-function-preserved : goal.loop-function-preserved
loop-function-preserved c = record {
  completes = λ g are right.
      let functions = c.args.functions.now in
      let k = c.loop-function.function-index in
      let f = get_or functions k 0 in
      let before = c.loop-function.invariant.completes g are right in
      completes_more g functions k f c.args.heights.now c.loop-function.heights c.complete_one.new.heights c.loop-function-test.true (get_or_default functions k 0 f c.loop-function-test.true) before (c.complete_one.ensures.completes g are before.heights);
  stays = stays_then c.args.heights.now c.loop-function.heights c.complete_one.new.heights c.loop-function.invariant.stays c.complete_one.ensures.stays;
}

pub returns-clause-completes : goal.returns-clause-completes
returns-clause-completes c = λ g are right.
    let over : length c.args.functions.now ≤ c.loop-function.function-index = omega (arith, c.loop-function-test.false) in
    subst (λ fs. Completes g c.args.heights.now c.loop-function.heights (Contains fs)) (take_all c.loop-function.function-index c.args.functions.now over) (c.loop-function.invariant.completes g are right)
