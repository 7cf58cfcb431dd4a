use Rattle.std.proofs.Common.{◌≡◌, ◌<◌, [], ◌∷◌, length, ap, arith}
use Rattle.std.proofs.lemmas.List.{length-append}
use Rattle.c_check_primary.proofs.CallLemmas.{passed_begin, passed_step}
use Rattle.c_check_primary.proofs.passing.passed.Goals as goal

pub loop-g-init : goal.loop-g-init
loop-g-init c =
    let begin = passed_begin c.args.ts.now c.new-es.result.items c.new-es.ensures.items in
    record {
      room = omega (arith, c.requires, ap length c.into_iter-g-iterator.ensures.into_iter_gives.0);
      counted = begin.0;
      told = begin.1;
    }

pub bounds-ts-i : goal.bounds-ts-i
bounds-ts-i c = omega (arith, c.len-i.ensures, c.loop-g.invariant.counted, c.loop-g.invariant.room, ap length c.in-Some.ensures.steps.0)

pub loop-g-preserved : goal.loop-g-preserved
loop-g-preserved c =
    let at : c.len-i.result ≡ length c.loop-g.yielded = omega (arith, c.len-i.ensures, c.loop-g.invariant.counted) in
    let within : c.len-i.result < length c.args.ts.now = omega (arith, at, c.loop-g.invariant.room, ap length c.in-Some.ensures.steps.0) in
    let step = passed_step c.args.ts.now c.loop-g.yielded c.in-Some.g c.in_ok-value.value c.index-ts-i.result c.loop-g.es.items c.push.new.self.items c.in_ok-tree.tree c.len-i.result within at c.index-ts-i.is c.loop-g.invariant.counted c.loop-g.invariant.told c.in_ok-value.ensures c.in_ok-tree.ensures c.in_ok-push.ensures.items in
    record {
      room = omega (arith, c.loop-g.invariant.room, ap length c.in-Some.ensures.steps.0, length-append c.loop-g.yielded (c.in-Some.g ∷ []));
      counted = step.0;
      told = step.1;
    }
