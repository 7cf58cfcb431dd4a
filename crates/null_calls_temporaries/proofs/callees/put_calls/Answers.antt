use Rattle.std.proofs.Common.{◌∙◌, refl, arith}
use Rattle.null_calls_temporaries.proofs.SiteLemmas.{callees_more, callees_none, callees_all}
use Rattle.null_calls_temporaries.proofs.callees.put_calls.Goals as goal

pub loop-i-init : goal.loop-i-init
loop-i-init c = record { many = refl; put = λ s lt none. callees_none s c.args.ms.now _ none }

pub loop-i-preserved : goal.loop-i-preserved
loop-i-preserved c = record {
  many = c.put_call.ensures.length ∙ c.loop-i.invariant.many;
  put = λ s lt none. callees_more s c.args.ms.now c.loop-i.i c.index-ms-place.result _ _ c.loop-i-test.true c.index-ms-place.is (c.loop-i.invariant.put s lt none) (c.put_call.ensures.put s (let k = c.loop-i.invariant.many in omega (arith, lt, k)));
}

pub returns-clause-put : goal.returns-clause-put
returns-clause-put c s lt none = callees_all s c.args.ms.now c.loop-i.i _ c.loop-i-test.false (c.loop-i.invariant.put s lt none)
