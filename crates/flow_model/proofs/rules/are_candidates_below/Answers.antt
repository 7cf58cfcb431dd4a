use Rattle.std.proofs.Common.{◌<◌, All, rules}
use Rattle.std.proofs.lemmas.Iterator.{cases_from_all, YieldsList-from_slice}
use Rattle.flow_model.specs.Call.{Call}
use borrow.Author.Tests.{tests}
use Rattle.flow_model.proofs.RulesLemmas.{all_decides}
use Rattle.flow_model.proofs.rules.are_candidates_below.Goals as goal

pub returns : goal.returns
returns c =
    let P : Call → Type 0 = λ call. All (λ f. f < c.args.functions) call.candidates in
    all_decides P c.args.calls.now _ (cases_from_all _ _ _ P (λ call. P call → ⊥) c.all.ensures.ran (YieldsList-from_slice c.args.calls.now cc) (λ x q k. search (rules, tests)) (λ x q k. search (rules, tests)))
