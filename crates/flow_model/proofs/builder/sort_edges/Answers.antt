use Rattle.std.proofs.Common.{rules}
use Rattle.std.proofs.lemmas.List.Sorted.{All-permutation}
use Rattle.std.specs.Ordering.{nat_cmp}
use Rattle.flow_model.specs.Call.{Call}
use Rattle.flow_model.specs.Order.{StrictlyRise}
use Rattle.flow_model.proofs.BuilderLemmas.{sites_reordered}
use Rattle.flow_model.proofs.builder.sort_edges.Goals as goal

pub returns-then-are_candidates_new-clause-repeats : goal.returns-then-are_candidates_new-clause-repeats
returns-then-are_candidates_new-clause-repeats c = λ g.
    search (rules, sites_reordered _ _ c.sort_candidates-are_candidates_new.ensures.same)

pub returns-then-are_candidates_new-clause-order : goal.returns-then-are_candidates_new-clause-order
returns-then-are_candidates_new-clause-order c = λ g new.
    search (rules, All-permutation (λ (call : Call). StrictlyRise nat_cmp call.candidates) _ _ c.sort_calls-are_sites_new.ensures.same)
