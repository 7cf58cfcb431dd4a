use Rattle.std.proofs.Common.{◌≡◌, ◌∙◌, sym, ap, nat_eq, find, rules}
use Rattle.std.specs.List.Sorted.{IsBinarySearchResult}
use Rattle.std.specs.Ordering.{nat_cmp}
use Rattle.std.proofs.lemmas.List.Sorted.{answers_always}
use Rattle.flow_model.proofs.ModelLemmas.{call_found, call_missing}
use Rattle.flow_model.proofs.model.Model.call.Goals as goal
use Rattle.flow_model.proofs.model.Model.call.Goals.{After-binary_search_by_key}

-- what the search by the site says
position : (c : After-binary_search_by_key) → IsBinarySearchResult (λ call. nat_cmp call.site c.args.site) c.self.inside.calls.items c.binary_search_by_key.result
position c =
    rw c.deref.ensures.value at (c.binary_search_by_key.ensures.position (λ call. call.site) (answers_always _ _ _ (λ f a r f' h. search rules)))

-- the same call is found in the fields and in the model
same_find : (c : After-binary_search_by_key) → find (λ call. nat_eq call.site c.args.site) c.self.inside.calls.items ≡ find (λ call. nat_eq call.site c.args.site) c.args.self.now.calls
same_find c = ap (λ graph. find (λ call. nat_eq call.site c.args.site) graph.calls) c.self.view_is

pub returns-in_err-place : goal.returns-in_err-place
returns-in_err-place c =
    let searched = (goal.at.returns-in_err-place c).After-binary_search_by_key in
    let missing = call_missing c.self.inside.calls.items c.args.site c.self.invariant.valid.order.calls c.binary_search_by_key.result (sym c.ok.ensures.value ∙ c.in_err-place.was) (position searched) in
    rw c.from_residual.ensures (missing ∙ same_find searched)

pub returns : goal.returns
returns c =
    let searched = (goal.at.returns c).After-binary_search_by_key in
    let within = rw c.deref.ensures.value at c.binary_search_by_key.ensures.bound in
    let found = call_found c.self.inside.calls.items c.args.site c.self.invariant.valid.order.calls c.binary_search_by_key.result c.in_ok-place.place c.index.result.now (sym c.ok.ensures.value ∙ c.in_ok-place.was) within (position searched) c.index.ensures in
    found ∙ same_find searched
