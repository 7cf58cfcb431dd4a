use Rattle.std.proofs.Common.{◌≡◌, ◌<◌, [], length, get_or, take, drop, map, Contains, ap, sym, ◌∙◌, subst}
use Rattle.inline_model.specs.Chains.{IsRecursion}
use Rattle.inline_model.proofs.RecursionLemmas.{recursion_unbounded}
use Rattle.inline_model.specs.Places.{site_at}
use Rattle.inline_model.proofs.TrailLemmas.{back_called, front_called, on_path_placed, recursion_from}
use Rattle.inline_model.proofs.answer.recursion.Goals as goal
use Rattle.inline_model.proofs.answer.recursion.Goals.{In_ok-cycle}

cycle : (c : In_ok-cycle) → IsRecursion c.args.model.now c.in_ok-first.first c.in_ok-cycle.cycle
cycle c =
    recursion_from c.args.model.now c.nodes-nodes.ensures.valid c.args.search.now.marks.items c.args.search.now.path c.requires.searching.is_path c.requires.top c.requires.rest c.requires.is c.args.place c.requires.on_path c.requires.opens
    c.in_ok-places.places.items c.in_ok-places.ensures c.find_place-at.result (subst (λ xs. (c.find_place-at.result < length xs) × (get_or xs c.find_place-at.result 0 ≡ c.args.place)) c.deref.ensures.value c.find_place-at.ensures)
    c.in_ok-first.first c.in_ok-cycle.cycle
    (c.in_ok-first.ensures ∙ ap (map (site_at c.args.model.now)) (c.split_at.ensures.front ∙ ap (take c.find_place-at.result) c.deref-2.ensures.value))
    (c.in_ok-cycle.ensures ∙ ap (map (site_at c.args.model.now)) (c.split_at.ensures.back ∙ ap (drop c.find_place-at.result) c.deref-2.ensures.value))

pub find_place-at-requires : goal.find_place-at-requires
find_place-at-requires c = subst (λ xs. Contains xs c.args.place) (sym (c.deref.ensures.value ∙ c.in_ok-places.ensures)) (on_path_placed c.args.search.now.path [] c.args.place c.requires.on_path)

pub sites_at-requires : goal.sites_at-requires
sites_at-requires c = λ p has. front_called c.args.search.now.path c.requires.searching.is_path c.deref-2.result.now (c.deref-2.ensures.value ∙ c.in_ok-places.ensures) c.find_place-at.result p (subst (λ xs. Contains xs p) c.split_at.ensures.front has)

pub sites_at-requires-2 : goal.sites_at-requires-2
sites_at-requires-2 c = λ p has. back_called c.args.search.now.path c.requires.searching.is_path c.deref-2.result.now (c.deref-2.ensures.value ∙ c.in_ok-places.ensures) c.find_place-at.result p (subst (λ xs. Contains xs p) c.split_at.ensures.back has)

pub returns-clause-length : goal.returns-clause-length
returns-clause-length c = let at = (goal.at.returns-clause-length c).In_ok-cycle in recursion_unbounded c.args.model.now c.in_ok-first.first c.in_ok-cycle.cycle (cycle at)

pub returns-clause-cycle : goal.returns-clause-cycle
returns-clause-cycle c = cycle (goal.at.returns-clause-cycle c).In_ok-cycle
