use Rattle.std.proofs.Common.{◌≡◌, ◌∙◌, ℕ, List, [], ◌∷◌, ◌++◌, OnOk, length, nat_eq, ap, sym, subst}
use Rattle.std.specs.Map.{keys_of}
use Rattle.std.specs.List.{position_or_len}
use Rattle.std.proofs.lemmas.Result.{on_ok_weaker}
use Rattle.stack_automaton.specs.declared.place.Link.{Link}
use Rattle.stack_automaton.specs.Links.{Links, IsPlaceOf, ArePlaced, AddsLinks}
use Rattle.stack_automaton.proofs.LinksLemmas.{links_pushed, links_begun, place_within}
use Rattle.stack_automaton.proofs.links.Links.add.Goals as goal

pub put-requires : goal.put-requires
put-requires c = place_within c.self.inside.lists.items c.in-Some.place.now (subst (IsPlaceOf (keys_of c.self.inside.lists.items) c.args.function) (sym c.in-Some.ensures.value) (c.self.invariant c.args.function)).1

pub invariant_of-self : goal.invariant_of-self
invariant_of-self c = subst (ArePlaced c.self.inside.places) (sym c.put.ensures.functions) c.self.invariant

pub returns-in-Some : goal.returns-in-Some
returns-in-Some c =
    let at = subst (IsPlaceOf (keys_of c.self.inside.lists.items) c.args.function) (sym c.in-Some.ensures.value) (c.self.invariant c.args.function) in
    subst (λ (s : Links). OnOk c.put.result (AddsLinks s (record { lists = c.put.new.lists.items }) (λ f l. (f ≡ c.args.function) × (l ≡ c.args.link)))) c.self.view_is
    (on_ok_weaker c.put.result (links_pushed c.self.inside.lists.items c.put.new.lists.items c.args.function c.in-Some.place.now c.args.link at.0) c.put.ensures.added)

pub begin-requires-clause-other : goal.begin-requires-clause-other
begin-requires-clause-other c =
    subst (λ (e : ℕ × List Link). position_or_len (nat_eq e.0) (keys_of c.self.inside.lists.items) ≡ length (keys_of c.self.inside.lists.items)) (sym c.in_ok-entered-in-None.ensures)
    (subst (IsPlaceOf (keys_of c.self.inside.lists.items) c.args.function) (sym c.in-None.ensures.value) (c.self.invariant c.args.function))

pub returns-in_ok-entered-in-None : goal.returns-in_ok-entered-in-None
returns-in_ok-entered-in-None c =
    let other = subst (IsPlaceOf (keys_of c.self.inside.lists.items) c.args.function) (sym c.in-None.ensures.value) (c.self.invariant c.args.function) in
    subst (λ (s : Links). OnOk c.begin.result (AddsLinks s (record { lists = c.begin.new.lists.items }) (λ f l. (f ≡ c.args.function) × (l ≡ c.args.link)))) c.self.view_is
    (on_ok_weaker c.begin.result
    (λ begun. links_begun c.self.inside.lists.items c.begin.new.lists.items c.args.function c.args.link other (begun ∙ ap (λ e. c.self.inside.lists.items ++ e ∷ []) c.in_ok-entered-in-None.ensures))
    c.begin.ensures.begun)
