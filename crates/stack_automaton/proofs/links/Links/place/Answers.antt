use Rattle.std.proofs.Common.{◌≡◌, arith, nat_eq, sym, subst}
use Rattle.std.specs.List.{position_or_len}
use Rattle.std.specs.Map.{keys_of}
use Rattle.stack_automaton.specs.Links.{Links, IsPlaceOf, functions_of}
use Rattle.stack_automaton.proofs.FactLemmas.{length_keys}
use Rattle.stack_automaton.proofs.links.Links.place.Goals as goal

pub returns-in-Some : goal.returns-in-Some
returns-in-Some c =
    let is = subst (IsPlaceOf (keys_of c.self.inside.lists.items) c.args.function) (sym c.in-Some.ensures.value) (c.self.invariant c.args.function) in
    subst (λ (s : Links). c.in-Some.place.now ≡ position_or_len (nat_eq c.args.function) (functions_of s)) c.self.view_is is.0

pub returns-in-None : goal.returns-in-None
returns-in-None c =
    let is = subst (IsPlaceOf (keys_of c.self.inside.lists.items) c.args.function) (sym c.in-None.ensures.value) (c.self.invariant c.args.function) in
    subst (λ (s : Links). c.len.result ≡ position_or_len (nat_eq c.args.function) (functions_of s)) c.self.view_is (omega (arith, c.len.ensures, c.self.inside.lists.ok, length_keys c.self.inside.lists.items, is))
