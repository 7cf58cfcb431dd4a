-- What a callgraph monitor stands for after one event more.
use Rattle.std.proofs.Common.{◌≡◌, ℕ, ℤ, ◌+◌, ◌↔◌, List, [], ◌∷◌, ◌++◌, length, refl, sym, subst}
use Rattle.dm_base.specs.declared.event.Arg.{Arg}
use Rattle.dm_base.specs.declared.event.Event.{Event}
use Rattle.dm_base.specs.declared.event.Event.TheVariants.{Sys, Pre, Post}
use Rattle.dm_base.specs.declared.verdict.Step.{Step}
use Rattle.dm_base.specs.declared.verdict.Step.TheVariants.{Kept, Rejected, Bound}
use Rattle.dm_base.specs.Trace.{erase}
use Rattle.dm_sets.specs.Nodes.{Nodes, Has}
use Rattle.flow_model.specs.declared.which.Which.TheVariants.{Callgraph}
use Rattle.flow_model.specs.Graph.{Graph}
use Rattle.flow_model.specs.Language.{Walk, Reads}
use Rattle.flow_model.specs.Language.Walk.{calls}
use Rattle.flow_model.proofs.Histories.{erase-append, erase-null, accepted_nothing, accepted_more, rejected_more, rejected_stays}
use Rattle.flow_model.proofs.Walks.{walk-append, last_call}
use Rattle.flow_model.specs.Verdict.{IsStep}
use Rattle.callgraph_monitor.specs.Ahead.{GoesTo, IsAnswer, IsCall}
use Rattle.callgraph_monitor.specs.Standing.{IsAfter, StandsFor}

-- where a walk ends that reads the history, the history is read
pub reads_of_after : (g : Graph) (h : List Event) (a : ℕ) → IsAfter g h a → Reads Callgraph g h
reads_of_after g h a (entry, exit, has, walk) = (entry, exit, a, has, walk)

after_of_reads : (g : Graph) (h : List Event) → Reads Callgraph g h → (a : ℕ) × IsAfter g h a
after_of_reads g h (entry, exit, a, has, walk) = (a, (entry, exit, has, walk))

-- A system call leads from the nodes after a history to those after it and the call.
module _ (g : Graph) (h : List Event) (name : ℕ) (arguments : List Arg) (outcome : ℤ) (old : Nodes) (after : (a : ℕ) → Has old a ↔ IsAfter g h a) where
  pub after_of_goes : (c : ℕ) → GoesTo g (Sys name arguments outcome) old c → IsAfter g (h ++ Sys name arguments outcome ∷ []) c
  after_of_goes c (a, b, has, (x, p, edge, fits), rest) =
      let from = (after a).0 has in
      let walk : Walk g from.0 (erase h ++ Sys name arguments outcome ∷ []) c = walk-append from.3 (calls edge fits rest) in
      (from.0, from.1, from.2, subst (λ t. Walk g from.0 t c) (sym (erase-append h (Sys name arguments outcome ∷ []))) walk)

  pub goes_of_after : (c : ℕ) → IsAfter g (h ++ Sys name arguments outcome ∷ []) c → GoesTo g (Sys name arguments outcome) old c
  goes_of_after c (entry, exit, function, walk) =
      let last = last_call walk (erase h) (Sys name arguments outcome) (erase-append h (Sys name arguments outcome ∷ [])) in
      (last.before, last.behind, (after last.before).1 (entry, exit, function, last.first), (last.name, last.pattern, last.edge, last.fits), last.rest)

-- an event that is erased leads nowhere else
after_null : (g : Graph) (h : List Event) (e : Event) → erase (e ∷ []) ≡ [] → (a : ℕ) → IsAfter g h a → IsAfter g (h ++ e ∷ []) a
after_null g h e null a (entry, exit, function, walk) = (entry, exit, function, subst (λ t. Walk g entry t a) (sym (erase-null h e null)) walk)

before_null : (g : Graph) (h : List Event) (e : Event) → erase (e ∷ []) ≡ [] → (a : ℕ) → IsAfter g (h ++ e ∷ []) a → IsAfter g h a
before_null g h e null a (entry, exit, function, walk) = (entry, exit, function, subst (λ t. Walk g entry t a) (erase-null h e null) walk)

-- where a longer history leads somewhere, so does the history
some_before : (g : Graph) (h : List Event) (e : Event) (c : ℕ) → IsAfter g (h ++ e ∷ []) c → (a : ℕ) × IsAfter g h a
some_before g h (Sys name arguments outcome) c (entry, exit, function, walk) =
    let last = last_call walk (erase h) (Sys name arguments outcome) (erase-append h (Sys name arguments outcome ∷ [])) in
    (last.before, (entry, exit, function, last.first))
some_before g h (Pre site) c is = (c, before_null g h (Pre site) refl c is)
some_before g h (Post site) c is = (c, before_null g h (Post site) refl c is)

module _ (g : Graph) (bound : ℕ) (h : List Event) (old : Nodes) (stands : StandsFor old g bound h) where
  -- a system call, where the set had a node
  stands_call : (name : ℕ) (arguments : List Arg) (outcome : ℤ) (new : Nodes) → (a : ℕ) → Has old a → new.size ≡ g.nodes → ((c : ℕ) → Has new c ↔ GoesTo g (Sys name arguments outcome) old c) → StandsFor new g bound (h ++ Sys name arguments outcome ∷ [])
  stands_call name arguments outcome new a has size moved =
      let into = after_of_goes g h name arguments outcome old stands.after in
      let out = goes_of_after g h name arguments outcome old stands.after in
      let accepted = stands.accepted a has in
      record {
        size = size;
        after = λ c. (λ is. into c ((moved c).0 is), λ is. (moved c).1 (out c is));
        accepted = λ c is. accepted_more Callgraph g bound h (Sys name arguments outcome) accepted (reads_of_after g (h ++ Sys name arguments outcome ∷ []) c (into c ((moved c).0 is)));
        over = λ none. (
          length h + 1,
          rejected_more Callgraph g bound h (Sys name arguments outcome) accepted (λ read. let there = after_of_reads g (h ++ Sys name arguments outcome ∷ []) read in none there.0 ((moved there.0).1 (out there.0 there.1))),
        );
      }

  pub stands_after : (e : Event) → IsCall e → (new : Nodes) → (a : ℕ) → Has old a → new.size ≡ g.nodes → ((c : ℕ) → Has new c ↔ GoesTo g e old c) → StandsFor new g bound (h ++ e ∷ [])
  stands_after (Sys name arguments outcome) call = stands_call name arguments outcome
  stands_after (Pre site) call = absurd call
  stands_after (Post site) call = absurd call

  -- what is answered where it stands
  pub answered : (step : Step) → IsAnswer old step → IsStep Callgraph g bound h step
  answered Kept some = stands.accepted some.0 some.1
  answered Rejected none = stands.over none
  answered Bound never = absurd never

  -- any event, where the set had none
  pub stands_still : ((a : ℕ) → Has old a → ⊥) → (e : Event) → StandsFor old g bound (h ++ e ∷ [])
  stands_still none e =
      let at = stands.over none in
      record {
        size = stands.size;
        after = λ c. (λ has. absurd (none c has), λ is. absurd (let there = some_before g h e c is in none there.0 ((stands.after there.0).1 there.1)));
        accepted = λ a has. absurd (none a has);
        over = λ _. (at.0, rejected_stays Callgraph g bound h e at.0 at.1);
      }

  -- a null call
  pub stands_null : (e : Event) → erase (e ∷ []) ≡ [] → StandsFor old g bound (h ++ e ∷ [])
  stands_null e null = record {
    size = stands.size;
    after = λ a. (λ has. after_null g h e null a ((stands.after a).0 has), λ is. (stands.after a).1 (before_null g h e null a is));
    accepted = λ a has. accepted_more Callgraph g bound h e (stands.accepted a has) (reads_of_after g (h ++ e ∷ []) a (after_null g h e null a ((stands.after a).0 has)));
    over = λ none. (let at = stands.over none in (at.0, rejected_stays Callgraph g bound h e at.0 at.1));
  }

-- before the first event
pub stands_first : (g : Graph) (bound : ℕ) (set : Nodes) → set.size ≡ g.nodes → ((a : ℕ) → Has set a ↔ IsAfter g [] a) → (a : ℕ) → IsAfter g [] a → StandsFor set g bound []
stands_first g bound set size after a is = record {
  size = size;
  after = after;
  accepted = λ b has. accepted_nothing Callgraph g bound (reads_of_after g [] b ((after b).0 has));
  over = λ none. absurd (none a ((after a).1 is));
}
