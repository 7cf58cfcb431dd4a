-- The facts of an event, one followed after another.
use Rattle.std.proofs.Common.{◌≡◌, ◌⊎◌, ◌↔◌, ℕ, ◌+◌, ◌<◌, ◌≤◌, List, [], ◌∷◌, ◌++◌, length, take, drop, get_or, Contains, Some, slice_get, refl, sym, ◌∙◌, ap, subst, inl, inr, arith, append-nil}
use Rattle.std.proofs.lemmas.List.{take_more, take_all, append_assoc, take-append-le, take-append-drop}
use Rattle.std.proofs.lemmas.List.Elements.{Contains-append_left, Contains-push_cases}
use Rattle.flow_model.specs.declared.records.ModelFunction.{ModelFunction}
use Rattle.flow_model.specs.Call.{Call}
use Rattle.flow_model.specs.Graph.{Graph, HasSilent, HasCall, HasFunction, Owns, HaveOneOwner}
use Rattle.flow_model.specs.Rules.{IsValid}
use Rattle.stack_automaton.specs.declared.place.Place.{Place}
use Rattle.stack_automaton.specs.declared.place.Place.TheVariants.{Held, Entered}
use Rattle.stack_automaton.specs.declared.place.Fact.{Fact}
use Rattle.stack_automaton.specs.declared.place.Link.{Link}
use Rattle.dm_base.specs.Adding.{Has, Adds, Gains}
use Rattle.stack_automaton.specs.Held.{States, HasEdge}
use Rattle.stack_automaton.specs.Links.{Links, HasLink, AddsLinks}
use Rattle.stack_automaton.specs.Event.{IsFact}
use Rattle.stack_automaton.specs.Event.IsFact.{first, silent, enter, back, out}
use Rattle.stack_automaton.specs.Following.{IsAlong, link_of, IsLinkOf, IsInto, IsBack, IsEnd, IsOut, IsOutOfBoth, IsStep, IsAfter, AreFollowed, IsFirst, IsOfEvent, AreHeld, AreLinks, AreFollowedTo}
use Rattle.dm_base.proofs.AddingLemmas.{adds_same, has_more}
use Rattle.stack_automaton.proofs.ReadingLemmas.{all_at, one_call, one_owner}

-- In a valid model, what stands above a function that was entered is one of its own nodes.
module _ (g : Graph) (valid : IsValid g) (E : ℕ → ℕ → ℕ → Type 0) (First : ℕ → ℕ → Type 0) where
  abbrev IsInside : ℕ → Place → Type 0
  IsInside v (Held q) = Unit {0}
  IsInside v (Entered h) = Owns g.functions g.nodes h v

  stays_inside : (a b : ℕ) (p : Place) → IsInside a p → HaveOneOwner g.functions g.nodes a b → IsInside b p
  stays_inside a b (Held q) is owner = tt
  stays_inside a b (Entered h) is owner = subst (λ f. Owns g.functions g.nodes f b) (one_owner g.functions g.nodes valid.entries owner.owner h a owner.first is) owner.second

  owns_exit : (f entry exit : ℕ) → HasFunction g f entry exit → Owns g.functions g.nodes f exit
  owns_exit f entry exit at = subst (Owns g.functions g.nodes f) at.ends (valid.exits f at.one at.has)

  owns_entry : (f entry exit : ℕ) → HasFunction g f entry exit → Owns g.functions g.nodes f entry
  owns_entry f entry exit at =
      let owns = owns_exit f entry exit at in
      let both : Some owns.one ≡ Some at.one = sym owns.has ∙ at.has in
      let same : owns.one ≡ at.one = cc in
      let begin : owns.one.entry ≡ entry = ap (λ o. o.entry) same ∙ at.begins in
      record { one = owns.one; has = owns.has; from = omega (arith, begin); to = omega (arith, begin, owns.from, owns.to) }

  owner_of_call : (a s b f c d h : ℕ) → HasCall g a s b f → HasCall g c s d h → HaveOneOwner g.functions g.nodes c b
  owner_of_call a s b f c d h call into =
      let same : into.call ≡ call.call = one_call g valid into.call call.call into.has call.has (into.site ∙ sym call.site) in
      let owner = all_at (λ k. HaveOneOwner g.functions g.nodes k.from k.to) g.calls into.call valid.edges.calls into.has in
      let to : into.call.to ≡ b = ap (λ k. k.to) same ∙ call.to in
      subst (λ n. HaveOneOwner g.functions g.nodes n b) into.from (subst (λ n. HaveOneOwner g.functions g.nodes into.call.from n) to owner)

  pub inside : {v : ℕ} {p : Place} → IsFact g E First v p → IsInside v p
  inside (first is) = tt
  inside (silent {a = a} {b = b} {p = p} fact has) = stays_inside a b p (inside fact) (all_at (λ e. HaveOneOwner g.functions g.nodes e.from e.to) g.silent (record { from = a; to = b }) valid.edges.silent has)
  inside (enter {f = f} {entry = entry} {exit = exit} fact call at) = owns_entry f entry exit at
  inside (back fact edge call at) = tt
  inside (out {a = a} {s = s} {b = b} {f = f} {c = c} {d = d} {h = h} {p = p} fact from into call at) = stays_inside c b p (inside from) (owner_of_call a s b f c d h call into)

  -- so the function that ends at the exit is the one that was entered
  pub same_function : (f h entry exit : ℕ) → IsFact g E First exit (Entered h) → HasFunction g f entry exit → f ≡ h
  same_function f h entry exit fact at = one_owner g.functions g.nodes valid.entries f h exit (owns_exit f entry exit at) (inside fact)

module _ (g : Graph) (s : States) (begin : List Fact) where
  -- each step ends at a fact of the event
  call_of : (c : Call) (f : ℕ) → Contains g.calls c → Contains c.candidates f → HasCall g c.from c.site c.to f
  call_of c f has candidate = record { call = c; has = has; from = refl; site = refl; to = refl; candidate = candidate }

  is_of : (x : Fact) (node : ℕ) (place : Place) → x ≡ record { node = node; place = place } → IsFact g (HasEdge s) (IsFirst begin) node place → IsOfEvent g s begin x
  is_of x node place same fact = subst (IsOfEvent g s begin) (sym same) fact

  along_sound : (x y : Fact) → IsOfEvent g s begin x → Has (λ e. IsAlong x e y) g.silent → IsOfEvent g s begin y
  along_sound x y fact (e, has, (from, to)) =
      is_of y e.to x.place to (silent fact (subst (λ n. HasSilent g n e.to) from has))

  into_sound : (x y : Fact) → IsOfEvent g s begin x → Has (λ c. IsInto g x c y) g.calls → IsOfEvent g s begin y
  into_sound x y fact (c, has, (from, (f, candidate, (one, at, to)))) =
      is_of y one.entry (Entered f) to (enter fact (subst (λ n. HasCall g n c.site c.to f) from (call_of c f has candidate)) (record { one = one; has = at; begins = refl; ends = refl }))

  back_sound : (x y : Fact) → IsOfEvent g s begin x → IsBack g s x y → IsOfEvent g s begin y
  back_sound x y fact (q, place, edges, found, (e, edge, (c, has, (site, (f, candidate, (one, at, exit)), to)))) =
      let from : IsFact g (HasEdge s) (IsFirst begin) one.exit (Held q) = subst (λ p. IsFact g (HasEdge s) (IsFirst begin) one.exit p) place (subst (λ n. IsFact g (HasEdge s) (IsFirst begin) n x.place) (sym exit) fact) in
      is_of y c.to (Held e.to) to (back from (edges, found, edge) (subst (λ n. HasCall g c.from n c.to f) site (call_of c f has candidate)) (record { one = one; has = at; begins = refl; ends = refl }))

  out_sound : (x z y : Fact) → IsOfEvent g s begin x → IsOfEvent g s begin z → IsOut g x z y → IsOfEvent g s begin y
  out_sound x z y fact other (f, (place, (one, at, exit)), (c, has, (from, candidate, to))) =
      let end : IsFact g (HasEdge s) (IsFirst begin) one.exit (Entered f) = subst (λ p. IsFact g (HasEdge s) (IsFirst begin) one.exit p) place (subst (λ n. IsFact g (HasEdge s) (IsFirst begin) n x.place) (sym exit) fact) in
      let call : HasCall g z.node c.site c.to f = subst (λ n. HasCall g n c.site c.to f) from (call_of c f has candidate) in
      is_of y c.to z.place to (out end other call call (record { one = one; has = at; begins = refl; ends = refl }))

  pub after_sound : (front : List Fact) (x y : Fact) → IsOfEvent g s begin x → ((z : Fact) → Contains front z → IsOfEvent g s begin z) → IsAfter g s front x y → IsOfEvent g s begin y
  after_sound front x y fact others (inl (z, has, inl is)) = out_sound x z y fact (others z has) is
  after_sound front x y fact others (inl (z, has, inr is)) = out_sound z x y (others z has) fact is
  after_sound front x y fact others (inr (inl is)) = along_sound x y fact is
  after_sound front x y fact others (inr (inr (inl is))) = into_sound x y fact is
  after_sound front x y fact others (inr (inr (inr is))) = back_sound x y fact is

  -- where each step is followed, all facts of the event are there
  module _ (valid : IsValid g) (all : List Fact) (begins : (x : Fact) → Contains begin x → Contains all x) (followed : AreFollowed g s all all) where
    out_step : (a n b f entry exit c d h : ℕ) (p : Place) → f ≡ h → HasCall g c n d h → HasCall g a n b f → HasFunction g f entry exit → IsOut g (record { node = exit; place = Entered h }) (record { node = c; place = p }) (record { node = b; place = p })
    out_step a n b f entry exit c d h p same into call at =
        let one : into.call ≡ call.call = one_call g valid into.call call.call into.has call.has (into.site ∙ sym call.site) in
        let to : into.call.to ≡ b = ap (λ k. k.to) one ∙ call.to in
        (h, (refl, (at.one, subst (λ i. slice_get g.functions i ≡ Some at.one) same at.has, at.ends)), (into.call, into.has, (into.from, into.candidate, ap (λ m. record { node = m; place = p }) (sym to))))

    pub complete : {v : ℕ} {p : Place} → IsFact g (HasEdge s) (IsFirst begin) v p → Contains all (record { node = v; place = p })
    complete (first {b = b} {q = q} is) = begins (record { node = b; place = Held q }) is
    complete (silent {a = a} {b = b} {p = p} fact has) =
        followed (record { node = a; place = p }) (record { node = b; place = p }) (complete fact) (inr (inl (record { from = a; to = b }, has, (refl, refl))))
    complete (enter {a = a} {f = f} {entry = entry} {p = p} fact call at) =
        followed (record { node = a; place = p }) (record { node = entry; place = Entered f }) (complete fact)
        (inr (inr (inl (call.call, call.has, (call.from, (f, call.candidate, (at.one, at.has, ap (λ n. record { node = n; place = Entered f }) (sym at.begins))))))))
    complete (back {s = n} {b = b} {f = f} {exit = exit} {q = q} {r = r} fact (edges, found, edge) call at) =
        followed (record { node = exit; place = Held q }) (record { node = b; place = Held r }) (complete fact)
        (inr (inr (inr (q, refl, edges, found, (record { label = n; to = r }, edge, (call.call, call.has, (call.site, (f, call.candidate, (at.one, at.has, at.ends)), ap (λ m. record { node = m; place = Held r }) (sym call.to))))))))
    complete (out {a = a} {s = n} {b = b} {f = f} {entry = entry} {exit = exit} {c = c} {d = d} {h = h} {p = p} fact from into call at) =
        followed (record { node = exit; place = Entered h }) (record { node = b; place = p }) (complete fact)
        (inl (record { node = c; place = p }, complete from, inl (out_step a n b f entry exit c d h p (same_function g valid (HasEdge s) (IsFirst begin) f h entry exit fact at) into call at)))

-- A step with the calls and the ends of the front facts is a step from the fact, or from it and a front fact.
module _ (g : Graph) (s : States) (front : List Fact) (links : Links) (ended : List ℕ) (calls : AreLinks g front links) (ends : (f : ℕ) → Contains ended f ↔ Has (IsEnd g.functions f) front) (x y : Fact) where
  after_step : IsStep g s links ended x y → IsAfter g s front x y
  after_step (inl (c, has, (from, (f, candidate, inl entry)))) = inr (inr (inl (c, has, (from, (f, candidate, entry)))))
  after_step (inl (c, has, (from, (f, candidate, inr (is, to))))) = let (z, in_front, end) = (ends f).0 is in inl (z, in_front, inr (f, end, (c, has, (from, candidate, to))))
  after_step (inr (inl (f, end, l, has, to))) =
      let (z, in_front, (c, in_calls, (from, (candidate, is)))) = (calls f l).0 has in
      inl (z, in_front, inl (f, end, (c, in_calls, (from, candidate, to ∙ ap (λ k. record { node = k.to; place = k.place }) is))))
  after_step (inr (inr (inl is))) = inr (inl is)
  after_step (inr (inr (inr is))) = inr (inr (inr is))

  step_after : IsAfter g s front x y → IsStep g s links ended x y
  step_after (inl (z, in_front, inl (f, end, (c, has, (from, candidate, to))))) = inr (inl (f, end, link_of c z.place, (calls f (link_of c z.place)).1 (z, in_front, (c, has, (from, (candidate, refl)))), to))
  step_after (inl (z, in_front, inr (f, end, (c, has, (from, candidate, to))))) = inl (c, has, (from, (f, candidate, inr ((ends f).1 (z, in_front, end), to))))
  step_after (inr (inl is)) = inr (inr (inl is))
  step_after (inr (inr (inl (c, has, (from, (f, candidate, entry)))))) = inl (c, has, (from, (f, candidate, inl entry)))
  step_after (inr (inr (inr is))) = inr (inr (inr is))

  pub is_step : IsStep g s links ended x y ↔ IsAfter g s front x y
  is_step = (after_step, step_after)

-- nothing is followed yet
pub followed_none : (g : Graph) (s : States) (begin : List Fact) (links : Links) (ended : List ℕ) → AreHeld begin → ((f : ℕ) (l : Link) → HasLink links f l → ⊥) → length ended ≡ 0 → AreFollowedTo g s begin begin links ended 0
followed_none g s begin links ended are_held no_links no_ends = record {
  grows = ([], sym (append-nil begin));
  sound = λ x has. let (q, place) = are_held x has in
      let P : Place → Type 0 = λ p. IsFact g (HasEdge s) (IsFirst begin) x.node p in
      subst P (sym place) (first (subst (λ p. Contains begin (record { node = x.node; place = p })) place has));
  calls = λ f l. (λ has. absurd (no_links f l has), λ has. absurd (omega (arith, has.1.1)));
  ends = λ f. (λ has. absurd (omega (arith, has.1, no_ends)), λ has. absurd (omega (arith, has.1.1)));
  followed = λ x y has. absurd (omega (arith, has.1));
}

Contains-from_take : {X : Type 0} (xs : List X) (n : ℕ) (x : X) → Contains (take n xs) x → Contains xs x
Contains-from_take xs n x has = subst (λ ys. Contains ys x) (take-append-drop n xs) (Contains-append_left (take n xs) (drop n xs) x has)

swap : (g : Graph) (x z y : Fact) → IsOutOfBoth g x z y → IsOutOfBoth g z x y
swap g x z y (inl is) = inr is
swap g x z y (inr is) = inl is

-- the pairs of a front fact and the next are pairs of the next and a front fact
one_more : (g : Graph) (s : States) (front mid new : List Fact) (x : Fact) → AreFollowed g s front mid → ((y : Fact) → Contains mid y → Contains new y)
    → ((y : Fact) → IsAfter g s (front ++ x ∷ []) x y → Contains new y) → AreFollowed g s (front ++ x ∷ []) new
one_more g s front mid new x before into last = λ a y has after. elim (Contains-push_cases front x a has) as (λ _. Contains new y) [
  | inr e ↦ last y (subst (λ b. IsAfter g s (front ++ x ∷ []) b y) (sym e) after)
  | inl old ↦ elim after as (λ _. Contains new y) [
    | inr others ↦ into y (before a y old (inr others))
    | inl pair ↦ let (z, in_front, both) = pair in
        elim (Contains-push_cases front x z in_front) as (λ _. Contains new y) [
          | inl was ↦ into y (before a y old (inl (z, was, both)))
          | inr e ↦ last y (inl (a, Contains-append_left front (x ∷ []) a old, subst (λ b. IsOutOfBoth g b a y) (sym e) (swap g a z y both)))
        ]
  ]
]

-- the calls and the ends of one fact more
links_more : (g : Graph) (mid : List Fact) (old new : Links) (i : ℕ) (x : Fact) → i < length mid → x ≡ get_or mid i x → AreLinks g (take i mid) old
    → AddsLinks old new (λ f l. Has (λ c. (c.from ≡ x.node) × IsLinkOf x.place f l c) g.calls) → AreLinks g (take (i + 1) mid) new
links_more g mid old new i x lt is before adds f l =
    let P : Fact → Type 0 = λ z. Has (λ c. (c.from ≡ z.node) × IsLinkOf z.place f l c) g.calls in
    let more = has_more P mid i x lt is in (
      λ has. more.1 (elim ((adds.is f l).0 has) as (λ _. Has P (take i mid) ⊎ P x) [ inl was ↦ inl ((before f l).0 was) | inr here ↦ inr here ]),
      λ has. (adds.is f l).1 (elim (more.0 has) as (λ _. HasLink old f l ⊎ P x) [ inl was ↦ inl ((before f l).1 was) | inr here ↦ inr here ]),
    )

ends_more : (functions : List ModelFunction) (mid : List Fact) (old new : List ℕ) (i : ℕ) (x : Fact) → i < length mid → x ≡ get_or mid i x → ((f : ℕ) → Contains old f ↔ Has (IsEnd functions f) (take i mid))
    → Gains (Contains old) (Contains new) (λ f. IsEnd functions f x) → (f : ℕ) → Contains new f ↔ Has (IsEnd functions f) (take (i + 1) mid)
ends_more functions mid old new i x lt is before gains f =
    let P : Fact → Type 0 = IsEnd functions f in
    let more = has_more P mid i x lt is in (
      λ has. more.1 (elim ((gains f).0 has) as (λ _. Has P (take i mid) ⊎ P x) [ inl was ↦ inl ((before f).0 was) | inr here ↦ inr here ]),
      λ has. (gains f).1 (elim (more.0 has) as (λ _. Contains old f ⊎ P x) [ inl was ↦ inl ((before f).1 was) | inr here ↦ inr here ]),
    )

-- one fact more is followed
pub followed_more : (g : Graph) (s : States) (begin mid new : List Fact) (links links' : Links) (ended ended' : List ℕ) (i : ℕ) (x : Fact) → i < length mid → x ≡ get_or mid i x
    → AreFollowedTo g s begin mid links ended i → Gains (Contains ended) (Contains ended') (λ f. IsEnd g.functions f x) → AddsLinks links links' (λ f l. Has (λ c. (c.from ≡ x.node) × IsLinkOf x.place f l c) g.calls)
    → Adds mid new (IsStep g s links' ended' x) → AreFollowedTo g s begin new links' ended' (i + 1)
followed_more g s begin mid new links links' ended ended' i x lt is before more_ends more_links steps =
    let calls' = links_more g mid links links' i x lt is before.calls more_links in
    let ends' = ends_more g.functions mid ended ended' i x lt is before.ends more_ends in
    let adds : Adds mid new (IsAfter g s (take (i + 1) mid) x) = adds_same mid new _ _ (λ y. is_step g s (take (i + 1) mid) links' ended' calls' ends' x y) steps in
    let into : (y : Fact) → Contains mid y → Contains new y = λ y has. (adds.is y).1 (inl has) in
    let (r, one) = before.grows in
    let (t, two) = adds.grows in
    let short : i + 1 ≤ length mid = omega arith in
    let same : take (i + 1) new ≡ take (i + 1) mid = ap (λ xs. take (i + 1) xs) two ∙ take-append-le (i + 1) mid t short in
    let more : take (i + 1) mid ≡ take i mid ++ x ∷ [] = take_more mid i x lt ∙ ap (λ y. take i mid ++ y ∷ []) (sym is) in
    let here : Contains mid x = (i, lt, sym is) in
    let last : (y : Fact) → IsAfter g s (take (i + 1) mid) x y → Contains new y = λ y after. (adds.is y).1 (inr after) in
    record {
      grows = (r ++ t, two ∙ ap (λ xs. xs ++ t) one ∙ append_assoc begin r t);
      sound = λ y has. elim ((adds.is y).0 has) as (λ _. IsOfEvent g s begin y) [
        | inl was ↦ before.sound y was
        | inr after ↦ after_sound g s begin (take (i + 1) mid) x y (before.sound x here) (λ z in_front. before.sound z (Contains-from_take mid (i + 1) z in_front)) after
      ];
      calls = subst (λ front. AreLinks g front links') (sym same) calls';
      ends = subst (λ front. (f : ℕ) → Contains ended' f ↔ Has (IsEnd g.functions f) front) (sym same) ends';
      followed = subst (λ front. AreFollowed g s front new) (sym (same ∙ more)) (one_more g s (take i mid) mid new x before.followed into (subst (λ front. (y : Fact) → IsAfter g s front x y → Contains new y) more last));
    }

-- where all are followed, they are the event's
module _ (g : Graph) (valid : IsValid g) (s : States) (begin all : List Fact) (links : Links) (ended : List ℕ) (n : ℕ) (over : length all ≤ n) (to : AreFollowedTo g s begin all links ended n) where
  pub followed_facts : (x : Fact) → Contains all x ↔ IsOfEvent g s begin x
  followed_facts x =
      let (rest, grows) = to.grows in
      let begins : (y : Fact) → Contains begin y → Contains all y = λ y has. subst (λ xs. Contains xs y) (sym grows) (Contains-append_left begin rest y has) in
      (to.sound x, λ fact. complete g s begin valid all begins (subst (λ front. AreFollowed g s front all) (take_all n all over) to.followed) fact)

  pub followed_links : AreLinks g all links
  followed_links = subst (λ front. AreLinks g front links) (take_all n all over) to.calls
