-- The chain of a path that has come back to one of its call edges.
use Rattle.std.proofs.Common.{◌≡◌, ◌≢◌, inl, inr, ℕ, suc, ◌<◌, ◌≤◌, List, [], ◌∷◌, ◌++◌, length, map, take, drop, get_or, Option, Some, None, Contains, AllPairs, refl, sym, ap, ◌∙◌, subst, arith}
use Rattle.std.specs.Prelude.{slice_get, option_map, unwrap_or}
use Rattle.std.proofs.lemmas.Bool.{cases_lt, cases_eq}
use Rattle.std.proofs.lemmas.List.{append-nil, append_assoc, take-append-drop, map-append, get_or-map, length-map, length-append, drop-append-le, get_or_default}
use Rattle.std.proofs.Math.Seq.{drop-cons}
use Rattle.std.proofs.lemmas.List.Elements.{Contains-get_or, Contains-append_left, Contains-append_right}
use Rattle.std.proofs.lemmas.Option.{slice_get_within, get_or_from_slice_get}
use Rattle.flow_model.specs.Call.{Call}
use Rattle.flow_model.specs.Graph.{Graph, HasCall}
use Rattle.flow_model.specs.Order.{site_order, StrictlyRise}
use Rattle.flow_model.specs.Rules.{IsValid}
use Rattle.flow_model.proofs.OrderLemmas.{lt_from_less}
use Rattle.inline_model.specs.Within.{Within}
use Rattle.inline_model.specs.Chains.{Opening, Opens, IsChain, IsRecursion}
use Rattle.inline_model.specs.Chains.IsChain.{empty}
use Rattle.inline_model.specs.Searching.{FromFunction}
use Rattle.inline_model.specs.Searching.FromFunction.{stays, goes}
use Rattle.inline_model.proofs.ChainLemmas.{chain_from}
use Rattle.flow_model.proofs.Rising.{cons_cases, is_first, pairs_nil, pairs_cons}
use Rattle.inline_model.specs.Entries.{IsEntry}
use Rattle.inline_model.specs.declared.path.Frame.{Frame}
use Rattle.inline_model.specs.declared.search.Mark.{Mark}
use Rattle.inline_model.specs.Places.{places_in, place_of, places_onto, site_at}
use Rattle.inline_model.specs.Searching.{Enters, OpensPlace, OnPath, IsPath}
use Rattle.inline_model.specs.Searching.IsPath.{bottom, above}
use Rattle.inline_model.proofs.SearchLemmas.{on_path_cases, on_path_here, on_path_later}

-- places of call edges, each of which is opened by the one before
data Trail (g : Graph) : Option ℕ → List ℕ → Type 0 where
  ends : {o : Option ℕ} → Trail g o []
  opens_next : {o : Option ℕ} {p : ℕ} {places : List ℕ} → OpensPlace g o p → Trail g (Some p) places → Trail g o (p ∷ places)

pub site_is : (g : Graph) (p : ℕ) (call : Call) → slice_get g.calls p ≡ Some call → site_at g p ≡ call.site
site_is g p call at = ap (λ o. unwrap_or (option_map (λ (c : Call). c.site) o) 0) at

-- the call edge at the place as a call with any of its candidates
call_at : (g : Graph) (p f : ℕ) (call : Call) → slice_get g.calls p ≡ Some call → Contains call.candidates f → HasCall g call.from (site_at g p) call.to f
call_at g p f call at candidate = record {
  call = call;
  has = (p, slice_get_within g.calls p call at, get_or_from_slice_get g.calls p call call at);
  from = refl;
  site = sym (site_is g p call at);
  to = refl;
  candidate = candidate;
}

opening_at : (g : Graph) (f p h k : ℕ) → IsEntry g (record { function = f; place = p; candidate = h }) → Enters g (Some p) k → Opening g f (site_at g p) k
opening_at g f p h k entry (call, at, candidate) =
    let same : Some call ≡ Some entry.call = sym at ∙ entry.stands in
    let one : call ≡ entry.call = cc in
    record { from = call.from; to = call.to; call = call_at g p k call at candidate; within = subst (λ (c : Call). Within g f c.from) (sym one) entry.within }

entered : (g : Graph) (f p h : ℕ) → IsEntry g (record { function = f; place = p; candidate = h }) → Enters g (Some p) h
entered g f p h entry = (entry.call, entry.stands, entry.candidate)

trail_from : {g : Graph} {o : Option ℕ} (p : ℕ) (places : List ℕ) → Trail g o (p ∷ places) → (f : ℕ) × Enters g o f × FromFunction g f (map (site_at g) (p ∷ places))
trail_from {g} p [] (opens_next opens rest) = (opens.0, opens.1, goes (opening_at g opens.0 p opens.2.0 opens.2.0 opens.2.1 (entered g opens.0 p opens.2.0 opens.2.1)) stays)
trail_from {g} p (q ∷ places) (opens_next opens rest) =
    let more = trail_from q places rest in
    (opens.0, opens.1, goes (opening_at g opens.0 p opens.2.0 more.0 opens.2.1 more.1) more.2)

trail_chain : (g : Graph) (places : List ℕ) → Trail g None places → IsChain g (map (site_at g) places)
trail_chain g [] trail = empty
trail_chain g (p ∷ places) trail =
    let there = trail_from p places trail in
    chain_from (subst (λ f. FromFunction g f (map (site_at g) (p ∷ places))) there.1 there.2)

-- each place of a trail is that of a call edge
trail_called : {g : Graph} {o : Option ℕ} (places : List ℕ) → Trail g o places → (p : ℕ) → Contains places p → (call : Call) × (slice_get g.calls p ≡ Some call)
trail_called [] ends p has = absurd (omega (arith, has.1))
trail_called {g} (q ∷ places) (opens_next opens rest) p has = elim (cons_cases q places p has) [
  | inl same ↦ (opens.2.1.call, ap (slice_get g.calls) (sym same) ∙ opens.2.1.stands)
  | inr later ↦ trail_called places rest p later
]

-- what opens the first call edge above the path
abbrev top_opener : List Frame → Option ℕ
top_opener [] = None
top_opener (frame ∷ rest) = frame.opener

trail_onto : {g : Graph} {marks : List Mark} {path : List Frame} → IsPath g marks path → (places : List ℕ) → Trail g (top_opener path) places → Trail g None (places_onto path places)
trail_onto (bottom passed) places trail = trail
trail_onto (above {p = p} opens passed fresh below) places trail = trail_onto below (p ∷ places) (opens_next opens trail)

differ_onto : {g : Graph} {marks : List Mark} {path : List Frame} → IsPath g marks path → (places : List ℕ) → AllPairs (λ p q. p ≢ q) places → ((q : ℕ) → Contains places q → OnPath path q → ⊥) → AllPairs (λ p q. p ≢ q) (places_onto path places)
differ_onto (bottom passed) places differ apart = differ
differ_onto (above {p = p} {next = next} {below = below} {rest = rest} opens passed fresh path) places differ apart =
    differ_onto path (p ∷ places)
    (pairs_cons (λ q r. q ≢ r) p places (λ q has same. apart q has (on_path_here (record { opener = Some p; next = next }) (below ∷ rest) q (ap Some same))) differ)
    (λ q has on. elim (cons_cases p places q has) [
      | inl same ↦ fresh (subst (OnPath (below ∷ rest)) (sym same) on)
      | inr later ↦ apart q later (on_path_later (record { opener = Some p; next = next }) (below ∷ rest) q on)
    ])

onto_append : (path : List Frame) (places : List ℕ) → places_onto path places ≡ places_onto path [] ++ places
onto_append [] places = refl
onto_append (frame ∷ rest) places =
    onto_append rest (place_of frame ++ places)
    ∙ sym (append_assoc (places_onto rest []) (place_of frame) places)
    ∙ ap (λ xs. xs ++ places) (sym (onto_append rest (place_of frame)) ∙ ap (places_onto rest) (sym (append-nil (place_of frame))))

-- the places of a path are those of call edges
pub path_called : {g : Graph} {marks : List Mark} (path : List Frame) → IsPath g marks path → (p : ℕ) → Contains (places_onto path []) p → p < length g.calls
path_called {g} path is_path p has =
    let there = trail_called (places_onto path []) (trail_onto is_path [] ends) p has in
    slice_get_within g.calls p there.0 there.1

-- so are those of its parts
pub front_called : {g : Graph} {marks : List Mark} (path : List Frame) → IsPath g marks path → (all : List ℕ) → all ≡ places_onto path [] → (at p : ℕ) → Contains (take at all) p → p < length g.calls
front_called path is_path all same at p has = path_called path is_path p (subst (λ xs. Contains xs p) (take-append-drop at all ∙ same) (Contains-append_left (take at all) (drop at all) p has))

pub back_called : {g : Graph} {marks : List Mark} (path : List Frame) → IsPath g marks path → (all : List ℕ) → all ≡ places_onto path [] → (at p : ℕ) → Contains (drop at all) p → p < length g.calls
back_called path is_path all same at p has = path_called path is_path p (subst (λ xs. Contains xs p) (take-append-drop at all ∙ same) (Contains-append_right (take at all) (drop at all) p has))

onto_keeps : (path : List Frame) (places : List ℕ) (p : ℕ) → Contains places p → Contains (places_onto path places) p
onto_keeps [] places p has = has
onto_keeps (frame ∷ rest) places p has = onto_keeps rest (place_of frame ++ places) p (Contains-append_right (place_of frame) places p has)

-- a place on the path is one of them
pub on_path_placed : (path : List Frame) (places : List ℕ) (p : ℕ) → OnPath path p → Contains (places_onto path places) p
on_path_placed [] places p on = absurd (omega (arith, on.has.1))
on_path_placed (frame ∷ rest) places p on = elim (on_path_cases frame rest p on) [
  | inl here ↦ onto_keeps rest (place_of frame ++ places) p (Contains-append_left (place_of frame) places p (subst (λ o. Contains (places_in o) p) (sym here) (is_first p [])))
  | inr later ↦ on_path_placed rest (place_of frame ++ places) p later
]

-- places of call edges whose sites are one are one
same_place : (g : Graph) → StrictlyRise site_order g.calls → (p q : ℕ) (c d : Call) → slice_get g.calls p ≡ Some c → slice_get g.calls q ≡ Some d → c.site ≡ d.site → p ≡ q
same_place g rise p q c d at_p at_q same =
    let p_lt = slice_get_within g.calls p c at_p in
    let q_lt = slice_get_within g.calls q d at_q in
    let here : get_or g.calls p c ≡ c = get_or_from_slice_get g.calls p c c at_p in
    let there : get_or g.calls q c ≡ d = get_or_from_slice_get g.calls q d c at_q in
    elim (cases_lt p q) [
      | inl lt ↦ absurd (let less = lt_from_less (get_or g.calls p c).site (get_or g.calls q c).site (rise p q c lt q_lt) in omega (arith, less, same, ap (λ (x : Call). x.site) here, ap (λ (x : Call). x.site) there))
      | inr ge ↦ elim (cases_eq p q) [
        | inl e ↦ e
        | inr ne ↦ absurd (let lt : q < p = omega (arith, ne) in let less = lt_from_less (get_or g.calls q c).site (get_or g.calls p c).site (rise q p c lt p_lt) in omega (arith, less, same, ap (λ (x : Call). x.site) here, ap (λ (x : Call). x.site) there))
      ]
    ]

sites_differ : (g : Graph) → StrictlyRise site_order g.calls → (places : List ℕ) → ((p : ℕ) → Contains places p → (call : Call) × (slice_get g.calls p ≡ Some call)) → AllPairs (λ p q. p ≢ q) places → AllPairs (λ s u. s ≢ u) (map (site_at g) places)
sites_differ g rise places called differ i j d lt within =
    let j_lt : j < length places = omega (arith, length-map places (site_at g)) in
    let i_lt : i < length places = omega arith in
    let p = get_or places i d in
    let q = get_or places j d in
    let at_p = called p (Contains-get_or places i d i_lt) in
    let at_q = called q (Contains-get_or places j d j_lt) in
    λ same.
    let sites : at_p.0.site ≡ at_q.0.site = sym (site_is g p at_p.0 at_p.1) ∙ sym (get_or-map (site_at g) places i d d i_lt) ∙ same ∙ get_or-map (site_at g) places j d d j_lt ∙ site_is g q at_q.0 at_q.1 in
    differ i j d lt j_lt (same_place g rise p q at_p.0 at_q.0 at_p.1 at_q.1 sites)

-- the top of a path on which a place stands has a place
top_place : {g : Graph} {marks : List Mark} (top : Frame) (rest : List Frame) (p : ℕ) → IsPath g marks (top ∷ rest) → OnPath (top ∷ rest) p → (t : ℕ) × (top.opener ≡ Some t)
top_place top rest p (bottom {next = next} passed) on = elim (on_path_cases top [] p on) [
  | inl is ↦ absurd (let none : None ≡ Some p = is in cc)
  | inr later ↦ absurd (omega (arith, later.has.1))
]
top_place top rest p (above {p = t} opens passed fresh below) on = (t, refl)

opens_site : (g : Graph) (t p : ℕ) → OpensPlace g (Some t) p → Opens g (site_at g t) (site_at g p)
opens_site g t p (f, (call, at, candidate), (h, entry)) = record {
  from = call.from;
  to = call.to;
  function = f;
  candidate = h;
  call = call_at g t f call at candidate;
  opening = opening_at g f p h h entry (entered g f p h entry);
}

-- the newest call edge of the path opens one that is on the path
pub recursion_at : (g : Graph) → IsValid g → (marks : List Mark) (path : List Frame) → IsPath g marks path → (top : Frame) (rest : List Frame) → path ≡ top ∷ rest → (p : ℕ) → OnPath path p → OpensPlace g top.opener p
    → (at : ℕ) → at < length (places_onto path []) → get_or (places_onto path []) at p ≡ p → IsRecursion g (map (site_at g) (take at (places_onto path []))) (map (site_at g) (drop at (places_onto path [])))
recursion_at g valid marks path is_path top rest is p on_path opens at lt here =
    let all = places_onto path [] in
    let below = places_onto rest [] in
    let newest = top_place top rest p (subst (IsPath g marks) is is_path) (subst (λ xs. OnPath xs p) is on_path) in
    let t = newest.0 in
    let split : places_onto path [] ≡ places_onto rest [] ++ t ∷ [] = ap (λ xs. places_onto xs []) is ∙ ap (λ o. places_onto rest (places_in o ++ [])) newest.1 ∙ onto_append rest (t ∷ []) in
    let within : at ≤ length (places_onto rest []) = omega (arith, ap length split, length-append (places_onto rest []) (t ∷ [])) in
    let trail : Trail g None (places_onto path []) = trail_onto is_path [] ends in
    let differ = sites_differ g valid.order.calls (places_onto path []) (trail_called (places_onto path []) trail) (differ_onto is_path [] (pairs_nil (λ q r. q ≢ r)) (λ q has on. omega (arith, has.1))) in
    let joined : map (site_at g) (places_onto path []) ≡ map (site_at g) (take at (places_onto path [])) ++ map (site_at g) (drop at (places_onto path [])) = ap (map (site_at g)) (sym (take-append-drop at (places_onto path []))) ∙ map-append (site_at g) (take at (places_onto path [])) (drop at (places_onto path [])) in
    record {
      chain = subst (IsChain g) joined (trail_chain g (places_onto path []) trail);
      differ = subst (AllPairs (λ s u. s ≢ u)) joined differ;
      oldest = site_at g p;
      newest = site_at g t;
      begins = (map (site_at g) (drop (suc at) (places_onto path [])), ap (map (site_at g)) (drop-cons (places_onto path []) at p lt ∙ ap (λ x. x ∷ drop (suc at) (places_onto path [])) here));
      ends = (map (site_at g) (drop at (places_onto rest [])), ap (map (site_at g)) (ap (drop at) split ∙ drop-append-le at (places_onto rest []) (t ∷ []) within) ∙ map-append (site_at g) (drop at (places_onto rest [])) (t ∷ []));
      opens = opens_site g t p (subst (λ o. OpensPlace g o p) newest.1 opens);
    }

-- the same of lists that are these
pub recursion_from : (g : Graph) → IsValid g → (marks : List Mark) (path : List Frame) → IsPath g marks path → (top : Frame) (rest : List Frame) → path ≡ top ∷ rest → (p : ℕ) → OnPath path p → OpensPlace g top.opener p
    → (all : List ℕ) → all ≡ places_onto path [] → (at : ℕ) → (at < length all) × (get_or all at 0 ≡ p) → (first cycle : List ℕ) → first ≡ map (site_at g) (take at all) → cycle ≡ map (site_at g) (drop at all) → IsRecursion g first cycle
recursion_from g valid marks path is_path top rest is p on_path opens all same at found first cycle first_is cycle_is =
    let lt : at < length (places_onto path []) = omega (arith, ap length same, found.0) in
    let here : get_or (places_onto path []) at p ≡ p = get_or_default (places_onto path []) at p 0 lt ∙ ap (λ xs. get_or xs at 0) (sym same) ∙ found.1 in
    subst (λ xs. IsRecursion g xs cycle) (sym (first_is ∙ ap (λ xs. map (site_at g) (take at xs)) same))
    (subst (λ xs. IsRecursion g (map (site_at g) (take at (places_onto path []))) xs) (sym (cycle_is ∙ ap (λ xs. map (site_at g) (drop at xs)) same))
    (recursion_at g valid marks path is_path top rest is p on_path opens at lt here))
