-- One copy more, and what stands at the end.
use Rattle.std.proofs.Common.{◌≡◌, ◌↔◌, ◌⊎◌, inl, inr, ℕ, zero, suc, ◌+◌, ◌<◌, ◌≤◌, Bool, true, List, [], ◌∷◌, ◌++◌, length, drop, map, filter, nat_eq, get_or, Some, None, Contains, refl, sym, ◌∙◌, ap, subst, arith}
use Rattle.std.specs.Prelude.{slice_get, option_map, unwrap_or}
use Rattle.std.specs.declared.cmp.Ordering.{Ordering}
use Rattle.std.specs.declared.cmp.Ordering.TheVariants.{Less, Equal, Greater}
use Rattle.std.specs.Ordering.{nat_cmp, ordering_then}
use Rattle.std.proofs.lemmas.Bool.{eqb-true, eq-eqb}
use Rattle.std.proofs.lemmas.List.Elements.{All-contains, All-filter, All-contains_itself, filter_passes, Contains-get_or}
use Rattle.std.proofs.lemmas.List.Kept.{AllPairs-filter}
use Rattle.std.proofs.lemmas.List.{append-nil, append_assoc, length-append, length-map, get_or-map, take-append-le, take_all}
use Rattle.std.proofs.Math.Seq.{drop-cons}
use Rattle.std.proofs.lemmas.List.Sums.{sum_by_push, sum_by-cons, sum_by-append}
use Rattle.std.proofs.lemmas.Option.{slice_get_within, get_or_from_slice_get, slice_get-get_or}
use Rattle.flow_model.specs.Call.{Call}
use Rattle.flow_model.specs.Graph.{Graph}
use Rattle.flow_model.specs.Order.{site_order, StrictlyRise}
use Rattle.flow_model.specs.Rules.{IsValid}
use Rattle.flow_model.proofs.OrderLemmas.{lt_from_less, numbers_tie}
use Rattle.flow_model.proofs.Items.{contains-filter}
use Rattle.inline_model.proofs.Basics.{candidate_below, entry_is, has_function, owns_entry}
use Rattle.flow_model.proofs.Rising.{is_first, is_later}
use Rattle.inline_model.specs.Within.{Within}
use Rattle.inline_model.specs.Chains.{Opening, IsGreatest}
use Rattle.inline_model.specs.Copies.{Opened, function_of, opened_order, IsCopy, AreOpenings, Copies, Branches, AreCopies, size_of, node_count}
use Rattle.inline_model.specs.Copies.IsCopy.{of_start, goes_on}
use Rattle.inline_model.specs.Copies.Copies.{unfolds}
use Rattle.inline_model.specs.Copies.Branches.{over as b_over, branch}
use Rattle.inline_model.specs.Inlined.{HasTooManyNodes}
use Rattle.inline_model.specs.Searching.{FromFunction}
use Rattle.inline_model.specs.Searching.FromFunction.{stays, goes}
use Rattle.inline_model.proofs.ChainLemmas.{chain_from}
use Rattle.inline_model.proofs.Standing.{copy_chain, onto, sites_of, length-onto}
use Rattle.inline_model.specs.declared.table.Entry.{Entry}
use Rattle.inline_model.specs.Entries.{IsEntry, AreEntries, entry_order}
use Rattle.inline_model.specs.declared.copied.Copied.{Copied}
use Rattle.inline_model.specs.declared.copied.Waiting.{Waiting}
use Rattle.inline_model.specs.Named.{GoesOn, IsFrom, IsNamed, AreNamed, AreAllCopies}
use Rattle.inline_model.specs.Named.IsFrom.{begins, continues}
use Rattle.inline_model.specs.Copying.{nodes_of, waiting_of, item_of, IsAwaited, AreAwaited, Follow, IsCopying}
use Rattle.inline_model.specs.Copying.AreAwaited.{none, more}
use Rattle.inline_model.specs.Copying.Follow.{over, next}
use Rattle.flow_model.proofs.LessLemmas.{less_from_lt}

slice_get-append : {X : Type 0} (xs ys : List X) (i : ℕ) (x : X) → slice_get xs i ≡ Some x → slice_get (xs ++ ys) i ≡ Some x
slice_get-append [] ys i x at = absurd (let two : None ≡ Some x = at in cc)
slice_get-append (z ∷ xs) ys zero x at = at
slice_get-append (z ∷ xs) ys (suc i) x at = slice_get-append xs ys i x at

slice_get-last : {X : Type 0} (xs : List X) (x : X) → slice_get (xs ++ x ∷ []) (length xs) ≡ Some x
slice_get-last [] x = refl
slice_get-last (z ∷ xs) x = slice_get-last xs x

slice_get-push_cases : {X : Type 0} (xs : List X) (y : X) (i : ℕ) (x : X) → slice_get (xs ++ y ∷ []) i ≡ Some x → (slice_get xs i ≡ Some x) ⊎ ((i ≡ length xs) × (x ≡ y))
slice_get-push_cases [] y zero x at = inr (refl, (let two : Some y ≡ Some x = at in cc))
slice_get-push_cases [] y (suc i) x at = absurd (let two : None ≡ Some x = at in cc)
slice_get-push_cases (z ∷ xs) y zero x at = inl at
slice_get-push_cases (z ∷ xs) y (suc i) x at = elim (slice_get-push_cases xs y i x at) [
  | inl before ↦ inl before
  | inr last ↦ inr (ap suc last.0, last.1)
]

-- what was named is named still where the list has grown
goes_on_still : {g : Graph} {copies : List (List Opened)} {copy : List Opened} {parent place function : ℕ} (further : List (List Opened)) → GoesOn g copies copy parent place function → GoesOn g (copies ++ further) copy parent place function
goes_on_still {copies = copies} {parent = parent} further there = record {
  before = there.before;
  stands = slice_get-append copies further parent there.before there.stands;
  call = there.call;
  at = there.at;
  candidate = there.candidate;
  is = there.is;
}

from_still : {g : Graph} {copies : List (List Opened)} {copy : List Opened} {root : Bool} {parent place function : ℕ} (rest : List (List Opened)) → IsFrom g copies copy root parent place function → IsFrom g (copies ++ rest) copy root parent place function
from_still rest (begins empty root) = begins empty root
from_still rest (continues root there) = continues root (goes_on_still rest there)

awaited_still : {g : Graph} {copies : List (List Opened)} {ws : List Waiting} {cs : List (List Opened)} (rest : List (List Opened)) → AreAwaited g copies ws cs → AreAwaited g (copies ++ rest) ws cs
awaited_still rest none = none
awaited_still rest (more one others) = more (record { is_copy = one.is_copy; function = one.function; from = from_still rest one.from }) (awaited_still rest others)

named_still : (g : Graph) (copies : List (List Opened)) (copy : List Opened) (i : ℕ) (item : Copied) → IsNamed g copies i item → IsNamed g (copies ++ copy ∷ []) i item
named_still g copies copy i item there =
    let within : i ≤ length copies = omega (arith, slice_get_within copies i there.copy there.stands) in
    record {
      copy = there.copy;
      stands = slice_get-append copies (copy ∷ []) i there.copy there.stands;
      is_copy = there.is_copy;
      function = there.function;
      number = there.number ∙ ap (node_count g) (sym (take-append-le i copies (copy ∷ []) within));
      from = from_still (copy ∷ []) there.from;
    }

-- the next copy is put into the list
put_named : (g : Graph) (copies : List (List Opened)) (items : List Copied) (w : Waiting) (copy : List Opened) (count : ℕ) → AreNamed g copies items → IsAwaited g copies w copy → count ≡ node_count g copies → AreNamed g (copies ++ copy ∷ []) (items ++ item_of w count ∷ [])
put_named g copies items w copy count named awaited number = record {
  long = omega (arith, named.long, length-append items (item_of w count ∷ []), length-append copies (copy ∷ []));
  all = λ i item at. elim (slice_get-push_cases items (item_of w count) i item at) [
    | inl before ↦ named_still g copies copy i item (named.all i item before)
    | inr last ↦ (
        let place : i ≡ length copies = last.0 ∙ named.long in
        let here : IsNamed g (copies ++ copy ∷ []) (length copies) (item_of w count) = record {
          copy = copy;
          stands = slice_get-last copies copy;
          is_copy = awaited.is_copy;
          function = awaited.function;
          number = number ∙ ap (node_count g) (sym (take-append-le (length copies) copies (copy ∷ []) (omega arith) ∙ take_all (length copies) copies (omega arith)));
          from = from_still (copy ∷ []) awaited.from;
        } in
        subst (λ k. IsNamed g (copies ++ copy ∷ []) k item) (sym place) (subst (IsNamed g (copies ++ copy ∷ []) (length copies)) (sym last.1) here))
  ];
}

-- the call of an entry
pub site_at : Graph → ℕ → ℕ
site_at g p = unwrap_or (option_map (λ c. c.site) (slice_get g.calls p)) 0

pub opened_of : Graph → Entry → Opened
opened_of g e = record { site = site_at g e.place; candidate = e.candidate }

site_is : (g : Graph) (p : ℕ) (call : Call) → slice_get g.calls p ≡ Some call → site_at g p ≡ call.site
unfolding site_at
site_is g p call at = ap (λ o. unwrap_or (option_map (λ (c : Call). c.site) o) 0) at

-- the copies that go on from one by its entries
pub ahead_of : Graph → List Opened → List Entry → List (List Opened)
ahead_of g copy [] = []
ahead_of g copy (e ∷ own) = (opened_of g e ∷ copy) ∷ ahead_of g copy own

-- an entry of the function as an opening, and back
opening_of : (g : Graph) (f : ℕ) (e : Entry) → IsEntry g e → e.function ≡ f → Opening g f (site_at g e.place) e.candidate
opening_of g f e entry same = record {
  from = entry.call.from;
  to = entry.call.to;
  call = record {
    call = entry.call;
    has = (e.place, slice_get_within g.calls e.place entry.call entry.stands, get_or_from_slice_get g.calls e.place entry.call entry.call entry.stands);
    from = refl;
    site = sym (site_is g e.place entry.call entry.stands);
    to = refl;
    candidate = entry.candidate;
  };
  within = subst (λ k. Within g k entry.call.from) same entry.within;
}

entry_from : (g : Graph) (f : ℕ) (call : Opened) → Opening g f call.site call.candidate → (e : Entry) × IsEntry g e × (e.function ≡ f) × (opened_of g e ≡ call)
unfolding opened_of
entry_from g f call opening =
    let (p, lt, is) = opening.call.has in
    let at : slice_get g.calls p ≡ Some opening.call.call = slice_get-get_or g.calls p opening.call.call lt ∙ ap Some is in
    let site : site_at g p ≡ call.site = site_is g p opening.call.call at ∙ opening.call.site in (
      record { function = f; place = p; candidate = call.candidate },
      record { call = opening.call.call; stands = at; within = subst (Within g f) (sym opening.call.from) opening.within; candidate = opening.call.candidate },
      refl,
      λ i. record { site = site i; candidate = call.candidate },
    )

-- an order of two parts by the cases of the first
then_cases : (a b : ℕ) (o : Ordering) → ordering_then (nat_cmp a b) o ≡ Less → (a < b) ⊎ ((a ≡ b) × (o ≡ Less))
then_cases a b o h = by_first (nat_cmp a b) refl h
  where
    by_first : (p : Ordering) → nat_cmp a b ≡ p → ordering_then p o ≡ Less → (a < b) ⊎ ((a ≡ b) × (o ≡ Less))
    by_first Less is e = inl (lt_from_less a b is)
    by_first Equal is e = inr ((numbers_tie a b).0 is, e)
    by_first Greater is e = absurd (cc)

contains_map : {X Y : Type 0} (f : X → Y) (xs : List X) (x : X) → Contains xs x → Contains (map f xs) (f x)
contains_map f xs x (k, lt, is) = (k, omega (arith, length-map xs f), get_or-map f xs k x (f x) lt ∙ ap f is)

map_contains : {X Y : Type 0} (f : X → Y) (xs : List X) (d : X) (y : Y) → Contains (map f xs) y → (x : X) × Contains xs x × (f x ≡ y)
map_contains f xs d y (k, lt, is) =
    let within : k < length xs = omega (arith, length-map xs f) in
    (get_or xs k d, Contains-get_or xs k d within, sym (get_or-map f xs k d y within) ∙ is)

-- a later place has a greater site
sites_rise : (g : Graph) → StrictlyRise site_order g.calls → (p q : ℕ) (c d : Call) → slice_get g.calls p ≡ Some c → slice_get g.calls q ≡ Some d → p < q → site_at g p < site_at g q
sites_rise g rise p q c d at_p at_q lt =
    let q_lt = slice_get_within g.calls q d at_q in
    let here : get_or g.calls p c ≡ c = get_or_from_slice_get g.calls p c c at_p in
    let there : get_or g.calls q c ≡ d = get_or_from_slice_get g.calls q d c at_q in
    let less = lt_from_less (get_or g.calls p c).site (get_or g.calls q c).site (rise p q c lt q_lt) in
    omega (arith, less, site_is g p c at_p, site_is g q d at_q, ap (λ (x : Call). x.site) here, ap (λ (x : Call). x.site) there)

opened_rises : (g : Graph) → StrictlyRise site_order g.calls → (e d : Entry) → IsEntry g e → IsEntry g d → e.function ≡ d.function → entry_order e d ≡ Less → opened_order (opened_of g e) (opened_of g d) ≡ Less
unfolding opened_of
opened_rises g rise e d one two same less = elim (then_cases e.function d.function _ less) [
  | inl lt ↦ absurd (omega (arith, lt, same))
  | inr both ↦ elim (then_cases e.place d.place _ both.1) [
    | inl lt ↦ ap (λ o. ordering_then o (nat_cmp e.candidate d.candidate)) (less_from_lt (site_at g e.place) (site_at g d.place) (sites_rise g rise e.place d.place one.call two.call one.stands two.stands lt))
    | inr equal ↦ ap (λ o. ordering_then o (nat_cmp e.candidate d.candidate)) ((numbers_tie (site_at g e.place) (site_at g d.place)).1 (ap (site_at g) equal.0)) ∙ equal.1
  ]
]

opened_opening : (g : Graph) (f : ℕ) (e : Entry) (call : Opened) → opened_of g e ≡ call → Opening g f (site_at g e.place) e.candidate → Opening g f call.site call.candidate
unfolding opened_of
opened_opening g f e call same opening = subst (λ (c : Opened). Opening g f c.site c.candidate) same opening

-- the entries of a function are the calls by which its copies go on
pub openings_are : (g : Graph) → IsValid g → (entries own : List Entry) (f : ℕ) → AreEntries g entries → ((e : Entry) → Contains own e ↔ (Contains entries e × (e.function ≡ f))) → StrictlyRise entry_order own → AreOpenings g f (map (opened_of g) own)
openings_are g valid entries own f are own_has rise =
    let d : Entry = record { function = 0; place = 0; candidate = 0 } in
    record {
      all = λ call. (
        λ has.
            let there = map_contains (opened_of g) own d call has in
            let both = (own_has there.0).0 there.1 in
            opened_opening g f there.0 call there.2 (opening_of g f there.0 ((are.all there.0).0 both.0) both.1),
        λ opening.
            let there = entry_from g f call opening in
            subst (Contains (map (opened_of g) own)) there.3 (contains_map (opened_of g) own there.0 ((own_has there.0).1 ((are.all there.0).1 there.1, there.2))),
      );
      rise = λ i j dd lt within.
          let j_lt : j < length own = omega (arith, length-map own (opened_of g)) in
          let i_lt : i < length own = omega arith in
          let first = (own_has (get_or own i d)).0 (Contains-get_or own i d i_lt) in
          let second = (own_has (get_or own j d)).0 (Contains-get_or own j d j_lt) in
          let less = opened_rises g valid.order.calls (get_or own i d) (get_or own j d) ((are.all (get_or own i d)).0 first.0) ((are.all (get_or own j d)).0 second.0) (first.1 ∙ sym second.1) (rise i j d lt j_lt) in
          subst (λ x. opened_order x (get_or (map (opened_of g) own) j dd) ≡ Less) (sym (get_or-map (opened_of g) own i d dd i_lt)) (subst (λ y. opened_order (opened_of g (get_or own i d)) y ≡ Less) (sym (get_or-map (opened_of g) own j d dd j_lt)) less);
    }

-- the copies that wait for their turn after one was put into the list
children_await : (g : Graph) (copies : List (List Opened)) (place : ℕ) (copy : List Opened) → slice_get copies place ≡ Some copy → IsCopy g copy → (own : List Entry) → ((e : Entry) → Contains own e → IsEntry g e × (e.function ≡ function_of g copy)) → (ws : List Waiting) (cs : List (List Opened)) → AreAwaited g copies ws cs → AreAwaited g copies (map (waiting_of place) own ++ ws) (ahead_of g copy own ++ cs)
unfolding ahead_of opened_of
children_await g copies place copy stands is_copy [] good ws cs others = others
children_await g copies place copy stands is_copy (e ∷ own) good ws cs others =
    let here = good e (is_first e own) in
    more (record {
      is_copy = goes_on is_copy (opening_of g (function_of g copy) e here.0 here.1);
      function = refl;
      from = continues refl (record { before = copy; stands = stands; call = here.0.call; at = here.0.stands; candidate = here.0.candidate; is = ap (λ s. record { site = s; candidate = e.candidate } ∷ copy) (site_is g e.place here.0.call here.0.stands) });
    }) (children_await g copies place copy stands is_copy own (λ d has. good d (is_later e own d has)) ws cs others)

follow_branches : (g : Graph) (copy : List Opened) (own : List Entry) (cs rest : List (List Opened)) → Follow g (ahead_of g copy own ++ cs) rest → (middle : List (List Opened)) × Branches g copy (map (opened_of g) own) rest middle × Follow g cs middle
unfolding ahead_of
follow_branches g copy [] cs rest follows = (rest, b_over, follows)
follow_branches g copy (e ∷ own) cs rest (next one others) =
    let later = follow_branches g copy own cs _ others in
    (later.0, branch one later.1, later.2)

-- one turn
pub copying_more : (g : Graph) → IsValid g → (entries own : List Entry) (items : List Copied) (w : Waiting) (ws : List Waiting) (count : ℕ) → AreEntries g entries → ((e : Entry) → Contains own e ↔ (Contains entries e × (e.function ≡ w.function))) → StrictlyRise entry_order own
    → IsCopying g items (w ∷ ws) count → count + nodes_of g w.function ≤ 200000 → IsCopying g (items ++ item_of w count ∷ []) (map (waiting_of (length items)) own ++ ws) (count + nodes_of g w.function)
copying_more g valid entries own items w ws count are own_has rise before few = with_ahead before.ahead before.awaited before.goes_on
  where
    with_ahead : (ahead : List (List Opened)) → AreAwaited g before.copies (w ∷ ws) ahead → ((rest : List (List Opened)) → Follow g ahead rest → AreCopies g (before.copies ++ rest)) → IsCopying g (items ++ item_of w count ∷ []) (map (waiting_of (length items)) own ++ ws) (count + nodes_of g w.function)
    with_ahead [] none_there so_far = elim none_there [ ]
    with_ahead (copy ∷ cs) (more one others) so_far =
        let openings : AreOpenings g (function_of g copy) (map (opened_of g) own) = subst (λ f. AreOpenings g f (map (opened_of g) own)) one.function (openings_are g valid entries own w.function are own_has rise) in
        let place : slice_get (before.copies ++ copy ∷ []) (length items) ≡ Some copy = ap (slice_get (before.copies ++ copy ∷ [])) before.named.long ∙ slice_get-last before.copies copy in
        record {
          copies = before.copies ++ copy ∷ [];
          named = put_named g before.copies items w copy count before.named one before.count_is;
          ahead = ahead_of g copy own ++ cs;
          awaited = children_await g (before.copies ++ copy ∷ []) (length items) copy place one.is_copy own (λ e has. (let both = (own_has e).0 has in ((are.all e).0 both.0, both.1 ∙ one.function))) ws cs (awaited_still (copy ∷ []) others);
          goes_on = λ rest follows. (
              let later = follow_branches g copy own cs rest follows in
              subst (AreCopies g) (sym (append_assoc before.copies (copy ∷ []) rest)) (so_far (copy ∷ rest) (next (unfolds openings later.1) later.2)));
          count_is = omega (arith, before.count_is, sum_by_push (size_of g) before.copies copy, ap (nodes_of g) one.function);
          few = few;
        }

-- the function of a copy is one of the model's
pub copy_known : {g : Graph} → IsValid g → {copy : List Opened} → IsCopy g copy → function_of g copy < length g.functions
copy_known valid of_start = valid.functions.start
copy_known valid (goes_on before opening) = candidate_below valid opening.call

-- so is that of the next copy that waits
pub waiting_known : (g : Graph) → IsValid g → (items : List Copied) (w : Waiting) (ws : List Waiting) (count : ℕ) → IsCopying g items (w ∷ ws) count → w.function < length g.functions
waiting_known g valid items w ws count before = first_known before.ahead before.awaited
  where
    first_known : (ahead : List (List Opened)) → AreAwaited g before.copies (w ∷ ws) ahead → w.function < length g.functions
    first_known [] none_there = elim none_there [ ]
    first_known (copy ∷ cs) (more one others) = omega (arith, one.function, copy_known valid one.is_copy)

-- each function has a node
pub nodes_some : (g : Graph) → IsValid g → (f : ℕ) → f < length g.functions → 0 < nodes_of g f
nodes_some g valid f lt =
    let there = has_function {g = g} f lt in
    let owns = owns_entry g.functions g.nodes f there.0 valid.entries there.1 in
    omega (arith, owns.to, entry_is g.functions f there.0 there.1)

-- nothing waits any more
pub copying_ends : (g : Graph) (items : List Copied) (count : ℕ) → IsCopying g items [] count → AreAllCopies g items
copying_ends g items count before = with_ahead before.ahead before.awaited before.goes_on
  where
    with_ahead : (ahead : List (List Opened)) → AreAwaited g before.copies [] ahead → ((rest : List (List Opened)) → Follow g ahead rest → AreCopies g (before.copies ++ rest)) → AreAllCopies g items
    with_ahead [] none so_far = record {
      copies = before.copies;
      are = subst (AreCopies g) (append-nil before.copies) (so_far [] over);
      named = before.named;
      few = omega (arith, before.few, before.count_is);
    }
    with_ahead (copy ∷ cs) none_there so_far = elim none_there [ ]

-- before the first turn
pub copying_begins : (g : Graph) (start : ℕ) → start ≡ g.start → IsCopying g [] (record { function = start; root = true; parent = 0; place = 0 } ∷ []) 0
copying_begins g start same = record {
  copies = [];
  named = record { long = refl; all = λ i item at. absurd (let two : None ≡ Some item = at in cc) };
  ahead = [] ∷ [];
  awaited = more (record { is_copy = of_start; function = same; from = begins refl refl }) none;
  goes_on = first_follow;
  count_is = refl;
  few = omega arith;
}
  where
    first_follow : (rest : List (List Opened)) → Follow g ([] ∷ []) rest → AreCopies g rest
    first_follow rest (next one over) = one

-- Where chains have a greatest length, each copy has a list of those that go on from it.
branches_exist : (g : Graph) (copy calls : List Opened) → ((call : Opened) → Contains calls call → (rest : List (List Opened)) → (list : List (List Opened)) × Copies g (call ∷ copy) list rest) → (rest : List (List Opened)) → (list : List (List Opened)) × Branches g copy calls list rest
branches_exist g copy [] each rest = (rest, b_over)
branches_exist g copy (call ∷ calls) each rest =
    let later = branches_exist g copy calls (λ d has. each d (is_later call calls d has)) rest in
    let first = each call (is_first call calls) later.0 in
    (first.0, branch first.1 later.1)

copies_exist : (g : Graph) → ((f : ℕ) → (calls : List Opened) × AreOpenings g f calls) → (n : ℕ) (copy : List Opened) → ((sites : List ℕ) → FromFunction g (function_of g copy) sites → length sites ≤ n) → (rest : List (List Opened)) → (list : List (List Opened)) × Copies g copy list rest
copies_exist g all zero copy bound rest =
    let openings = all (function_of g copy) in
    let branches = branches_exist g copy openings.0 (λ call has later. absurd (let none = bound (call.site ∷ []) (goes ((openings.1.all call).0 has) stays) in omega (arith, none))) rest in
    (copy ∷ branches.0, unfolds openings.1 branches.1)
copies_exist g all (suc n) copy bound rest =
    let openings = all (function_of g copy) in
    let branches = branches_exist g copy openings.0 (λ call has later. copies_exist g all n (call ∷ copy) (λ sites from. (let more = bound (call.site ∷ sites) (goes ((openings.1.all call).0 has) from) in omega (arith, more))) later) rest in
    (copy ∷ branches.0, unfolds openings.1 branches.1)

-- the longest chains bound those from a copy
from_copy : (g : Graph) (n : ℕ) → IsGreatest g n → {copy : List Opened} → IsCopy g copy → (sites : List ℕ) → FromFunction g (function_of g copy) sites → length sites ≤ n
from_copy g n greatest {copy} is_copy sites from =
    let chain = greatest.all (onto (sites_of copy) sites) (chain_from (copy_chain is_copy sites from)) in
    omega (arith, chain, length-onto (sites_of copy) sites)

follow_exists : (g : Graph) → ((f : ℕ) → (calls : List Opened) × AreOpenings g f calls) → (n : ℕ) → IsGreatest g n → {copies : List (List Opened)} {ws : List Waiting} {cs : List (List Opened)} → AreAwaited g copies ws cs → (rest : List (List Opened)) × Follow g cs rest
follow_exists g all n greatest none = ([], over)
follow_exists g all n greatest (more {copy = copy} one others) =
    let later = follow_exists g all n greatest others in
    let first = copies_exist g all n copy (from_copy g n greatest one.is_copy) later.0 in
    (first.0, next first.1 later.1)

-- the entries of each function
all_openings : (g : Graph) → IsValid g → (entries : List Entry) → AreEntries g entries → (f : ℕ) → (calls : List Opened) × AreOpenings g f calls
all_openings g valid entries are f =
    let own = filter (λ (e : Entry). nat_eq e.function f) entries in (
      map (opened_of g) own,
      openings_are g valid entries own f are
          (λ e. (
            λ has. (
              All-contains (Contains entries) own e (All-filter (λ (d : Entry). nat_eq d.function f) (Contains entries) entries (All-contains_itself entries)) has,
              eqb-true e.function f (All-contains (λ (d : Entry). nat_eq d.function f ≡ true) own e (filter_passes (λ (d : Entry). nat_eq d.function f) entries) has),
            ),
            λ both. contains-filter (λ (d : Entry). nat_eq d.function f) entries e both.0.0 both.0.1 both.0.2 (eq-eqb e.function f both.1),
          ))
          (AllPairs-filter (λ x y. entry_order x y ≡ Less) (λ (d : Entry). nat_eq d.function f) entries are.rise),
    )

begins_with : {g : Graph} {copy : List Opened} {list rest : List (List Opened)} → Copies g copy list rest → (more : List (List Opened)) × (list ≡ copy ∷ more)
begins_with (unfolds {list = list} openings branches) = (list, refl)

too_many : (g : Graph) (copies : List (List Opened)) (copy : List Opened) (rest : List (List Opened)) (count f : ℕ) → count ≡ node_count g copies → f ≡ function_of g copy → ((later : List (List Opened)) × (rest ≡ copy ∷ later)) → 200000 < count + nodes_of g f → 200000 < node_count g (copies ++ rest)
too_many g copies copy rest count f number function (later, is) many =
    omega (arith, many, number, ap (nodes_of g) function, ap (λ xs. node_count g (copies ++ xs)) is, sum_by-append (size_of g) copies (copy ∷ later), sum_by-cons (size_of g) copy later)

-- the copies have too many nodes
pub copying_overflows : (g : Graph) → IsValid g → (entries : List Entry) → AreEntries g entries → (n : ℕ) → IsGreatest g n → (items : List Copied) (w : Waiting) (ws : List Waiting) (count : ℕ) → IsCopying g items (w ∷ ws) count → 200000 < count + nodes_of g w.function → HasTooManyNodes g
copying_overflows g valid entries are n greatest items w ws count before many =
    let there = follow_exists g (all_openings g valid entries are) n greatest before.awaited in
    with_ahead before.ahead before.awaited there.0 there.1 (before.goes_on there.0 there.1)
  where
    with_ahead : (ahead : List (List Opened)) → AreAwaited g before.copies (w ∷ ws) ahead → (rest : List (List Opened)) → Follow g ahead rest → AreCopies g (before.copies ++ rest) → HasTooManyNodes g
    with_ahead [] none_there rest follows all_copies = elim none_there [ ]
    with_ahead (copy ∷ cs) (more one others) rest (next first later) all_copies = record {
      copies = before.copies ++ rest;
      are = all_copies;
      many = too_many g before.copies copy rest count w.function before.count_is one.function (begins_with first) many;
    }

-- one entry more waits
pub waits_more : (own : List Entry) (k i parent : ℕ) (d : Entry) (ws : List Waiting) → k < length own → i ≡ suc k → waiting_of parent (get_or own k d) ∷ (map (waiting_of parent) (drop i own) ++ ws) ≡ map (waiting_of parent) (drop k own) ++ ws
waits_more own k i parent d ws lt next_is = ap (λ n. waiting_of parent (get_or own k d) ∷ (map (waiting_of parent) (drop n own) ++ ws)) next_is ∙ ap (λ xs. map (waiting_of parent) xs ++ ws) (sym (drop-cons own k d lt))

-- the same of lists that are these
pub copying_taken : (g : Graph) → IsValid g → (entries own : List Entry) (items : List Copied) (w : Waiting) (ws : List Waiting) (count : ℕ) → AreEntries g entries → ((e : Entry) → Contains own e ↔ (Contains entries e × (e.function ≡ w.function))) → StrictlyRise entry_order own → IsCopying g items (w ∷ ws) count
    → (new_items : List Copied) (new_ws : List Waiting) (place n : ℕ) → new_items ≡ items ++ item_of w count ∷ [] → new_ws ≡ map (waiting_of place) own ++ ws → place ≡ length items → (n ≡ count + nodes_of g w.function) × (n ≤ 200000) → IsCopying g new_items new_ws n × (n ≤ 200000)
copying_taken g valid entries own items w ws count are own_has rise before new_items new_ws place n items_are ws_are place_is counted =
    let more = copying_more g valid entries own items w ws count are own_has rise before (omega (arith, counted.0, counted.1)) in (
      subst (λ xs. IsCopying g xs new_ws n) (sym items_are)
          (subst (λ xs. IsCopying g (items ++ item_of w count ∷ []) xs n) (sym (ws_are ∙ ap (λ p. map (waiting_of p) own ++ ws) place_is))
          (subst (IsCopying g (items ++ item_of w count ∷ []) (map (waiting_of (length items)) own ++ ws)) (sym counted.0) more)),
      counted.1,
    )
