-- The next place, and the heights of functions.
use Rattle.std.proofs.Common.{◌≡◌, ◌↔◌, ◌⊎◌, inl, inr, ℕ, ◌+◌, ◌<◌, ◌≤◌, min, max, List, [], ◌∷◌, ◌++◌, length, take, get_or, set, Option, Some, None, Contains, refl, sym, ap, ◌∙◌, subst, arith}
use Prim.Native.Nat.{zero, suc}
use Rattle.std.specs.Prelude.{slice_get}
use Rattle.std.proofs.lemmas.Bool.{cases_lt, cases_eq}
use Rattle.std.proofs.lemmas.List.{take_more, length-set}
use Rattle.std.proofs.lemmas.List.Elements.{Contains-push_cases, Contains-append_left, Contains-push}
use Rattle.std.proofs.lemmas.List.Sums.{sum_by-cons, sum_by-set}
use Rattle.std.proofs.lemmas.Option.{none-some, slice_get_within, get_or_from_slice_get, slice_get-get_or}
use Rattle.flow_model.specs.Call.{Call}
use Rattle.flow_model.specs.Graph.{Graph}
use Rattle.inline_model.specs.Within.{Within}
use Rattle.inline_model.specs.Chains.{Opening}
use Rattle.inline_model.specs.Searching.{FromFunction}
use Rattle.inline_model.specs.Searching.FromFunction.{stays, goes}
use Rattle.inline_model.specs.declared.table.Entry.{Entry}
use Rattle.inline_model.specs.Entries.{IsEntry, AreEntries}
use Rattle.inline_model.specs.Searching.{IsHeight, HasPlace, Enters, IsComplete, count_of, known_count, AreLow, IsReady, StayLow, IsNext, lesser, IsGreatestAbove, AreHeights, Completes}

module _ (g : Graph) (heights : List (Option ℕ)) (from : ℕ) where
  -- the same of functions told by other words
  pub next_like : {F G : ℕ → Type 0} → ((f : ℕ) → F f → G f) → ((f : ℕ) → G f → F f) → (r : Option ℕ) → IsNext g heights F from r → IsNext g heights G from r
  next_like to back None next = λ f p has least place. next f p (back f has) least place
  next_like to back (Some q) next = (next.0, (next.1.0, to next.1.0 next.1.1, next.1.2), λ f p has least less place. next.2 f p (back f has) least less place)

  pub next_none : {F : ℕ → Type 0} → ((f : ℕ) → F f → ⊥) → IsNext g heights F from None
  next_none none f p has least place = absurd (none f has)

  -- of one functions or the others
  pub next_either : (F G : ℕ → Type 0) → (a b : Option ℕ) → IsNext g heights F from a → IsNext g heights G from b → IsNext g heights (λ f. F f ⊎ G f) from (lesser a b)
  next_either F G None None one two = λ f p either least place. elim either [ inl has ↦ one f p has least place | inr has ↦ two f p has least place ]
  next_either F G None (Some q) one two = (two.0, (two.1.0, inr two.1.1, two.1.2), λ f p either least less place. elim either [ inl has ↦ one f p has least place | inr has ↦ two.2 f p has least less place ])
  next_either F G (Some q) None one two = (one.0, (one.1.0, inl one.1.1, one.1.2), λ f p either least less place. elim either [ inl has ↦ one.2 f p has least less place | inr has ↦ two f p has least place ])
  next_either F G (Some q) (Some r) one two = elim (cases_lt q r) [
    | inl lt ↦
        let is : min q r ≡ q = omega arith in
        subst (λ k. IsNext g heights (λ f. F f ⊎ G f) from (Some k)) (sym is) (one.0, (one.1.0, inl one.1.1, one.1.2), λ f p either least less place. elim either [ inl has ↦ one.2 f p has least less place | inr has ↦ two.2 f p has least (omega arith) place ])
    | inr ge ↦
        let is : min q r ≡ r = omega arith in
        subst (λ k. IsNext g heights (λ f. F f ⊎ G f) from (Some k)) (sym is) (two.0, (two.1.0, inr two.1.1, two.1.2), λ f p either least less place. elim either [ inl has ↦ one.2 f p has least (omega arith) place | inr has ↦ two.2 f p has least less place ])
  ]

-- what stands by an entry of the table
place_entry : {g : Graph} {entries : List Entry} → AreEntries g entries → (f p : ℕ) → HasPlace g f p → (e : Entry) × Contains entries e × (e.function ≡ f) × (e.place ≡ p)
place_entry are f p (h, entry) = (record { function = f; place = p; candidate = h }, (are.all (record { function = f; place = p; candidate = h })).1 entry, refl, refl)

-- the next place of one function whose height isn't known
pub next_one : (g : Graph) (entries : List Entry) (heights : List (Option ℕ)) (function from p : ℕ) → AreEntries g entries
    → from ≤ p → ((h : ℕ) × Contains entries (record { function = function; place = p; candidate = h }))
    → ((e : Entry) → Contains entries e → e.function ≡ function → from ≤ e.place → p ≤ e.place) → IsNext g heights (λ f. f ≡ function) from (Some p)
next_one g entries heights function from p are least has all = (
  least,
  (function, refl, (has.0, (are.all (record { function = function; place = p; candidate = has.0 })).0 has.1)),
  λ f q same low less place.
      let there = place_entry are f q place in
      let above = all there.0 there.1 (there.2 ∙ same) (omega (arith, there.3)) in
      absurd (omega (arith, above, there.3)),
)

pub next_over : (g : Graph) (entries : List Entry) (heights : List (Option ℕ)) (function from : ℕ) → AreEntries g entries
    → ((e : Entry) → Contains entries e → e.function ≡ function → from ≤ e.place → ⊥) → IsNext g heights (λ f. f ≡ function) from None
next_over g entries heights function from are none f q same low place =
    let there = place_entry are f q place in
    absurd (none there.0 there.1 (there.2 ∙ same) (omega (arith, there.3)))

pub next_known : (g : Graph) (heights : List (Option ℕ)) (function from : ℕ) → IsComplete heights function → IsNext g heights (λ f. f ≡ function) from None
next_known g heights function from known f q same low place = subst (IsComplete heights) (sym same) known

-- one function of a list more
pub next_more : (g : Graph) (heights : List (Option ℕ)) (from : ℕ) (functions : List ℕ) (k f : ℕ) (a b : Option ℕ) → k < length functions → f ≡ get_or functions k f → IsNext g heights (Contains (take k functions)) from a → IsNext g heights (λ h. h ≡ f) from b → IsNext g heights (Contains (take (k + 1) functions)) from (lesser a b)
next_more g heights from functions k f a b lt at one two =
    let more : take (k + 1) functions ≡ take k functions ++ f ∷ [] = take_more functions k f lt ∙ ap (λ x. take k functions ++ x ∷ []) (sym at) in
    next_like g heights from {F = λ h. Contains (take k functions) h ⊎ (h ≡ f)} {G = Contains (take (k + 1) functions)}
    (λ h either. subst (λ xs. Contains xs h) (sym more) (elim either [ inl before ↦ Contains-append_left (take k functions) (f ∷ []) h before | inr same ↦ subst (Contains (take k functions ++ f ∷ [])) (sym same) (Contains-push (take k functions) f) ]))
    (λ h has. elim (Contains-push_cases (take k functions) f h (subst (λ xs. Contains xs h) more has)) [ inl before ↦ inl before | inr same ↦ inr (sym same) ])
    (lesser a b) (next_either g heights from (Contains (take k functions)) (λ h. h ≡ f) a b one two)

-- the greatest height of the candidates, one more, is the function's
module _ (g : Graph) (entries own : List Entry) (f : ℕ) (are : AreEntries g entries) (own_has : (e : Entry) → Contains own e ↔ (Contains entries e × (e.function ≡ f))) (heights : List (Option ℕ)) (right : AreHeights g heights) where
  entry_of_opening : {s h : ℕ} (opening : Opening g f s h) → (e : Entry) × Contains own e × (e.candidate ≡ h)
  entry_of_opening {s} {h} opening =
      let call = opening.call in
      let at = call.has in
      let e : Entry = record { function = f; place = at.0; candidate = h } in
      let entry : IsEntry g e = record { call = call.call; stands = slice_get-get_or g.calls at.0 call.call at.1 ∙ ap Some at.2; within = subst (Within g f) (sym call.from) opening.within; candidate = call.candidate } in
      (e, (own_has e).1 ((are.all e).1 entry, refl), refl)

  all_below : (n : ℕ) → IsGreatestAbove own heights n → (sites : List ℕ) → FromFunction g f sites → length sites ≤ n
  all_below n greatest [] stays = omega arith
  all_below n greatest (s ∷ sites) (goes {h = h} opening rest) =
      let there = entry_of_opening opening in
      let known = greatest.all there.0 there.1 in
      let height : slice_get heights h ≡ Some (Some known.0) = ap (slice_get heights) (sym there.2) ∙ known.1 in
      omega (arith, (right h known.0 height).all sites rest, known.2)

  opening_of_entry : (e : Entry) → Contains own e → (s : ℕ) × Opening g f s e.candidate
  opening_of_entry e has =
      let both = (own_has e).0 has in
      let entry = (are.all e).0 both.0 in
      let contains : Contains g.calls entry.call = (e.place, slice_get_within g.calls e.place entry.call entry.stands, get_or_from_slice_get g.calls e.place entry.call entry.call entry.stands) in
      (entry.call.site, record { from = entry.call.from; to = entry.call.to; call = record { call = entry.call; has = contains; from = refl; site = refl; to = refl; candidate = entry.candidate }; within = subst (λ k. Within g k entry.call.from) both.1 entry.within })

  pub height_from : (n : ℕ) → IsGreatestAbove own heights n → IsHeight g f n
  height_from n greatest = record {
    some = elim greatest.some [
      | inl none ↦ ([], stays, sym none)
      | inr there ↦
          let opening = opening_of_entry there.0 there.2 in
          let height = (right there.0.candidate there.1 there.3).some in
          (opening.0 ∷ height.0, goes opening.1 height.1, omega (arith, height.2, there.4))
    ];
    all = all_below n greatest;
  }

pub greatest_more : (entries : List Entry) (heights : List (Option ℕ)) (k n m : ℕ) (e : Entry) (r : ℕ) → k < length entries → e ≡ get_or entries k e → IsGreatestAbove (take k entries) heights n → slice_get heights e.candidate ≡ Some (Some m) → r ≡ max n (m + 1) → IsGreatestAbove (take (k + 1) entries) heights r
greatest_more entries heights k n m e r lt at before known is =
    let more : take (k + 1) entries ≡ take k entries ++ e ∷ [] = take_more entries k e lt ∙ ap (λ x. take k entries ++ x ∷ []) (sym at) in
    record {
      all = λ d has. elim (Contains-push_cases (take k entries) e d (subst (λ xs. Contains xs d) more has)) [
        | inl earlier ↦ (let there = before.all d earlier in (there.0, there.1, omega (arith, there.2)))
        | inr same ↦ (m, ap (λ (x : Entry). slice_get heights x.candidate) (sym same) ∙ known, omega arith)
      ];
      some = elim (cases_lt n (m + 1)) [
        | inl lt ↦ inr (e, m, subst (λ xs. Contains xs e) (sym more) (Contains-push (take k entries) e), known, omega arith)
        | inr ge ↦ elim before.some [
          | inl none ↦ absurd (omega (arith, none))
          | inr there ↦ inr (there.0, there.1, subst (λ xs. Contains xs there.0) (sym more) (Contains-append_left (take k entries) (e ∷ []) there.0 there.2), there.3, omega (arith, there.4))
        ]
      ];
    }

-- one height is noted
pub completes_known : (g : Graph) (heights : List (Option ℕ)) (f : ℕ) → AreHeights g heights → IsComplete heights f → Completes g heights heights (λ h. h ≡ f)
completes_known g heights f right known = record {
  tall = refl;
  heights = right;
  still = λ h is. is;
  only = λ h is. inl is;
  all = λ h same. subst (IsComplete heights) (sym same) known;
}

pub slice_get-set_same : {X : Type 0} (xs : List X) (i : ℕ) (x : X) → i < length xs → slice_get (set xs i x) i ≡ Some x
slice_get-set_same [] i x lt = absurd (omega arith)
slice_get-set_same (y ∷ xs) zero x lt = refl
slice_get-set_same (y ∷ xs) (suc i) x lt = slice_get-set_same xs i x (omega arith)

pub slice_get-set_other : {X : Type 0} (xs : List X) (i j : ℕ) (x : X) → (j ≡ i → ⊥) → slice_get (set xs i x) j ≡ slice_get xs j
slice_get-set_other [] i j x other = refl
slice_get-set_other (y ∷ xs) zero zero x other = absurd (other refl)
slice_get-set_other (y ∷ xs) zero (suc j) x other = refl
slice_get-set_other (y ∷ xs) (suc i) zero x other = refl
slice_get-set_other (y ∷ xs) (suc i) (suc j) x other = slice_get-set_other xs i j x (λ e. other (ap suc e))

pub completes_one : (g : Graph) (old new : List (Option ℕ)) (f n : ℕ) → AreHeights g old → f < length old → new ≡ set old f (Some n) → IsHeight g f n → Completes g old new (λ h. h ≡ f)
completes_one g old new f n right lt is height =
    let here : slice_get new f ≡ Some (Some n) = ap (λ xs. slice_get xs f) is ∙ slice_get-set_same old f (Some n) lt in
    let others : (h : ℕ) → (h ≡ f → ⊥) → slice_get new h ≡ slice_get old h = λ h ne. ap (λ xs. slice_get xs h) is ∙ slice_get-set_other old f h (Some n) ne in
    record {
      tall = ap length is ∙ length-set old f (Some n);
      heights = λ h m at. elim (cases_eq h f) [
        | inl same ↦
            let value : Some (Some n) ≡ Some (Some m) = sym here ∙ ap (slice_get new) (sym same) ∙ at in
            let number : n ≡ m = cc in
            subst (λ k. IsHeight g k m) (sym same) (subst (IsHeight g f) number height)
        | inr ne ↦ right h m (sym (others h ne) ∙ at)
      ];
      still = λ h known. elim (cases_eq h f) [
        | inl same ↦ (n, ap (slice_get new) same ∙ here)
        | inr ne ↦ (known.0, others h ne ∙ known.1)
      ];
      only = λ h known. elim (cases_eq h f) [
        | inl same ↦ inr same
        | inr ne ↦ inl (known.0, sym (others h ne) ∙ known.1)
      ];
      all = λ h same. (n, ap (slice_get new) same ∙ here);
    }

-- there are no more known heights than heights
count_few : (heights : List (Option ℕ)) → known_count heights ≤ length heights
count_few [] = omega arith
count_few (None ∷ heights) = omega (arith, sum_by-cons count_of None heights, count_few heights)
count_few (Some n ∷ heights) = omega (arith, sum_by-cons count_of (Some n) heights, count_few heights)

pub height_few : (heights : List (Option ℕ)) → AreLow heights → (f n : ℕ) → slice_get heights f ≡ Some (Some n) → n < 200000
height_few heights low f n at = omega (arith, low.below f n at, low.few, count_few heights)

-- the next height is no more than the number of those that are known
pub height_next : (entries : List Entry) (heights : List (Option ℕ)) (n : ℕ) → AreLow heights → IsGreatestAbove entries heights n → n ≤ known_count heights
height_next entries heights n low greatest = elim greatest.some [
  | inl none ↦ omega (arith, none)
  | inr there ↦ omega (arith, low.below there.0.candidate there.1 there.3, there.4)
]

unknown_at : (heights : List (Option ℕ)) (f : ℕ) → f < length heights → (IsComplete heights f → ⊥) → slice_get heights f ≡ Some None
unknown_at heights f lt unknown = by_value (get_or heights f None) (slice_get-get_or heights f None lt)
  where
    by_value : (h : Option ℕ) → slice_get heights f ≡ Some h → slice_get heights f ≡ Some None
    by_value None at = at
    by_value (Some n) at = absurd (unknown (n, at))

-- heights that stay as they are, and one that is noted
pub stays_same : (heights : List (Option ℕ)) → AreLow heights → StayLow heights heights
stays_same heights low = record { tall = refl; low = low; still = λ f known. known }

pub stays_one : (old new : List (Option ℕ)) (f n : ℕ) → AreLow old → f < length old → (IsComplete old f → ⊥) → n ≤ known_count old → new ≡ set old f (Some n) → StayLow old new
stays_one old new f n low lt unknown few is =
    let none : get_or old f None ≡ None = get_or_from_slice_get old f None None (unknown_at old f lt unknown) in
    let tall : length new ≡ length old = ap length is ∙ length-set old f (Some n) in
    let count : known_count new ≡ known_count old + 1 = omega (arith, ap known_count is, sum_by-set count_of old f (Some n) None lt, ap count_of none) in
    let here : slice_get new f ≡ Some (Some n) = ap (λ xs. slice_get xs f) is ∙ slice_get-set_same old f (Some n) lt in
    let others : (h : ℕ) → (h ≡ f → ⊥) → slice_get new h ≡ slice_get old h = λ h ne. ap (λ xs. slice_get xs h) is ∙ slice_get-set_other old f h (Some n) ne in
    record {
      tall = tall;
      low = record {
        few = omega (arith, tall, low.few);
        below = λ h m at. elim (cases_eq h f) [
          | inl same ↦
              let value : Some (Some n) ≡ Some (Some m) = sym here ∙ ap (slice_get new) (sym same) ∙ at in
              let number : n ≡ m = cc in
              omega (arith, number, few, count)
          | inr ne ↦ omega (arith, low.below h m (sym (others h ne) ∙ at), count)
        ];
      };
      still = λ h known. elim (cases_eq h f) [
        | inl same ↦ (n, ap (slice_get new) same ∙ here)
        | inr ne ↦ (known.0, others h ne ∙ known.1)
      ];
    }

pub stays_then : (a b c : List (Option ℕ)) → StayLow a b → StayLow b c → StayLow a c
stays_then a b c one two = record {
  tall = two.tall ∙ one.tall;
  low = two.low;
  still = λ f known. two.still f (one.still f known);
}

-- what can be told can be told where more is known
pub ready_still : (entries : List Entry) (old new : List (Option ℕ)) (f : ℕ) → StayLow old new → IsReady entries old f → IsReady entries new f
ready_still entries old new f kept ready = record {
  within = omega (arith, ready.within, kept.tall);
  candidates = λ e has same. kept.still e.candidate (ready.candidates e has same);
}

pub completes_none : {F : ℕ → Type 0} (g : Graph) (heights : List (Option ℕ)) → AreHeights g heights → ((f : ℕ) → F f → ⊥) → Completes g heights heights F
completes_none g heights right none = record { tall = refl; heights = right; still = λ h is. is; only = λ h is. inl is; all = λ h has. absurd (none h has) }

pub completes_like : {F G : ℕ → Type 0} (g : Graph) (old new : List (Option ℕ)) → ((f : ℕ) → F f → G f) → ((f : ℕ) → G f → F f) → Completes g old new F → Completes g old new G
completes_like g old new to back made = record {
  tall = made.tall;
  heights = made.heights;
  still = made.still;
  only = λ h is. elim (made.only h is) [ inl before ↦ inl before | inr has ↦ inr (to h has) ];
  all = λ h has. made.all h (back h has);
}

pub completes_then : {F G : ℕ → Type 0} (g : Graph) (a b c : List (Option ℕ)) → Completes g a b F → Completes g b c G → Completes g a c (λ f. F f ⊎ G f)
completes_then g a b c one two = record {
  tall = two.tall ∙ one.tall;
  heights = two.heights;
  still = λ h is. two.still h (one.still h is);
  only = λ h is. elim (two.only h is) [
    | inl middle ↦ elim (one.only h middle) [ inl before ↦ inl before | inr has ↦ inr (inl has) ]
    | inr has ↦ inr (inr has)
  ];
  all = λ h either. elim either [ inl has ↦ two.still h (one.all h has) | inr has ↦ two.all h has ];
}

-- one function of a list more
pub completes_more : (g : Graph) (functions : List ℕ) (k f : ℕ) (a b c : List (Option ℕ)) → k < length functions → f ≡ get_or functions k f → Completes g a b (Contains (take k functions)) → Completes g b c (λ h. h ≡ f) → Completes g a c (Contains (take (k + 1) functions))
completes_more g functions k f a b c lt at one two =
    let more : take (k + 1) functions ≡ take k functions ++ f ∷ [] = take_more functions k f lt ∙ ap (λ x. take k functions ++ x ∷ []) (sym at) in
    completes_like {F = λ h. Contains (take k functions) h ⊎ (h ≡ f)} {G = Contains (take (k + 1) functions)} g a c
    (λ h either. subst (λ xs. Contains xs h) (sym more) (elim either [ inl before ↦ Contains-append_left (take k functions) (f ∷ []) h before | inr same ↦ subst (Contains (take k functions ++ f ∷ [])) (sym same) (Contains-push (take k functions) f) ]))
    (λ h has. elim (Contains-push_cases (take k functions) f h (subst (λ xs. Contains xs h) more has)) [ inl before ↦ inl before | inr same ↦ inr (sym same) ])
    (completes_then g a b c one two)

-- the functions that the opener may enter, where it is a call edge
pub enters_call : (g : Graph) (opener : Option ℕ) (place : ℕ) (call : Call) (candidates : List ℕ) → opener ≡ Some place → slice_get g.calls place ≡ Some call → candidates ≡ call.candidates → (f : ℕ) → Contains candidates f → Enters g opener f
enters_call g opener place call candidates is at same f has = subst (λ o. Enters g o f) (sym is) (call, at, subst (λ xs. Contains xs f) same has)

pub call_enters : (g : Graph) (opener : Option ℕ) (place : ℕ) (call : Call) (candidates : List ℕ) → opener ≡ Some place → slice_get g.calls place ≡ Some call → candidates ≡ call.candidates → (f : ℕ) → Enters g opener f → Contains candidates f
call_enters g opener place call candidates is at same f enters =
    let (other, there, has) = subst (λ o. Enters g o f) is enters in
    let both : Some other ≡ Some call = sym there ∙ at in
    let one : other ≡ call = cc in
    subst (λ xs. Contains xs f) (ap (λ (c : Call). c.candidates) one ∙ sym same) has

pub enters_nothing : (g : Graph) (opener : Option ℕ) (place : ℕ) → opener ≡ Some place → slice_get g.calls place ≡ None → (f : ℕ) → Enters g opener f → ⊥
enters_nothing g opener place is none f enters =
    let (other, there, has) = subst (λ o. Enters g o f) is enters in
    none-some other (sym none ∙ there)

pub enters_start : (g : Graph) (opener : Option ℕ) (start : ℕ) → opener ≡ None → start ≡ g.start → (f : ℕ) → f ≡ start → Enters g opener f
enters_start g opener start is same f one = subst (λ o. Enters g o f) (sym is) (one ∙ same)

pub start_enters : (g : Graph) (opener : Option ℕ) (start : ℕ) → opener ≡ None → start ≡ g.start → (f : ℕ) → Enters g opener f → f ≡ start
start_enters g opener start is same f enters = let one : f ≡ g.start = subst (λ o. Enters g o f) is enters in one ∙ sym same
