-- Lists whose keys rise, cut where each key begins.
use Rattle.std.proofs.Common.{◌≡◌, ℕ, suc, ◌+◌, ◌-◌, ◌<◌, ◌≤◌, Bool, true, false, cond, nat_lt, nat_eq, not, ◌&&◌, List, [], ◌∷◌, ◌++◌, length, get_or, take, drop, map, refl, sym, ◌∙◌, ap, ap₂, inl, inr, arith, filter}
use Rattle.std.specs.Prelude.{All, AllPairs, slice_index, slice_range}
use Rattle.std.specs.List.{flat_map, list_any}
use Rattle.std.specs.List.Sorted.{IsNonDecreasingBy, IsPartitionPoint, IsStableByKey}
use Rattle.std.specs.Ordering.{is_lt, nat_cmp, ordering_then}
use Rattle.std.specs.declared.cmp.Ordering.{Ordering}
use Rattle.std.specs.declared.cmp.Ordering.TheVariants.{Less, Greater}
use Rattle.std.proofs.lemmas.Bool.{cases_lt, cases_eq, cases_order, cases_Bool, ltb-true, ltb-false, eq-eqb, ne_eqb}
use Rattle.std.proofs.lemmas.Bool.Decides.{nat_tests}
use Rattle.std.proofs.lemmas.Cmp.{ranked, by_ranked}
use Rattle.std.proofs.lemmas.List.{append-nil, map-append, length-map, length-take-le, length-drop, length_push, get_or-take, get_or-drop, get_or_append_left, get_or_push, drop-map, take-map}
use Rattle.std.proofs.lemmas.List.Edits.{split_between, length-between, get_or-between}
use Rattle.std.proofs.lemmas.List.Elements.{All-head, All-tail, filter-append, filter_agree}
use Rattle.std.proofs.lemmas.List.Folds.{list_any_none}
use Rattle.flow_model.specs.declared.groups.Member.{Member}
use Rattle.flow_model.specs.Call.{Call}
use Rattle.flow_model.specs.Grouped.{AreGrouped}
use Rattle.flow_model.specs.Order.{StrictlyRise}
use Rattle.flow_model.proofs.OrderLemmas.{lt_from_less}
use Rattle.flow_model.specs.Starts.{IsStart, AreStarts, members_of}

-- what a search for the first item whose number is not below the bound gives
pub IsStart-from_partition : {X : Type 0} (number : X → ℕ) (items : List X) (bound i : ℕ) → i ≤ length items → IsPartitionPoint (λ x. nat_lt (number x) bound ≡ true) (λ x. nat_lt (number x) bound ≡ false) items i → IsStart number items bound i
IsStart-from_partition number items bound i within parts = record {
  within = within;
  below = λ k d h. ltb-true (number (get_or items k d)) bound (parts.0 k d (omega arith) h);
  above = λ k d from h. ltb-false (number (get_or items k d)) bound (parts.1 k d from h);
}

pub AreStarts-none : {X : Type 0} (number : X → ℕ) (items : List X) → AreStarts number items 0 []
AreStarts-none number items = record { long = refl; start = λ k h. absurd (omega arith) }

-- one more start
pub AreStarts-push : {X : Type 0} (number : X → ℕ) (items : List X) (n : ℕ) (starts : List ℕ) (s : ℕ) → AreStarts number items n starts → IsStart number items n s → AreStarts number items (n + 1) (starts ++ s ∷ [])
AreStarts-push number items n starts s so_far last = record {
  long = let long = so_far.long in omega (arith, length_push starts s);
  start = λ k h.
      let long = so_far.long in
      elim (cases_lt k n) [
        | inl before ↦ let short : k < length starts = omega arith in rw (get_or_append_left starts (s ∷ []) 0 k short) (so_far.start k before)
        | inr at ↦
            let same : k ≡ n = omega arith in
            let here : length starts ≡ k = omega arith in
            rw (get_or_push starts s 0 k here, same) last
      ];
}

filter_none : {X : Type 0} (p : X → Bool) (xs : List X) → All (λ x. p x ≡ false) xs → filter p xs ≡ []
filter_none p [] all = refl
filter_none p (x ∷ xs) all = let first : p x ≡ false = All-head (λ x. p x ≡ false) x xs all in rw first (filter_none p xs (All-tail (λ x. p x ≡ false) x xs all))

filter_all : {X : Type 0} (p : X → Bool) (xs : List X) → All (λ x. p x ≡ true) xs → filter p xs ≡ xs
filter_all p [] all = refl
filter_all p (x ∷ xs) all = let first : p x ≡ true = All-head (λ x. p x ≡ true) x xs all in rw first (ap (λ rest. x ∷ rest) (filter_all p xs (All-tail (λ x. p x ≡ true) x xs all)))

-- a greater number begins no earlier
starts_rise : {X : Type 0} (number : X → ℕ) (items : List X) (k i j : ℕ) → IsStart number items k i → IsStart number items (k + 1) j → i ≤ j
starts_rise number [] k i j first second = let within = first.within in omega arith
starts_rise number (x ∷ xs) k i j first second =
    elim (cases_lt j i) [
      | inl over ↦
          let within = first.within in
          let low : number (get_or (x ∷ xs) j x) < k = first.below j x over in
          let high : k + 1 ≤ number (get_or (x ∷ xs) j x) = second.above j x (omega arith) (omega arith) in
          omega arith
      | inr rise ↦ rise
    ]

module _ {X : Type 0} (number : X → ℕ) (items : List X) (k i j : ℕ) (first : IsStart number items k i) (second : IsStart number items (k + 1) j) where
  -- the items with the number stand between the two starts
  between_starts : slice_range items i j ≡ filter (λ x. nat_eq (number x) k) items
  between_starts =
      let p : X → Bool = λ x. nat_eq (number x) k in
      let start = first.within in
      let end = second.within in
      let rise = starts_rise number items k i j first second in
      let front : filter p (take i items) ≡ [] = filter_none p (take i items) (λ m d h.
      let fits : length (take i items) ≡ i = length-take-le i items (omega arith) in
      let here : m < i = omega arith in
      let low : number (get_or items m d) < k = first.below m d here in
      rw (get_or-take i items m d here) (ne_eqb (number (get_or items m d)) k (λ same. omega arith))) in
      let middle : filter p (slice_range items i j) ≡ slice_range items i j = filter_all p (slice_range items i j) (λ m d h.
      let fits : length (slice_range items i j) ≡ j - i = length-between items i j (omega arith) in
      let here : i + m < j = omega arith in
      let low : number (get_or items (i + m) d) < k + 1 = second.below (i + m) d here in
      let high : k ≤ number (get_or items (i + m) d) = first.above (i + m) d (omega arith) (omega arith) in
      rw (get_or-between items i j m d here) (eq-eqb (number (get_or items (i + m) d)) k (omega arith))) in
      let back : filter p (drop j items) ≡ [] = filter_none p (drop j items) (λ m d h.
      let fits = length-drop j items in
      let high : k + 1 ≤ number (get_or items (j + m) d) = second.above (j + m) d (omega arith) (omega arith) in
      rw (get_or-drop j items m d) (ne_eqb (number (get_or items (j + m) d)) k (λ same. omega arith))) in
      let parts : filter p items ≡ filter p (take i items) ++ (filter p (slice_range items i j) ++ filter p (drop j items)) =
      ap (filter p) (split_between items i j rise) ∙ filter-append p (take i items) (slice_range items i j ++ drop j items) ∙ ap (λ rest. filter p (take i items) ++ rest) (filter-append p (slice_range items i j) (drop j items)) in
      sym (parts ∙ ap₂ (λ a b. a ++ b) front (ap₂ (λ a b. a ++ b) middle back ∙ append-nil (slice_range items i j)))

-- where the numbers begin, the items with each number begin
pub AreGrouped-from_starts : {X : Type 0} (number : X → ℕ) (items : List X) (n : ℕ) (starts : List ℕ) → AreStarts number items (n + 1) starts → AreGrouped starts items n (λ k. filter (λ x. nat_eq (number x) k) items)
AreGrouped-from_starts number items n starts are = record {
  long = are.long;
  rise = λ k h. starts_rise number items k _ _ (are.start k (omega arith)) (are.start (k + 1) (omega arith));
  within = λ k h. (are.start (k + 1) (omega arith)).within;
  group = λ k h. between_starts number items k _ _ (are.start k (omega arith)) (are.start (k + 1) (omega arith));
}

-- groups of what a function gives of each item
pub AreGrouped-map : {X Y : Type 0} (f : X → Y) (starts : List ℕ) (items : List X) (n : ℕ) (group_of : ℕ → List X) → AreGrouped starts items n group_of → AreGrouped starts (map f items) n (λ k. map f (group_of k))
AreGrouped-map f starts items n group_of are = record {
  long = are.long;
  rise = are.rise;
  within = λ k h. let within = are.within k h in omega (arith, length-map items f);
  group = λ k h.
      let from = slice_index starts k in
      let to = slice_index starts (k + 1) in
      ap (take (to - from)) (drop-map f from items) ∙ take-map f (to - from) (drop from items) ∙ ap (map f) (are.group k h);
}

-- the same groups, put otherwise
pub AreGrouped-same : {X : Type 0} (starts : List ℕ) (items : List X) (n : ℕ) (first second : ℕ → List X) → ((k : ℕ) → first k ≡ second k) → AreGrouped starts items n first → AreGrouped starts items n second
AreGrouped-same starts items n first second same are = record {
  long = are.long;
  rise = are.rise;
  within = are.within;
  group = λ k h. are.group k h ∙ same k;
}

-- a list in order does not fall by a number that the order puts first
pub IsNonDecreasingBy-from_rise : {X : Type 0} (order : X → X → Ordering) (number : X → ℕ) → ((x y : X) → order x y ≡ Less → number x ≤ number y) → (items : List X) → StrictlyRise order items → IsNonDecreasingBy number items
IsNonDecreasingBy-from_rise order number rises items rise i j d h within =
    elim (cases_order i j) [
      | inl same ↦ let at = ap (λ k. number (get_or items k d)) same in omega arith
      | inr other ↦ elim other [ inl before ↦ rises _ _ (rise i j d before within) | inr after ↦ absurd (omega arith) ]
    ]

-- what goes before by two tests does not go after by the first
pub le_from_first : (a b : ℕ) (rest : Ordering) → ordering_then (nat_cmp a b) rest ≡ Less → a ≤ b
le_from_first a b rest e =
    by_ranked _ _ _ (nat_cmp a b) (ranked a b (nat_cmp a b) refl) (λ _ less. omega arith) (λ _ same. omega arith)
    (λ greater _. let wrong : Greater ≡ Less = rw greater at e in cc)

-- the same items picked before and after a function of each
pub map-filter-map : {X Y Z : Type 0} (f : X → Y) (p : Y → Bool) (g : Y → Z) (xs : List X) → map g (filter p (map f xs)) ≡ map (λ x. g (f x)) (filter (λ x. p (f x)) xs)
map-filter-map f p g [] = refl
map-filter-map f p g (x ∷ xs) =
    elim (cases_Bool (p (f x))) [
      | inl passes ↦ rw passes (ap (λ rest. g (f x) ∷ rest) (map-filter-map f p g xs))
      | inr fails ↦ rw fails (map-filter-map f p g xs)
    ]

ties_number : (k m : ℕ) → (not (is_lt (nat_cmp k m)) && not (is_lt (nat_cmp m k))) ≡ nat_eq m k
ties_number k m = grind (arith, nat_tests)

-- a stable sort keeps the items with one number in their order
pub filter-stable : (given sorted : List Member) → IsStableByKey (λ m. m.group) nat_cmp given sorted → (k : ℕ) → filter (λ m. nat_eq m.group k) sorted ≡ filter (λ m. nat_eq m.group k) given
filter-stable given sorted stable k =
    let p : Member → Bool = λ m. nat_eq m.group k in
    let q : Member → Bool = λ m. not (is_lt (nat_cmp k m.group)) && not (is_lt (nat_cmp m.group k)) in
    let agree : (m : Member) → q m ≡ p m = λ m. ties_number k m.group in
    sym (filter_agree q p agree sorted) ∙ stable (record { group = k; site = 0 }) ∙ filter_agree q p agree given

-- a call whose candidates differ has its site once in the group of each
sites_once : (k s : ℕ) (fs : List ℕ) → AllPairs (λ f h. nat_cmp f h ≡ Less) fs → map (λ m. m.site) (filter (λ m. nat_eq m.group k) (map (λ f. let m : Member = record { group = f; site = s } in m) fs)) ≡ cond (list_any (λ h. nat_eq h k) fs) (s ∷ []) []
sites_once k s [] differ = refl
sites_once k s (f ∷ fs) differ =
    let tail : AllPairs (λ f h. nat_cmp f h ≡ Less) fs = λ i j d h within. differ (suc i) (suc j) d (omega arith) (omega arith) in
    let rest = sites_once k s fs tail in
    elim (cases_eq f k) [
      | inl same ↦
          let first : nat_eq f k ≡ true = eq-eqb f k same in
          let none : list_any (λ h. nat_eq h k) fs ≡ false = list_any_none (λ h. nat_eq h k) fs (λ i d h.
          let less : nat_cmp f (get_or fs i d) ≡ Less = differ 0 (suc i) d (omega arith) (omega arith) in
          let above = lt_from_less f (get_or fs i d) less in
          ne_eqb (get_or fs i d) k (λ again. omega arith)) in
          rw first (ap (λ others. s ∷ others) (rest ∙ ap (λ any. cond any (s ∷ []) []) none))
      | inr other ↦ let first : nat_eq f k ≡ false = ne_eqb f k other in rw first rest
    ]

site_first : (chosen : Bool) (c : Call) (rest : List Call) → cond chosen (c.site ∷ []) [] ++ map (λ c. c.site) rest ≡ map (λ c. c.site) (cond chosen (c ∷ rest) rest)
site_first true c rest = refl
site_first false c rest = refl

-- the sites of the calls that may enter the function, by the members of its group
pub sites_of_members : (k : ℕ) (calls : List Call) → All (λ c. StrictlyRise nat_cmp c.candidates) calls → map (λ m. m.site) (filter (λ m. nat_eq m.group k) (flat_map members_of calls)) ≡ map (λ c. c.site) (filter (λ c. list_any (λ h. nat_eq h k) c.candidates) calls)
sites_of_members k [] all = refl
sites_of_members k (c ∷ calls) all =
    let P : Call → Type 0 = λ c. StrictlyRise nat_cmp c.candidates in
    let here = sites_once k c.site c.candidates (All-head P c calls all) in
    let rest = sites_of_members k calls (All-tail P c calls all) in
    let p : Member → Bool = λ m. nat_eq m.group k in
    let parts = ap (map (λ m. m.site)) (filter-append p (members_of c) (flat_map members_of calls)) ∙ map-append (λ m. m.site) (filter p (members_of c)) (filter p (flat_map members_of calls)) in
    parts ∙ ap₂ (λ a b. a ++ b) here rest ∙ site_first (list_any (λ h. nat_eq h k) c.candidates) c (filter (λ c. list_any (λ h. nat_eq h k) c.candidates) calls)

-- the sites of members in the order of their groups, where each group begins
pub AreGrouped-from_sorted : (given sorted : List Member) (n : ℕ) (starts sites : List ℕ) → IsStableByKey (λ m. m.group) nat_cmp given sorted → AreStarts (λ m. m.group) sorted (n + 1) starts → sites ≡ map (λ m. m.site) sorted → AreGrouped starts sites n (λ k. map (λ m. m.site) (filter (λ m. nat_eq m.group k) given))
AreGrouped-from_sorted given sorted n starts sites stable are same =
    let by_group = AreGrouped-from_starts (λ (m : Member). m.group) sorted n starts are in
    rw same
    (AreGrouped-same starts (map (λ m. m.site) sorted) n _ _ (λ k. ap (map (λ m. m.site)) (filter-stable given sorted stable k)) (AreGrouped-map (λ (m : Member). m.site) starts sorted n _ by_group))
