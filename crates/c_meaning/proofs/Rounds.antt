-- As many rounds as there are defined functions find all functions that may come to a system call.
use Rattle.std.proofs.Common.{◌≡◌, ℕ, zero, suc, ◌+◌, ◌-◌, ◌≤◌, Bool, true, false, ◌||◌, nat_eq, List, [], ◌∷◌, ◌++◌, length, filter, slice_get, inl, inr, sym, ap, ◌∙◌, subst, refl, arith}
use Rattle.std.specs.List.{range_with_len}
use Rattle.std.specs.Cmp.{nat_eq_equiv}
use Rattle.std.proofs.lemmas.Bool.{false≢true, cases_lt}
use Rattle.std.proofs.lemmas.List.FromFn.{length-range_with_len}
use Rattle.c_tree.specs.Tree.{Program}
use Rattle.c_tree.specs.Functions.{defined}
use Rattle.c_meaning.specs.Mentions.{Mention, Named, Calls}
use Rattle.c_meaning.specs.CallGraph.{is_in, has_one, functions_of, callees, enters, said_by, one_round, reaching, reaches}
use Rattle.c_meaning.proofs.Members.{or_left, or_right, or_cases, same_number}
use Rattle.c_meaning.proofs.Lists.{one_passes, one_found, in_is, is_in_of, from_filter, in_filter, from_range, in_range, one, counted, counted_append}

-- each member of the one list is one of the other
abbrev Within : List ℕ → List ℕ → Type 0
Within fs gs = (f : ℕ) → is_in f fs ≡ true → is_in f gs ≡ true

-- how many of the numbers are members
abbrev tally : List ℕ → List ℕ → ℕ
tally fs xs = counted (λ x. is_in x fs) xs

count_more : (a b : Bool) → (a ≡ true → b ≡ true) → one a ≤ one b
count_more true false h = absurd (false≢true (h refl))
count_more a b h = omega arith

tally_more : (fs gs : List ℕ) → Within fs gs → (xs : List ℕ) → tally fs xs ≤ tally gs xs
tally_more fs gs w [] = omega arith
tally_more fs gs w (x ∷ xs) = let k = count_more (is_in x fs) (is_in x gs) (w x) in let i = tally_more fs gs w xs in omega (arith, k, i)

count_same : (a b : Bool) → (a ≡ true → b ≡ true) → one b ≤ one a → b ≡ true → a ≡ true
count_same true b h le k = refl
count_same false true h le k = absurd (omega (arith, le))
count_same false false h le k = k

-- as many members, and so no others among the numbers
no_more : (fs gs : List ℕ) → Within fs gs → (xs : List ℕ) → tally gs xs ≤ tally fs xs → (f : ℕ) → is_in f xs ≡ true → is_in f gs ≡ true → is_in f fs ≡ true
no_more fs gs w [] le f h k = absurd (false≢true h)
no_more fs gs w (x ∷ xs) le f h k =
    let i = tally_more fs gs w xs in
    let j = count_more (is_in x fs) (is_in x gs) (w x) in
    elim (or_cases (nat_eq f x) (is_in f xs) h) as (λ q. is_in f fs ≡ true) [
      | inl q ↦ (let e = same_number f x q in subst (λ f. is_in f fs ≡ true) (sym e) (count_same (is_in x fs) (is_in x gs) (w x) (omega (arith, le, i)) (subst (λ f. is_in f gs ≡ true) e k)))
      | inr q ↦ no_more fs gs w xs (omega (arith, le, j)) f q k
    ]

tally_most : (fs xs : List ℕ) → tally fs xs ≤ length xs
tally_most fs [] = omega arith
tally_most fs (x ∷ xs) = let k = one_most (is_in x fs) in let i = tally_most fs xs in omega (arith, k, i)
  where
    one_most : (b : Bool) → one b ≤ 1
    one_most true = omega arith
    one_most false = omega arith

-- where all numbers are members
all_count : (b : Bool) → 1 ≤ one b → b ≡ true
all_count true h = refl
all_count false h = absurd (omega (arith, h))

all_members : (fs xs : List ℕ) → length xs ≤ tally fs xs → (f : ℕ) → is_in f xs ≡ true → is_in f fs ≡ true
all_members fs [] le f h = absurd (false≢true h)
all_members fs (x ∷ xs) le f h =
    let i = tally_most fs xs in
    let j = tally_most fs (x ∷ []) in
    elim (or_cases (nat_eq f x) (is_in f xs) h) as (λ q. is_in f fs ≡ true) [
      | inl q ↦ subst (λ f. is_in f fs ≡ true) (sym (same_number f x q)) (all_count (is_in x fs) (omega (arith, le, i)))
      | inr q ↦ all_members fs xs (omega (arith, le, j)) f q
    ]

-- a filter has the numbers that pass
passes : (test : ℕ → Bool) (xs : List ℕ) (f : ℕ) → is_in f (filter test xs) ≡ true → (is_in f xs ≡ true) × (test f ≡ true)
passes test xs f h = let r = from_filter test xs f (in_is f (filter test xs) h) in (is_in_of f xs r.0, r.1)

pub to_filter : (test : ℕ → Bool) (xs : List ℕ) (f : ℕ) → is_in f xs ≡ true → test f ≡ true → is_in f (filter test xs) ≡ true
to_filter test xs f h t = is_in_of f (filter test xs) (in_filter test xs f (in_is f xs h) t)

-- what may be called of fewer functions may be called of more
one_more : {X : Type 0} (t u : X → Bool) → ((x : X) → t x ≡ true → u x ≡ true) → (xs : List X) → has_one t xs ≡ true → has_one u xs ≡ true
one_more t u w xs h = let r = one_passes t xs h in one_found u xs r.0 r.1 (w r.0 r.2)

-- ranges
pub range_append : (a n m : ℕ) → range_with_len a (n + m) ≡ range_with_len a n ++ range_with_len (a + n) m
range_append a zero m =
    let none : 0 + m ≡ m = omega arith in
    let start : a ≡ a + 0 = omega arith in
    ap (λ k. range_with_len a k) none ∙ ap (λ k. range_with_len k m) start
range_append a (suc n) m =
    let more : suc n + m ≡ suc (n + m) = omega arith in
    let start : a + 1 + n ≡ a + suc n = omega arith in
    ap (λ k. range_with_len a k) more ∙ ap (λ t. a ∷ t) (range_append (a + 1) n m ∙ ap (λ k. range_with_len (a + 1) n ++ range_with_len k m) start)

tally_later : (x : ℕ) (fs xs : List ℕ) → tally fs xs ≤ tally (x ∷ fs) xs
tally_later x fs xs = tally_more fs (x ∷ fs) (λ f h. or_right (nat_eq f x) (is_in f fs) h) xs

tally_itself : (xs : List ℕ) → length xs ≤ tally xs xs
tally_itself [] = omega arith
tally_itself (x ∷ xs) =
    let k : one (is_in x (x ∷ xs)) ≡ 1 = ap one (or_left (nat_eq x x) (is_in x xs) (nat_eq_equiv.refl x)) in
    let i = tally_later x xs xs in
    let j = tally_itself xs in
    omega (arith, k, i, j)

module _ (p : Program) where
  abbrev all : List ℕ
  all = functions_of p

  abbrev R : ℕ → List ℕ
  R n = reaching p n

  abbrev test : List ℕ → ℕ → Bool
  test fs f = is_in f fs || has_one (enters p fs) (said_by (slice_get p.functions f))

  enters_more : (fs gs : List ℕ) → Within fs gs → (m : Mention) → enters p fs m ≡ true → enters p gs m ≡ true
  enters_more fs gs w (Named f) h = h
  enters_more fs gs w (Calls s callee) h = one_more (λ f. is_in f fs) (λ f. is_in f gs) w (callees p callee) h

  test_more : (fs gs : List ℕ) → Within fs gs → (f : ℕ) → test fs f ≡ true → test gs f ≡ true
  test_more fs gs w f h =
      elim (or_cases (is_in f fs) (has_one (enters p fs) (said_by (slice_get p.functions f))) h) as (λ q. test gs f ≡ true) [
        | inl q ↦ or_left (is_in f gs) (has_one (enters p gs) (said_by (slice_get p.functions f))) (w f q)
        | inr q ↦ or_right (is_in f gs) (has_one (enters p gs) (said_by (slice_get p.functions f))) (one_more (enters p fs) (enters p gs) (enters_more fs gs w) (said_by (slice_get p.functions f)) q)
      ]

  round_more : (fs gs : List ℕ) → Within fs gs → Within (one_round p fs) (one_round p gs)
  round_more fs gs w f h = let r = passes (test fs) all f h in to_filter (test gs) all f r.0 (test_more fs gs w f r.1)

  calls_known : (f : ℕ) → is_in f (range_with_len (defined p) 24) ≡ true → is_in f all ≡ true
  calls_known f h =
      let r = from_range (defined p) 24 f (in_is f (range_with_len (defined p) 24) h) in
      is_in_of f all (in_range 0 (defined p + 24) f (omega arith) (omega (arith, r.1)))

  known : (n f : ℕ) → is_in f (R n) ≡ true → is_in f all ≡ true
  known zero f h = calls_known f h
  known (suc n) f h = (passes (test (R n)) all f h).0

  grows : (n : ℕ) → Within (R n) (R (suc n))
  grows n f h = to_filter (test (R n)) all f (known n f h) (or_left (is_in f (R n)) (has_one (enters p (R n)) (said_by (slice_get p.functions f))) h)

  grow : (n k : ℕ) → Within (R n) (R (n + k))
  grow n zero f h = let e : n ≡ n + 0 = omega arith in subst (λ m. is_in f (R m) ≡ true) e h
  grow n (suc k) f h = let e : suc (n + k) ≡ n + suc k = omega arith in subst (λ m. is_in f (R m) ≡ true) e (grows (n + k) f (grow n k f h))

  -- from a round that finds nothing on, none does
  settled : (n k : ℕ) → Within (R (suc n)) (R n) → Within (R (n + k)) (R n)
  settled n zero w f h = let e : n + 0 ≡ n = omega arith in subst (λ m. is_in f (R m) ≡ true) e h
  settled n (suc k) w f h =
      let e : n + suc k ≡ suc (n + k) = omega arith in
      let i : is_in f (one_round p (R (n + k))) ≡ true = subst (λ m. is_in f (R m) ≡ true) e h in
      w f (round_more (R (n + k)) (R n) (settled n k w) f i)

  first_count : 24 ≤ tally (R 0) all
  first_count =
      let e : tally (R 0) all ≡ tally (R 0) (range_with_len 0 (defined p) ++ range_with_len (0 + defined p) 24) = ap (tally (R 0)) (range_append 0 (defined p) 24) in
      let k = counted_append (λ x. is_in x (R 0)) (range_with_len 0 (defined p)) (range_with_len (0 + defined p) 24) in
      let same_start : tally (R 0) (range_with_len (0 + defined p) 24) ≡ tally (R 0) (range_with_len (defined p) 24) = (let e : 0 + defined p ≡ defined p = omega arith in ap (λ a. tally (R 0) (range_with_len a 24)) e) in
      let i = tally_itself (range_with_len (defined p) 24) in
      let l = length-range_with_len (defined p) 24 in
      omega (arith, e, k, same_start, i, l)

  -- a round that finds nothing came before, or each round found a function
  data Found (n : ℕ) : Type 0 where
    nothing : (k : ℕ) → k ≤ n → Within (R (suc k)) (R k) → Found n
    one_each : 24 + n ≤ tally (R n) all → Found n

  found : (n : ℕ) → Found n
  found zero = one_each (let k = first_count in omega (arith, k))
  found (suc n) = by (found n)
    where
      by : Found n → Found (suc n)
      by (nothing k le w) = nothing k (omega (arith, le)) w
      by (one_each h) = elim (cases_lt (tally (R n) all) (tally (R (suc n)) all)) as (λ q. Found (suc n)) [
        | inl lt ↦ one_each (omega (arith, h, lt))
        | inr le ↦ nothing n (omega arith) (λ f k. no_more (R n) (R (suc n)) (grows n) all le f (known (suc n) f k) k)
      ]

  abbrev d : ℕ
  d = defined p

  at : (n m : ℕ) → n ≡ m → (f : ℕ) → is_in f (R n) ≡ true → is_in f (R m) ≡ true
  at n m e f h = subst (λ m. is_in f (R m) ≡ true) e h

  minus : (a b : ℕ) → a ≤ b → (k : ℕ) × (a + k ≡ b)
  minus a b le = (b - a, omega (arith, le))

  from_settled : (k : ℕ) → k ≤ d → Within (R (suc k)) (R k) → (n : ℕ) → Within (R n) (R d)
  from_settled k le w n f h =
      let r = minus k d le in
      let to_d : is_in f (R k) ≡ true → is_in f (R d) ≡ true = λ i. at (k + r.0) d r.1 f (grow k (r.0) f i) in
      elim (cases_lt k n) as (λ q. is_in f (R d) ≡ true) [
        | inl lt ↦ (let s = minus k n (omega (arith, lt)) in to_d (settled k (s.0) w f (at n (k + s.0) (sym s.1) f h)))
        | inr ge ↦ (let s = minus n k ge in to_d (at (n + s.0) k s.1 f (grow n (s.0) f h)))
      ]

  pub enough : (n f : ℕ) → is_in f (reaching p n) ≡ true → reaches p f ≡ true
  enough n f h = by (found d)
    where
      by : Found d → is_in f (R d) ≡ true
      by (nothing k le w) = from_settled k le w n f h
      by (one_each le) = all_members (R d) all (let l = length-range_with_len 0 (d + 24) in omega (arith, le, l)) f (known n f h)
