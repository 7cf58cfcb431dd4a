-- The system calls whose names are taken, and places among them.
use Rattle.std.proofs.Common.{◌≡◌, ℕ, zero, suc, ◌+◌, ◌<◌, ◌≤◌, Bool, true, false, if◌then◌else◌, List, [], ◌∷◌, ◌++◌, map, filter, length, take, get_or, refl, sym, ap, ap₂, ◌∙◌, arith}
use Rattle.std.specs.List.{range_with_len}
use Rattle.std.proofs.lemmas.List.Elements.{filter-append}
use Rattle.std.proofs.lemmas.List.{take_more, take_all, map-append}
use Rattle.c_tree.specs.Tree.{Program}
use Rattle.c_tree.specs.Functions.{defined}
use Rattle.c_meaning.specs.CallGraph.{is_taken, marked, candidates}
use Rattle.c_meaning.specs.ShapeOf.{taken_calls, place_of, candidate_places}
use Rattle.c_meaning.specs.Sorted.{sorted}
use Rattle.std.specs.Ordering.{nat_cmp}
use Rattle.flow_graph.specs.Places.{place_at}
use Rattle.flow_graph.proofs.ProgramLemmas.{range_more}

pub taken_more : (test : ℕ → Bool) (k : ℕ) (old new : List ℕ) (b : Bool) → old ≡ filter test (range_with_len 0 k) → b ≡ test k → new ≡ old ++ (if b then k ∷ [] else []) → new ≡ filter test (range_with_len 0 (k + 1))
taken_more test k old new b before is step =
    let z : 0 + k ≡ k = omega arith in
    step
    ∙ ap₂ (λ xs c. xs ++ (if c then k ∷ [] else [])) before is
    ∙ sym (filter-append test (range_with_len 0 k) (k ∷ []))
    ∙ ap (filter test) (ap (λ m. range_with_len 0 k ++ m ∷ []) (sym z) ∙ sym (range_more 0 k))

pub taken_end : (test : ℕ → Bool) (k : ℕ) (new : List ℕ) → 24 ≤ k → k ≤ 24 → new ≡ filter test (range_with_len 0 k) → new ≡ filter test (range_with_len 0 24)
taken_end test k new over within is = let e : k ≡ 24 = omega arith in is ∙ ap (λ n. filter test (range_with_len 0 n)) e

length_if : (b : Bool) (x : ℕ) (xs : List ℕ) → length (if b then x ∷ xs else xs) ≤ 1 + length xs
length_if true x xs = omega arith
length_if false x xs = omega arith

few_from : (test : ℕ → Bool) (a n : ℕ) → length (filter test (range_with_len a n)) ≤ n
few_from test a zero = omega arith
few_from test a (suc n) = let k = few_from test (a + 1) n in let l = length_if (test a) a (filter test (range_with_len (a + 1) n)) in omega (arith, k, l)

pub few_taken : (p : Program) → length (taken_calls p) ≤ 24
few_taken p = few_from (λ x. is_taken p (defined p + x)) 0 24

small_if : (b : Bool) (a n : ℕ) (xs : List ℕ) → ((k : ℕ) → k < length xs → get_or xs k 0 < a + 1 + n) → (k : ℕ) → k < length (if b then a ∷ xs else xs) → get_or (if b then a ∷ xs else xs) k 0 < a + suc n
small_if true a n xs small zero lt = omega arith
small_if true a n xs small (suc k) lt = let r = small k (omega (arith, lt)) in omega (arith, r)
small_if false a n xs small k lt = let r = small k lt in omega (arith, r)

small_from : (test : ℕ → Bool) (a n k : ℕ) → k < length (filter test (range_with_len a n)) → get_or (filter test (range_with_len a n)) k 0 < a + n
small_from test a zero k lt = absurd (omega (arith, lt))
small_from test a (suc n) k lt = small_if (test a) a n (filter test (range_with_len (a + 1) n)) (λ i l. small_from test (a + 1) n i l) k lt

pub small_taken : (p : Program) (k : ℕ) → k < length (taken_calls p) → get_or (taken_calls p) k 0 < 24
small_taken p k lt = let r = small_from (λ x. is_taken p (defined p + x)) 0 24 k lt in omega (arith, r)

-- numbers below a bound, one after another
pub below_more : (test : ℕ → Bool) (xs : List ℕ) (i x old new one : ℕ) → i < length xs → x ≡ get_or xs i 0 → old ≡ length (filter test (take i xs)) → one ≡ (if test x then 1 else 0) → new ≡ old + one → new ≡ length (filter test (take (i + 1) xs))
below_more test xs i x old new one lt is before unit step =
    let more : take (i + 1) xs ≡ take i xs ++ x ∷ [] = take_more xs i 0 lt ∙ ap (λ y. take i xs ++ y ∷ []) (sym is) in
    let split : length (filter test (take (i + 1) xs)) ≡ length (filter test (take i xs)) + length (filter test (x ∷ [])) = ap (λ ys. length (filter test ys)) more ∙ ap length (filter-append test (take i xs) (x ∷ [])) ∙ length_join (filter test (take i xs)) (filter test (x ∷ [])) in
    let alone : length (filter test (x ∷ [])) ≡ (if test x then 1 else 0) = by (test x) in
    omega (arith, split, alone, before, unit, step)
  where
    by : (b : Bool) → length (if b then x ∷ [] else []) ≡ (if b then 1 else 0)
    by true = refl
    by false = refl

    length_join : (xs ys : List ℕ) → length (xs ++ ys) ≡ length xs + length ys
    length_join [] ys = omega arith
    length_join (x ∷ xs) ys = let k = length_join xs ys in omega (arith, k)

pub below_end : (test : ℕ → Bool) (xs : List ℕ) (i count : ℕ) → length xs ≤ i → count ≡ length (filter test (take i xs)) → count ≡ length (filter test xs)
below_end test xs i count over is = is ∙ ap (λ ys. length (filter test ys)) (take_all i xs over)

pub at_most_one : (b : Bool) (one : ℕ) → one ≡ (if b then 1 else 0) → one ≤ 1
at_most_one true one is = omega (arith, is)
at_most_one false one is = omega (arith, is)

-- places, one after another
pub places_more : (f : ℕ → ℕ) (xs : List ℕ) (i x y : ℕ) (old new : List ℕ) → i < length xs → x ≡ get_or xs i 0 → old ≡ map f (take i xs) → y ≡ f x → new ≡ old ++ y ∷ [] → new ≡ map f (take (i + 1) xs)
places_more f xs i x y old new lt is before at step =
    step
    ∙ ap₂ (λ ys z. ys ++ z ∷ []) before at
    ∙ sym (map-append f (take i xs) (x ∷ []))
    ∙ ap (map f) (sym (take_more xs i 0 lt ∙ ap (λ y. take i xs ++ y ∷ []) (sym is)))

pub places_end : (f : ℕ → ℕ) (xs : List ℕ) (i : ℕ) (new : List ℕ) → length xs ≤ i → new ≡ map f (take i xs) → new ≡ map f xs
places_end f xs i new over is = is ∙ ap (map f) (take_all i xs over)

-- the candidates of a site
pub none_marked : (p : Program) (s : ℕ) → marked p s ≡ false → [] ≡ sorted nat_cmp (candidate_places p s)
none_marked p s m = ap (λ b. sorted nat_cmp (if b then map (place_of p) (candidates p s) else [])) (sym m)

pub all_placed : (p : Program) (s : ℕ) (taken found places new : List ℕ) → marked p s ≡ true → taken ≡ taken_calls p → found ≡ candidates p s → places ≡ map (place_at (defined p) taken) found → new ≡ sorted nat_cmp places → new ≡ sorted nat_cmp (candidate_places p s)
all_placed p s taken found places new m are is at order =
    order
    ∙ ap (sorted nat_cmp) (at ∙ ap₂ (λ ts fs. map (place_at (defined p) ts) fs) are is)
    ∙ ap (λ b. sorted nat_cmp (if b then map (place_of p) (candidates p s) else [])) (sym m)
