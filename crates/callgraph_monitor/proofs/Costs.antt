-- How many edges and candidate entries are read.
use Rattle.std.proofs.Common.{◌≡◌, ◌≢◌, ℕ, ◌+◌, ◌*◌, ◌≤◌, Bool, true, false, cond, nat_eq, nat_lt, List, [], ◌∷◌, length, filter, sum_by, count_by, AllPairs, Option, Some, None, refl, sym, ap, ◌∙◌, inl, inr, arith}
use Rattle.std.specs.List.{list_any}
use Rattle.std.specs.Option.{option_map_or}
use Rattle.std.specs.Prelude.{slice_get}
use Rattle.std.proofs.lemmas.Bool.{cases_Bool, eqb-true, eq-eqb, or_cases, false≢true}
use Rattle.std.proofs.lemmas.Bool.Decides.{nat_tests}
use Rattle.std.proofs.lemmas.List.{length-map}
use Rattle.std.proofs.lemmas.List.Sums.{sum_by-cons, sum_by-le-sum_by, length-filter, count_by-le-length}
use Rattle.flow_model.specs.declared.records.SilentEdge.{SilentEdge}
use Rattle.flow_model.specs.declared.records.ModelFunction.{ModelFunction}
use Rattle.flow_model.specs.Call.{Call}
use Rattle.flow_model.specs.Cost.{candidate_count}
use Rattle.flow_model.specs.Graph.{Graph, HasFunction}
use Rattle.flow_model.specs.Groups.{sites_of}
use Rattle.flow_model.proofs.Counting.{shared_sum, sum_by-add, sum_by-nothing}
use Rattle.callgraph_monitor.specs.Ahead.{calls_of}
use Rattle.callgraph_monitor.specs.Visits.{does_end, silent_cost, enter_cost, leave_cost, visit_cost}

-- a list counts one for each item
length-sum : {X : Type 0} (xs : List X) → sum_by (λ (x : X). 1) xs ≡ length xs
length-sum [] = refl
length-sum {X = X} (x ∷ xs) = sum_by-cons (λ (y : X). 1) x xs ∙ (let ih = length-sum xs in omega (arith, ih))

-- 1 where the test holds
abbrev one_if : Bool → ℕ
one_if b = cond b 1 0

-- what a filter keeps of a list that is one item longer
filter-length : {X : Type 0} (p : X → Bool) (x : X) (xs : List X) → length (filter p (x ∷ xs)) ≡ one_if (p x) + length (filter p xs)
filter-length p x xs = elim (p x) as (λ b. length (cond b (x ∷ filter p xs) (filter p xs)) ≡ one_if b + length (filter p xs)) [ true ↦ omega arith | false ↦ omega arith ]

tests_apart : (n from node : ℕ) → from ≤ node → one_if (nat_lt n from) + one_if (nat_eq n node) ≤ one_if (nat_lt n (node + 1))
tests_apart n from node le = grind (arith, nat_tests)

-- the items below a number and those at one that is not below it
pub below_and_at : {X : Type 0} (key : X → ℕ) (from node : ℕ) → from ≤ node → (xs : List X) → length (filter (λ x. nat_lt (key x) from) xs) + length (filter (λ x. nat_eq (key x) node) xs) ≤ length (filter (λ x. nat_lt (key x) (node + 1)) xs)
below_and_at key from node le [] = omega arith
below_and_at key from node le (x ∷ xs) =
    omega (arith, tests_apart (key x) from node le, below_and_at key from node le xs, filter-length (λ y. nat_lt (key y) from) x xs, filter-length (λ y. nat_eq (key y) node) x xs, filter-length (λ y. nat_lt (key y) (node + 1)) x xs)

pub filter-few : {X : Type 0} (p : X → Bool) (xs : List X) → length (filter p xs) ≤ length xs
filter-few p xs = omega (arith, length-filter p xs, count_by-le-length p xs)

count-cons : (p : ℕ → Bool) (h : ℕ) (hs : List ℕ) → count_by p (h ∷ hs) ≡ one_if (p h) + count_by p hs
count-cons p h hs = omega (arith, filter-length p h hs, length-filter p (h ∷ hs), length-filter p hs)

-- a candidate that passes is counted
one-count : (p : ℕ → Bool) (f : ℕ) → p f ≡ true → (hs : List ℕ) → list_any (λ h. nat_eq h f) hs ≡ true → 1 ≤ count_by p hs
one-count p f passes [] any = absurd (false≢true any)
one-count p f passes (h ∷ hs) any = elim (or_cases (nat_eq h f) (list_any (λ k. nat_eq k f) hs) any) [
  | inl here ↦
      let one : one_if (p h) ≡ 1 = ap one_if (ap p (eqb-true h f here) ∙ passes) in
      omega (arith, count-cons p h hs)
  | inr later ↦ omega (arith, count-cons p h hs, one-count p f passes hs later)
]

-- the calls that may enter a function are no more than the candidate entries that pass where it does
returns-few : (p : ℕ → Bool) (f : ℕ) → p f ≡ true → (calls : List Call) → length (filter (λ (c : Call). list_any (λ h. nat_eq h f) c.candidates) calls) ≤ sum_by (λ (c : Call). count_by p c.candidates) calls
returns-few p f passes [] = omega arith
returns-few p f passes (c ∷ calls) =
    let rest = returns-few p f passes calls in
    elim (cases_Bool (list_any (λ h. nat_eq h f) c.candidates)) [
      | inl on ↦
          let one : one_if (list_any (λ h. nat_eq h f) c.candidates) ≡ 1 = ap one_if on in
          omega (arith, rest, one-count p f passes c.candidates on, filter-length (λ (d : Call). list_any (λ h. nat_eq h f) d.candidates) c calls, sum_by-cons (λ (d : Call). count_by p d.candidates) c calls)
      | inr off ↦
          let none : one_if (list_any (λ h. nat_eq h f) c.candidates) ≡ 0 = ap one_if off in
          omega (arith, rest, filter-length (λ (d : Call). list_any (λ h. nat_eq h f) d.candidates) c calls, sum_by-cons (λ (d : Call). count_by p d.candidates) c calls)
    ]

-- a function that ends at a node, as a test
does_end-true : (g : Graph) (f entry node : ℕ) → HasFunction g f entry node → does_end g node f ≡ true
does_end-true g f entry node has = ap (λ o. option_map_or (λ (one : ModelFunction). nat_eq one.exit node) o false) has.has ∙ eq-eqb has.one.exit node has.ends

-- what it costs to leave a function
pub leave-few : (g : Graph) (f entry node : ℕ) → HasFunction g f entry node → length (sites_of g f) ≤ leave_cost g node
leave-few g f entry node has = omega (arith, length-map (calls_of g f) (λ (c : Call). c.site), returns-few (does_end g node) f (does_end-true g f entry node has) g.calls)

ends_alike : (a b : ℕ) (o : Option ModelFunction) → option_map_or (λ one. nat_eq one.exit a) o false ≡ true → option_map_or (λ one. nat_eq one.exit b) o false ≡ true → a ≡ b
ends_alike a b None at_a at_b = absurd (false≢true at_a)
ends_alike a b (Some one) at_a at_b = sym (eqb-true one.exit a at_a) ∙ eqb-true one.exit b at_b

-- a function ends at one node
ends_once : (g : Graph) (f a b : ℕ) → does_end g a f ≡ true → does_end g b f ≡ true → a ≡ b
ends_once g f a b at_a at_b = ends_alike a b (slice_get g.functions f) at_a at_b

-- Different nodes share out the edges and the candidate entries.
module _ (g : Graph) (xs : List ℕ) (differ : AllPairs (λ a b. a ≢ b) xs) where
  silent_sum : sum_by (silent_cost g) xs ≤ length g.silent
  silent_sum =
      let shared = shared_sum (λ a (e : SilentEdge). nat_eq e.from a) (λ e. 1) xs differ (λ e a b at_a at_b. sym (eqb-true e.from a at_a) ∙ eqb-true e.from b at_b) g.silent in
      let each : sum_by (silent_cost g) xs ≤ sum_by (λ a. sum_by (λ (e : SilentEdge). 1) (filter (λ e. nat_eq e.from a) g.silent)) xs = sum_by-le-sum_by _ _ xs (λ a. omega (arith, length-sum (filter (λ (e : SilentEdge). nat_eq e.from a) g.silent))) in
      omega (arith, each, shared, length-sum g.silent)

  enter_sum : sum_by (enter_cost g) xs ≤ length g.calls + candidate_count g
  enter_sum =
      let shared = shared_sum (λ a (c : Call). nat_eq c.from a) (λ c. 1 + length c.candidates) xs differ (λ c a b at_a at_b. sym (eqb-true c.from a at_a) ∙ eqb-true c.from b at_b) g.calls in
      omega (arith, shared, sum_by-add (λ (c : Call). 1) (λ (c : Call). length c.candidates) g.calls, length-sum g.calls)

  ending_sum : (hs : List ℕ) → sum_by (λ a. count_by (does_end g a) hs) xs ≤ length hs
  ending_sum hs =
      let shared = shared_sum (does_end g) (λ h. 1) xs differ (λ f a b. ends_once g f a b) hs in
      let each : sum_by (λ a. count_by (does_end g a) hs) xs ≤ sum_by (λ a. sum_by (λ (h : ℕ). 1) (filter (does_end g a) hs)) xs = sum_by-le-sum_by _ _ xs (λ a. omega (arith, length-sum (filter (does_end g a) hs), length-filter (does_end g a) hs)) in
      omega (arith, each, shared, length-sum hs)

  leaving_sum : (calls : List Call) → sum_by (λ a. sum_by (λ (c : Call). count_by (does_end g a) c.candidates) calls) xs ≤ sum_by (λ (c : Call). length c.candidates) calls
  leaving_sum [] = omega (arith, sum_by-nothing xs)
  leaving_sum (c ∷ calls) =
      let each : sum_by (λ a. sum_by (λ (d : Call). count_by (does_end g a) d.candidates) (c ∷ calls)) xs ≤ sum_by (λ a. count_by (does_end g a) c.candidates + sum_by (λ (d : Call). count_by (does_end g a) d.candidates) calls) xs = sum_by-le-sum_by _ _ xs (λ a. omega (arith, sum_by-cons (λ (d : Call). count_by (does_end g a) d.candidates) c calls)) in
      omega (arith, each, sum_by-add (λ a. count_by (does_end g a) c.candidates) (λ a. sum_by (λ (d : Call). count_by (does_end g a) d.candidates) calls) xs, ending_sum c.candidates, leaving_sum calls, sum_by-cons (λ (d : Call). length d.candidates) c calls)

  leave_sum : sum_by (leave_cost g) xs ≤ candidate_count g
  leave_sum = leaving_sum g.calls

  pub visit_sum : sum_by (visit_cost g) xs ≤ length g.silent + length g.calls + 2 * candidate_count g
  visit_sum = omega (arith, sum_by-add (λ a. silent_cost g a + enter_cost g a) (leave_cost g) xs, sum_by-add (silent_cost g) (enter_cost g) xs, silent_sum, enter_sum, leave_sum)
