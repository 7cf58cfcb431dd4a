-- The shapes of a well-typed program are closed and named.
use Rattle.std.proofs.Common.{◌≡◌, ◌≢◌, ◌⊎◌, inl, inr, ℕ, zero, suc, ◌+◌, ◌-◌, ◌<◌, ◌≤◌, Bool, true, false, ◌&&◌, nat_lt, if◌then◌else◌, List, [], ◌∷◌, ◌++◌, map, filter, length, length-append, not, Contains, All, AllPairs, Option, Some, None, refl, ap, sym, ◌∙◌, subst, arith}
use Rattle.std.specs.List.{range_with_len}
use Rattle.std.proofs.lemmas.Bool.{false≢true, cases_lt}
use Rattle.std.proofs.lemmas.List.Kept.{AllPairs-filter}
use Rattle.std.proofs.lemmas.List.{length-map}
use Rattle.std.proofs.lemmas.List.Filters.{length-filter_both}
use Rattle.std.proofs.lemmas.Option.{slice_get_within}
use Rattle.std.proofs.lemmas.List.Elements.{All-append, Contains-append_cases}
use Rattle.dm_base.specs.Name.{IsName}
use Rattle.sys_table.specs.Table.{name_of}
use Rattle.sys_table.proofs.Names.{same_call}
use Rattle.c_meaning.specs.Tree.{CType, Function, Program}
use Rattle.c_meaning.specs.Functions.{defined, value_type}
use Rattle.c_meaning.specs.Program.{IsProgram, IsFunction}
use Rattle.c_meaning.specs.Bodies.{IsBody}
use Rattle.c_meaning.specs.Mentions.{Callee, Direct, Through, mentions_of_program}
use Rattle.c_meaning.specs.CallGraph.{is_taken, is_typed, functions_of, callees, reaches, is_marked, marked, callee_at, called_where, marked_where, candidates}
use Rattle.c_meaning.specs.ShapeOf.{shape_of_function, any_call, taken_calls, shapes_of_functions, names_of_functions, place_of, shapes_of}
use Rattle.c_meaning.specs.GraphOf.{nodes_from}
use Rattle.c_meaning.specs.Premises.{AreClosed, AreNamed, HasRightCalls}
use Rattle.c_meaning.proofs.Rising.{all_from, of_all, pairs_cons, pairs_head, pairs_tail, pairs_nil}
use Rattle.c_meaning.proofs.ShapesOfTrees.{statement_has, right_stmt, right_any, any_body}
use Rattle.c_meaning.proofs.SitesOfTrees.{sites_differ}
use Rattle.c_meaning.proofs.SystemNames.{named_call}
use Rattle.c_meaning.proofs.Members.{and_left, below, is_below, is_first, is_later, cases, from_filter, in_filter, from_range, in_range, from_map, isnt_below}

-- what does not pass makes the list shorter
fewer : {X : Type 0} (test : X → Bool) (xs : List X) (z : X) → Contains xs z → test z ≡ false → length (filter test xs) < length xs
fewer test xs z h k =
    let s = length-filter_both test (λ x. not (test x)) (λ x. refl) xs in
    let (i, lt, is) = in_filter (λ x. not (test x)) xs z h (ap not k) in
    omega (arith, s, lt)

all_map : {X Y : Type 0} (P : Y → Type 0) (f : X → Y) (xs : List X) → ((x : X) → Contains xs x → P (f x)) → All P (map f xs)
all_map P f xs h = all_from P (map f xs) (λ y k. let r = from_map f xs y k in subst P r.2 (h r.0 r.1))

module _ (p : Program) where
  length_both : {X : Type 0} (f : Function → X) (g : ℕ → X) → length (map f p.functions ++ map g (taken_calls p)) ≡ defined p + length (taken_calls p)
  length_both f g =
      let k = length-append (map f p.functions) (map g (taken_calls p)) in
      let i = length-map p.functions f in
      let j = length-map (taken_calls p) g in
      omega (arith, k, i, j)

  many : length (shapes_of_functions p) ≡ defined p + length (taken_calls p)
  many = length_both (shape_of_function p) any_call

  -- a function that may be entered: it is defined, or a taken system call
  Entered : ℕ → Type 0
  Entered f = (f < defined p) ⊎ ((defined p ≤ f) × Contains (taken_calls p) (f - defined p))

  place_if : (f : ℕ) (b : Bool) → nat_lt f (defined p) ≡ b → Entered f → (if b then f else defined p + length (filter (λ x. nat_lt x (f - defined p)) (taken_calls p))) < defined p + length (taken_calls p)
  unfolding Entered
  place_if f true e h = let lt = below f (defined p) e in omega (arith, lt)
  place_if f false e (inl lt) = absurd (false≢true (sym e ∙ is_below f (defined p) lt))
  place_if f false e (inr h) = let k = fewer (λ x. nat_lt x (f - defined p)) (taken_calls p) (f - defined p) h.1 (isnt_below (f - defined p) (f - defined p) (omega arith)) in omega (arith, k)

  placed : (f : ℕ) → Entered f → place_of p f < length (shapes_of_functions p)
  placed f h = let k = place_if f (nat_lt f (defined p)) refl h in let m = many in omega (arith, k, m)

  taken_entered : (t : CType) (f : ℕ) → Contains (callees p (Through t)) f → Entered f
  unfolding Entered
  taken_entered t f h =
      let r = from_filter (λ f. is_taken p f && is_typed t (value_type p f)) (functions_of p) f h in
      let taken = and_left (is_taken p f) (is_typed t (value_type p f)) r.1 in
      let bounds = from_range 0 (defined p + 24) f r.0 in
      elim (cases_lt f (defined p)) as (λ k. (f < defined p) ⊎ ((defined p ≤ f) × Contains (taken_calls p) (f - defined p))) [
        | inl lt ↦ inl lt
        | inr ge ↦ (
            let same : defined p + (f - defined p) ≡ f = omega (arith, ge) in
            inr (ge, in_filter (λ x. is_taken p (defined p + x)) (range_with_len 0 24) (f - defined p) (in_range 0 24 (f - defined p) (omega arith) (omega (arith, ge, bounds.1))) (ap (is_taken p) same ∙ taken)))
      ]

  callee_entered : (callee : Callee) → is_marked p callee ≡ true → (f : ℕ) → Contains (callees p callee) f → Entered f
  unfolding Entered
  callee_entered (Direct g) m f h = elim (cases g [] f h) as (λ k. (f < defined p) ⊎ ((defined p ≤ f) × Contains (taken_calls p) (f - defined p))) [
    | inl is ↦ inl (subst (λ f. f < defined p) is (below g (defined p) (and_left (nat_lt g (defined p)) (reaches p g) m)))
    | inr k ↦ absurd (omega (arith, k.1))
  ]
  callee_entered (Through t) m f h = taken_entered t f h

  where_entered : (o : Option Callee) → marked_where p o ≡ true → (f : ℕ) → Contains (called_where p o) f → Entered f
  where_entered None m f h = absurd (false≢true m)
  where_entered (Some callee) m f h = callee_entered callee m f h

  known_if : (s : ℕ) (b : Bool) → marked p s ≡ b → (i : ℕ) → Contains (if b then map (place_of p) (candidates p s) else []) i → i < length (shapes_of_functions p)
  known_if s true e i h = let r = from_map (place_of p) (candidates p s) i h in subst (λ i. i < length (shapes_of_functions p)) r.2 (placed r.0 (where_entered (callee_at s (mentions_of_program p)) e r.0 r.1))
  known_if s false e i h = absurd (omega (arith, h.1))

  pub closed : (n : ℕ) → IsProgram p n → AreClosed (shapes_of p)
  closed n h = record {
    once = sites_differ p n (taken_calls p) (h.sites);
    bodies = All-append IsBody (map (shape_of_function p) p.functions) (map any_call (taken_calls p)) (all_map IsBody (shape_of_function p) p.functions (λ f k. body f (of_all (IsFunction p) p.functions (h.functions) f k))) (all_map IsBody any_call (taken_calls p) (λ x k. any_body x));
    known = λ s i k. known_if s (marked p s) refl i k;
    main = let (f, has, type) = h.main in let lt = slice_get_within p.functions p.main f has in let m = many in omega (arith, lt, m);
  }
    where
      body : (f : Function) → IsFunction p f → IsBody (shape_of_function p f)
      body f i = statement_has p f.variables (i.gives) f.body false false (i.typed)

  call_number : (x : ℕ) → Contains (taken_calls p) x → x < 24
  call_number x h = let r = from_range 0 24 x ((from_filter (λ x. is_taken p (defined p + x)) (range_with_len 0 24) x h).0) in omega (arith, r.1)

  -- the numbers of the taken calls rise
  range_differs : (a n : ℕ) → AllPairs (λ x y. x ≢ y) (range_with_len a n)
  range_differs a zero = pairs_nil (λ x y. x ≢ y)
  range_differs a (suc n) = pairs_cons (λ x y. x ≢ y) a (range_with_len (a + 1) n) (λ z k e. let r = from_range (a + 1) n z k in omega (arith, e, r.0)) (range_differs (a + 1) n)

  pairs_map : {X Y : Type 0} (R : Y → Y → Type 0) (f : X → Y) (xs : List X) → AllPairs (λ x z. R (f x) (f z)) xs → AllPairs R (map f xs)
  pairs_map R f [] h = pairs_nil R
  pairs_map R f (x ∷ xs) h = pairs_cons R (f x) (map f xs) (λ y k. let r = from_map f xs y k in subst (λ y. R (f x) y) r.2 (pairs_head (λ x z. R (f x) (f z)) x xs h r.0 r.1)) (pairs_map R f xs (pairs_tail (λ x z. R (f x) (f z)) x xs h))

  pairs_append : {X : Type 0} (R : X → X → Type 0) (xs ys : List X) → AllPairs R xs → AllPairs R ys → ((x y : X) → Contains xs x → Contains ys y → R x y) → AllPairs R (xs ++ ys)
  pairs_append R [] ys h k across = k
  pairs_append R (x ∷ xs) ys h k across = pairs_cons R x (xs ++ ys) (λ z q. elim (Contains-append_cases xs ys z q) as (λ w. R x z) [ inl w ↦ pairs_head R x xs h z w | inr w ↦ across x z (is_first x xs) w ]) (pairs_append R xs ys (pairs_tail R x xs h) k (λ a b i j. across a b (is_later x xs a i) j))

  calls_differ : (xs : List ℕ) → AllPairs (λ x y. x ≢ y) xs → ((x : ℕ) → Contains xs x → x < 24) → AllPairs (λ x y. name_of x ≢ name_of y) xs
  calls_differ [] h small = pairs_nil (λ x y. name_of x ≢ name_of y)
  calls_differ (x ∷ xs) h small = pairs_cons (λ x y. name_of x ≢ name_of y) x xs (λ z k e. pairs_head (λ x y. x ≢ y) x xs h z k (same_call x z (small x (is_first x xs)) (small z (is_later x xs z k)) e)) (calls_differ xs (pairs_tail (λ x y. x ≢ y) x xs h) (λ y k. small y (is_later x xs y k)))

  abbrev name_in : Function → List ℕ
  name_in f = f.name

  pub many_names : length (names_of_functions p) ≡ length (shapes_of_functions p)
  many_names = length_both name_in name_of ∙ sym many

  pub named : (n : ℕ) → IsProgram p n → nodes_from 0 (shapes_of_functions p) ≤ 200000 → AreNamed (names_of_functions p) (shapes_of p)
  named n h few = record {
    many = many_names;
    names = All-append IsName (map name_in p.functions) (map name_of (taken_calls p)) (all_map IsName name_in p.functions (λ f k. of_all (λ (f : Function). IsName f.name) p.functions ((h.names).names) f k)) (all_map IsName name_of (taken_calls p) (λ x k. named_call x (call_number x k)));
    differ = pairs_append (λ x y. x ≢ y) (map name_in p.functions) (map name_of (taken_calls p)) (pairs_map (λ x y. x ≢ y) name_in p.functions ((h.names).differ)) (pairs_map (λ x y. x ≢ y) name_of (taken_calls p) (calls_differ (taken_calls p) (AllPairs-filter (λ x y. x ≢ y) (λ x. is_taken p (defined p + x)) (range_with_len 0 24) (range_differs 0 24)) call_number)) (λ x y i j e. let r = from_map name_in p.functions x i in let s = from_map name_of (taken_calls p) y j in of_all (λ (f : Function). (x : ℕ) → x < 24 → f.name ≢ name_of x) p.functions ((h.names).apart) r.0 r.1 s.0 (call_number s.0 s.1) (r.2 ∙ (e ∙ sym s.2)));
    patterns = All-append HasRightCalls (map (shape_of_function p) p.functions) (map any_call (taken_calls p)) (all_map HasRightCalls (shape_of_function p) p.functions (λ f k. right_stmt p f.body)) (all_map HasRightCalls any_call (taken_calls p) (λ x k. right_any x));
    few = few;
  }
