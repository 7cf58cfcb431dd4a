-- The functions of a program's shapes, by their places.
use Rattle.std.proofs.Common.{◌≡◌, inl, inr, ℕ, zero, suc, ◌+◌, ◌-◌, ◌<◌, ◌≤◌, Bool, true, false, ◌&&◌, nat_lt, if◌then◌else◌, List, [], ◌∷◌, ◌++◌, map, filter, length, Contains, Option, Some, None, option_map, slice_get, slice_index_or, refl, ap, sym, ◌∙◌, arith}
use Rattle.std.specs.List.{range_with_len}
use Rattle.std.proofs.Common.{length-append}
use Rattle.std.proofs.lemmas.Bool.{false≢true}
use Rattle.std.proofs.lemmas.Option.{slice_get_within, slice_get-map, get_or_from_slice_get}
use Rattle.std.proofs.lemmas.List.{get_or_append_left, get_or-append-add}
use Rattle.c_tree.specs.Tree.{CType, pointer, Function, Program}
use Rattle.c_tree.specs.Functions.{defined, type_of_defined, value_types, null_types, value_type, called_type, sys_types}
use Rattle.c_meaning.specs.Shape.{Shape, Skip, shape_of}
use Rattle.c_meaning.specs.Mentions.{Through}
use Rattle.c_meaning.specs.CallGraph.{is_taken, is_typed, functions_of, callees}
use Rattle.c_meaning.specs.ShapeOf.{shape_of_function, any_call, taken_calls, shapes_of_functions, place_of, shapes_of}
use Rattle.c_meaning.proofs.SameTypes.{types_tell}
use Rattle.c_meaning.proofs.Lists.{cases, none_in, and_left, and_right, is_below, isnt_below, from_filter, in_filter, from_range, in_range}
use Rattle.c_meaning.proofs.Members.{length_map}
use Rattle.c_meaning.proofs.Places.{get_left as get_from}
pub use Rattle.c_meaning.proofs.Places.{get_before as get_left}
use Rattle.c_meaning.proofs.Keeps.{defined_at, undefined_at}

index_left : {X : Type 0} (xs ys : List X) (d : X) (k : ℕ) (x : X) → slice_get xs k ≡ Some x → slice_index_or (xs ++ ys) k d ≡ x
index_left xs ys d k x e = get_or_append_left xs ys d k (slice_get_within xs k x e) ∙ get_or_from_slice_get xs k x d e

-- where a member of a rising list stands
less_if : (a x : ℕ) (b : Bool) (ts : List ℕ) → x ≤ a → filter (λ y. nat_lt y x) ts ≡ [] → filter (λ y. nat_lt y x) (if b then a ∷ ts else ts) ≡ []
less_if a x true ts le rest = rw (isnt_below a x le) rest
less_if a x false ts le rest = rest

none_less : (a n : ℕ) (test : ℕ → Bool) (x : ℕ) → x ≤ a → filter (λ y. nat_lt y x) (filter test (range_with_len a n)) ≡ []
none_less a zero test x le = refl
none_less a (suc n) test x le =
    less_if a x (test a) (filter test (range_with_len (a + 1) n)) le (none_less (a + 1) n test x (omega (arith, le)))

index_at : (f : ℕ → Shape) (a x n : ℕ) (test : ℕ → Bool) (b : Bool) → Contains (if b then a ∷ filter test (range_with_len (a + 1) n) else filter test (range_with_len (a + 1) n)) x → (Contains (filter test (range_with_len (a + 1) n)) x → slice_index_or (map f (filter test (range_with_len (a + 1) n))) (length (filter (λ y. nat_lt y x) (filter test (range_with_len (a + 1) n)))) Skip ≡ f x) → slice_index_or (map f (if b then a ∷ filter test (range_with_len (a + 1) n) else filter test (range_with_len (a + 1) n))) (length (filter (λ y. nat_lt y x) (if b then a ∷ filter test (range_with_len (a + 1) n) else filter test (range_with_len (a + 1) n)))) Skip ≡ f x
index_at f a x n test true h rest =
    let ts = filter test (range_with_len (a + 1) n) in
    let less = filter (λ y. nat_lt y x) ts in
    elim (cases a ts x h) as (λ k. slice_index_or (f a ∷ map f ts) (length (if nat_lt a x then a ∷ less else less)) Skip ≡ f x) [
      | inl is ↦ rw (isnt_below a x (omega (arith, is)), none_less (a + 1) n test x (omega (arith, is))) (ap f is)
      | inr k ↦ (let r = from_range (a + 1) n x ((from_filter test (range_with_len (a + 1) n) x k).0) in rw (is_below a x (omega (arith, r.0))) (rest k))
    ]
index_at f a x n test false h rest = rest h

stands_at : (f : ℕ → Shape) (a n : ℕ) (test : ℕ → Bool) (x : ℕ) → Contains (filter test (range_with_len a n)) x → slice_index_or (map f (filter test (range_with_len a n))) (length (filter (λ y. nat_lt y x) (filter test (range_with_len a n)))) Skip ≡ f x
stands_at f a zero test x h = absurd (none_in x h)
stands_at f a (suc n) test x h = index_at f a x n test (test a) h (stands_at f (a + 1) n test x)

module _ (p : Program) where
  -- the shape of a defined function
  pub shape_at : (f : ℕ) (g : Function) → slice_get p.functions f ≡ Some g → shape_of (shapes_of p) f ≡ shape_of_function p g
  shape_at f g is =
      index_left (map (shape_of_function p) p.functions) (map any_call (taken_calls p)) Skip f (shape_of_function p g) (slice_get-map (shape_of_function p) p.functions f ∙ ap (option_map (shape_of_function p)) is)

  pub shape_defined : (f : ℕ) (g : Function) → slice_get p.functions f ≡ Some g → shape_of (shapes_of p) (place_of p f) ≡ shape_of_function p g
  shape_defined f g is =
      ap (λ b. shape_of (shapes_of p) (if b then f else defined p + length (filter (λ x. nat_lt x (f - defined p)) (taken_calls p)))) (is_below f (defined p) (slice_get_within p.functions f g is))
      ∙ shape_at f g is

  -- the shape of a taken system call
  pub shape_system : (f : ℕ) → defined p ≤ f → Contains (taken_calls p) (f - defined p) → shape_of (shapes_of p) (place_of p f) ≡ any_call (f - defined p)
  shape_system f le taken =
      let less = length (filter (λ x. nat_lt x (f - defined p)) (taken_calls p)) in
      ap (λ b. shape_of (shapes_of p) (if b then f else defined p + less)) (isnt_below f (defined p) le)
      ∙ (ap (λ n. slice_index_or (shapes_of_functions p) (n + less) Skip) (sym (length_map (shape_of_function p) p.functions))
      ∙ (get_or-append-add (map (shape_of_function p) p.functions) (map any_call (taken_calls p)) less Skip
      ∙ stands_at any_call 0 24 (λ x. is_taken p (defined p + x)) (f - defined p) taken))

  -- a system call that is called through a pointer is taken
  pub system_taken : (t : CType) (f : ℕ) → Contains (callees p (Through t)) f → defined p ≤ f → (f - defined p < 24) × Contains (taken_calls p) (f - defined p)
  system_taken t f h le =
      let r = from_filter (λ f. is_taken p f && is_typed t (value_type p f)) (functions_of p) f h in
      let bounds = from_range 0 (defined p + 24) f r.0 in
      let same : defined p + (f - defined p) ≡ f = omega (arith, le) in
      let taken = and_left (is_taken p f) (is_typed t (value_type p f)) r.1 in
      (omega (arith, le, bounds.1), in_filter (λ x. is_taken p (defined p + x)) (range_with_len 0 24) (f - defined p) (in_range 0 24 (f - defined p) (omega arith) (omega (arith, le, bounds.1))) (ap (is_taken p) same ∙ taken))

  -- and a function that is called through a pointer has the type that is pointed to
  typed_of : (t : CType) (o : Option CType) → is_typed (pointer t) o ≡ true → o ≡ Some t
  typed_of t None h = absurd (false≢true h)
  typed_of t (Some u) h = ap Some (sym ((types_tell t u).0 h))

  pub through_type : (t : CType) (f : ℕ) → Contains (callees p (Through (pointer t))) f → value_type p f ≡ Some t
  through_type t f h =
      let r = from_filter (λ f. is_taken p f && is_typed (pointer t) (value_type p f)) (functions_of p) f h in
      typed_of t (value_type p f) (and_right (is_taken p f) (is_typed (pointer t) (value_type p f)) r.1)

  -- the types of functions
  many_values : length (value_types p) ≡ defined p + 24
  unfolding sys_types
  many_values = let k = length-append (map type_of_defined p.functions) sys_types in let l = length_map type_of_defined p.functions in omega (arith, k, l)

  pub value_defined : (f : ℕ) (t : CType) → value_type p f ≡ Some t → f < defined p → (g : Function) × (slice_get p.functions f ≡ Some g) × (g.ctype ≡ t)
  value_defined f t e lt = defined_at p.functions sys_types f t lt e

  called_value : (f : ℕ) → f < defined p + 24 → called_type p f ≡ value_type p f
  called_value f lt = let k = many_values in get_left (value_types p) null_types f (omega (arith, lt, k))

  pub type_of_function : (f : ℕ) (g : Function) → slice_get p.functions f ≡ Some g → called_type p f ≡ Some g.ctype
  type_of_function f g is =
      get_from (value_types p) null_types f g.ctype (get_from (map type_of_defined p.functions) sys_types f g.ctype (slice_get-map type_of_defined p.functions f ∙ ap (option_map type_of_defined) is))

  pub called_defined : (f : ℕ) (t : CType) → called_type p f ≡ Some t → f < defined p → (g : Function) × (slice_get p.functions f ≡ Some g) × (g.ctype ≡ t)
  called_defined f t e lt = value_defined f t (sym (called_value f (omega (arith, lt))) ∙ e) lt

  pub called_system : (f : ℕ) (t : CType) → called_type p f ≡ Some t → defined p ≤ f → f - defined p < 24 → slice_get sys_types (f - defined p) ≡ Some t
  called_system f t e le lt =
      undefined_at p.functions sys_types f t le (sym (called_value f (omega (arith, le, lt))) ∙ e)
