-- The nodes from which calls lead to a system call are the functions that may come to one, and the types of pointers through which one of those may be called.
use Rattle.std.proofs.Common.{◌≡◌, ◌⊎◌, ◌↔◌, ℕ, zero, suc, ◌+◌, ◌<◌, ◌≤◌, Bool, true, false, ◌&&◌, ◌||◌, List, [], ◌∷◌, length, map, Contains, Option, None, Some, Vec, Global, refl, sym, ◌∙◌, ap, subst, inl, inr, arith}
use Rattle.std.specs.Prelude.{slice_get, nat_lt, flat_map, option_map, if◌then◌else◌}
use Rattle.std.specs.List.{range_with_len}
use Rattle.std.proofs.lemmas.Bool.{lt-ltb, ltb-true, false≢true}
use Rattle.std.proofs.lemmas.Option.{slice_get_within, slice_get-map}
use Rattle.std.proofs.lemmas.List.Elements.{Contains-append_left}
use Rattle.c_tree.specs.Tree.{CType, Function, Program}
use Rattle.c_tree.specs.Functions.{defined, value_type}
use Rattle.c_meaning.specs.Mentions.{Direct, Through, Mention, Named, Calls, mentions_of_function, mentions_of_program}
use Rattle.c_meaning.specs.CallGraph.{same_type, is_in, has_one, is_taken, is_typed, functions_of, callees, enters, said_by, one_round, reaching, reaches}
use Rattle.c_meaning.proofs.Rounds.{enough}
use Rattle.c_meaning.proofs.Members.{or_left, or_right, or_cases}
use Rattle.c_meaning.proofs.Standing.{in_flat}
use Rattle.c_meaning.proofs.SameTypes.{types_tell}
use Rattle.flow_graph.specs.Types.{first_place}
use Rattle.flow_graph.specs.Callers.{HasCaller, node_called, IsCallBelow, IsCandidateBelow, AreCallers, Leads, IsReaching}
use Rattle.flow_graph.specs.Callers.Leads.{here, on}
use Rattle.c_meaning.proofs.Lists.{cases, none_in, one_passes, one_found, in_is, is_in_of, in_filter, from_filter, in_range, from_range}

-- the place of a type that is there
first_by : (t u : CType) (us : List CType) (b : Bool) → same_type t u ≡ b → (if b then 0 else first_place t us + 1) < length (u ∷ us)
    → (first_place t us < length us → slice_get us (first_place t us) ≡ Some t) → slice_get (u ∷ us) (if b then 0 else first_place t us + 1) ≡ Some t
first_by t u us true e lt rest = ap Some (sym ((types_tell t u).0 e))
first_by t u us false e lt rest = let k : first_place t us + 1 ≡ suc (first_place t us) = omega arith in ap (slice_get (u ∷ us)) k ∙ rest (omega (arith, lt))

pub first_within : (t : CType) (us : List CType) → first_place t us < length us → slice_get us (first_place t us) ≡ Some t
first_within t [] lt = absurd (omega (arith, lt))
first_within t (u ∷ us) lt = first_by t u us (same_type t u) refl lt (first_within t us)

there_by : (n m : ℕ) (b : Bool) → (b ≡ true) ⊎ (m < n) → (if b then 0 else m + 1) < suc n
there_by n m true s = omega arith
there_by n m false (inl e) = absurd (false≢true e)
there_by n m false (inr lt) = omega (arith, lt)

pub first_there : (t : CType) (us : List CType) → Contains us t → first_place t us < length us
first_there t [] has = absurd (none_in t has)
first_there t (u ∷ us) has = there_by (length us) (first_place t us) (same_type t u) (elim (cases u us t has) as (λ _. (same_type t u ≡ true) ⊎ (first_place t us < length us)) [
  | inl e ↦ inl ((types_tell t u).1 (sym e))
  | inr more ↦ inr (first_there t us more)
])

-- what a map has at a place
pub get_map : {X Y : Type 0} (h : X → Y) (xs : List X) (i : ℕ) (y : Y) → slice_get (map h xs) i ≡ Some y → (x : X) × (slice_get xs i ≡ Some x) × (h x ≡ y)
get_map h [] i y is = absurd cc
get_map h (x ∷ xs) zero y is = (x, refl, cc)
get_map h (x ∷ xs) (suc i) y is = get_map h xs i y is

pub map_get : {X Y : Type 0} (h : X → Y) (xs : List X) (i : ℕ) (x : X) → slice_get xs i ≡ Some x → slice_get (map h xs) i ≡ Some (h x)
map_get h xs i x is = slice_get-map h xs i ∙ ap (option_map h) is

-- the node of a function that is called
direct_by : (b : Bool) (f j n : ℕ) → nat_lt f n ≡ b → (if b then Some f else None) ≡ Some j → (f ≡ j) × (f < n)
direct_by true f j n e is = (cc, ltb-true f n e)
direct_by false f j n e is = absurd cc

direct_node : (f j n : ℕ) → (if nat_lt f n then Some f else None) ≡ Some j → (f ≡ j) × (f < n)
direct_node f j n is = direct_by (nat_lt f n) f j n refl is

node_direct : (f n : ℕ) → f < n → (if nat_lt f n then Some f else None) ≡ Some f
node_direct f n lt = ap (λ b. if b then Some f else None) (lt-ltb f n lt)

pub some_same : {X : Type 0} {a b : X} → Some a ≡ Some b → a ≡ b
some_same e = cc

pub leads_more : {callers : List (Vec ℕ Global)} {j k l : ℕ} → Leads callers j k → HasCaller callers (record { by = l; to = k }) → Leads callers j l
leads_more here link = on link here
leads_more (on first rest) link = on first (leads_more rest link)

module _ (p : Program) (types : List CType) (callers : List (Vec ℕ Global)) (are : AreCallers p types (map (λ t. callees p (Through t)) types) callers) where
  abbrev d : ℕ
  d = defined p

  abbrev n : ℕ
  n = defined p + 24

  abbrev size : ℕ
  size = defined p + 24 + length types

  abbrev R : List ℕ
  R = reaching p d

  abbrev lists : List (List ℕ)
  lists = map (λ t. callees p (Through t)) types

  abbrev test : List ℕ → ℕ → Bool
  test fs f = is_in f fs || has_one (enters p fs) (said_by (slice_get p.functions f))

  -- a function whose body has a call that may call a reaching one is reaching
  closed : (f : ℕ) (F : Function) → slice_get p.functions f ≡ Some F → (m : Mention) → Contains (mentions_of_function F) m → enters p R m ≡ true → reaches p f ≡ true
  closed f F is m has may =
      let low : f < d = slice_get_within p.functions f F is in
      let one : has_one (enters p R) (said_by (slice_get p.functions f)) ≡ true =
      subst (λ o. has_one (enters p R) (said_by o) ≡ true) (sym is) (one_found (enters p R) (mentions_of_function F) m has may) in
      enough p (suc d) f (is_in_of f (one_round p R) (in_filter (test R) (functions_of p) f (in_range 0 n f (omega arith) (omega (arith, low))) (or_right (is_in f R) (has_one (enters p R) (said_by (slice_get p.functions f))) one)))

  -- what may be called through a pointer are functions
  callee_low : (t : CType) (g : ℕ) → Contains (callees p (Through t)) g → g < n
  callee_low t g has =
      let r = (from_filter (λ f. is_taken p f && is_typed t (value_type p f)) (functions_of p) g has).0 in
      let s = (from_range 0 n g r).1 in
      omega (arith, s)

  record Good (x : ℕ) : Type 0 where
    function : x < n → reaches p x ≡ true
    pointer : (k : ℕ) (t : CType) → x ≡ n + k → slice_get types k ≡ Some t → has_one (reaches p) (callees p (Through t)) ≡ true

  start_good : (j : ℕ) → d ≤ j → j < d + 24 → Good j
  start_good j le lt = record {
    function = λ _. enough p zero j (is_in_of j (range_with_len d 24) (in_range d 24 j le lt));
    pointer = λ k t e is. absurd (omega (arith, lt, e));
  }

  may_enter : (j f : ℕ) (m : Mention) → Good j → node_called types n m ≡ Some j → j < size → enters p R m ≡ true
  may_enter j f (Named g) good node low = absurd cc
  may_enter j f (Calls s (Direct g)) good node low =
      let r = direct_node g j n node in
      or_left (is_in g R) false (subst (λ g. reaches p g ≡ true) (sym r.0) (good.function (omega (arith, r.0, r.1))))
  may_enter j f (Calls s (Through t)) good node low =
      let e : n + first_place t types ≡ j = some_same node in
      good.pointer (first_place t types) t (sym e) (first_within t types (omega (arith, e, low)))

  body_good : (j k : ℕ) → Good j → IsCallBelow size types n p d (record { by = k; to = j }) → Good k
  body_good j k good (f, below, F, is, (m, has, (by_is, node, low))) = record {
    function = λ _. subst (λ f. reaches p f ≡ true) (sym by_is) (closed f F is m has (may_enter j f m good node low));
    pointer = λ i t e at. absurd (omega (arith, below, by_is, e));
  }

  list_good : (j k : ℕ) → Good j → IsCandidateBelow size n lists (length lists) (record { by = k; to = j }) → Good k
  list_good j k good (i, below, fs, is, (g, has, (by_is, to_is, low))) =
      let r = get_map (λ t. callees p (Through t)) types i fs is in
      let member : Contains (callees p (Through r.0)) g = subst (λ gs. Contains gs g) (sym r.2) has in
      let is_low = callee_low r.0 g member in
      let reach : reaches p g ≡ true = subst (λ x. reaches p x ≡ true) to_is (good.function (omega (arith, to_is, is_low))) in
      record {
        function = λ lt. absurd (omega (arith, by_is, lt));
        pointer = λ i' t e at.
            let same : i' ≡ i = omega (arith, e, by_is) in
            let both : Some t ≡ Some r.0 = sym at ∙ ap (slice_get types) same ∙ r.1 in
            let equal : r.0 ≡ t = cc in
            subst (λ u. has_one (reaches p) (callees p (Through u)) ≡ true) equal (one_found (reaches p) (callees p (Through r.0)) g member reach);
      }

  step_good : (j k : ℕ) → Good j → HasCaller callers (record { by = k; to = j }) → Good k
  step_good j k good link = elim ((are.are (record { by = k; to = j })).0 link) as (λ _. Good k) [ inl body ↦ body_good j k good body | inr list ↦ list_good j k good list ]

  all_good : {j k : ℕ} → Leads callers j k → Good j → Good k
  all_good here good = good
  all_good (on {j = j} {k = k} link rest) good = all_good rest (step_good j k good link)

  reaching_good : (k : ℕ) → IsReaching callers d k → Good k
  reaching_good k (j, le, lt, leads) = all_good leads (start_good j le lt)

  extend : (j k : ℕ) → IsReaching callers d j → HasCaller callers (record { by = k; to = j }) → IsReaching callers d k
  extend j k (i, le, lt, leads) link = (i, le, lt, leads_more leads link)

  -- a reaching candidate makes its pointer reaching
  pointer_link : (k g : ℕ) (t : CType) → slice_get types k ≡ Some t → Contains (callees p (Through t)) g → HasCaller callers (record { by = n + k; to = g })
  pointer_link k g t at has =
      let low = callee_low t g has in
      let at_list = map_get (λ t. callees p (Through t)) types k t at in
      (are.are (record { by = n + k; to = g })).1 (inr (k, slice_get_within lists k (callees p (Through t)) at_list, callees p (Through t), at_list, (g, has, (refl, refl, omega (arith, low)))))

  known : (m f : ℕ) → is_in f (reaching p m) ≡ true → f < n
  known zero f h = let r = (from_range d 24 f (in_is f (range_with_len d 24) h)).1 in omega (arith, r)
  known (suc m) f h =
      let r = (from_filter (test (reaching p m)) (functions_of p) f (in_is f (one_round p (reaching p m)) h)).0 in
      let s = (from_range 0 n f r).1 in
      omega (arith, s)

  module _ (all_types : (s : ℕ) (t : CType) → Contains (mentions_of_program p) (Calls s (Through t)) → Contains types t) where
    from_mention : (f i : ℕ) (F : Function) → slice_get p.functions f ≡ Some F → (m : Mention) → Contains (mentions_of_function F) m
        → ((g : ℕ) → is_in g (reaching p i) ≡ true → IsReaching callers d g) → enters p (reaching p i) m ≡ true → IsReaching callers d f
    from_mention f i F is (Named g) has before may = absurd (false≢true may)
    from_mention f i F is (Calls s (Direct g)) has before may =
        let r = one_passes (λ f. is_in f (reaching p i)) (g ∷ []) may in
        let e : g ≡ r.0 = elim (cases g [] r.0 r.1) as (λ _. g ≡ r.0) [ inl e ↦ e | inr none ↦ absurd (none_in r.0 none) ] in
        let reach : is_in g (reaching p i) ≡ true = subst (λ x. is_in x (reaching p i) ≡ true) (sym e) r.2 in
        let low = known i g reach in
        let below : f < d = slice_get_within p.functions f F is in
        extend g f (before g reach) ((are.are (record { by = f; to = g })).1 (inl (f, below, F, is, (Calls s (Direct g), has, (refl, node_direct g n low, omega (arith, low))))))
    from_mention f i F is (Calls s (Through t)) has before may =
        let r = one_passes (λ f. is_in f (reaching p i)) (callees p (Through t)) may in
        let g = r.0 in
        let in_program = Contains-append_left (flat_map mentions_of_function p.functions) _ (Calls s (Through t)) (in_flat mentions_of_function p.functions f F (Calls s (Through t)) is has) in
        let short = first_there t types (all_types s t in_program) in
        let k = first_place t types in
        let at = first_within t types short in
        let below : f < d = slice_get_within p.functions f F is in
        let pointer : IsReaching callers d (n + k) = extend g (n + k) (before g r.2) (pointer_link k g t at r.1) in
        extend (n + k) f pointer ((are.are (record { by = f; to = n + k })).1 (inl (f, below, F, is, (Calls s (Through t), has, (refl, refl, omega (arith, short))))))

    from_said : (f i : ℕ) (o : Option Function) → slice_get p.functions f ≡ o → ((g : ℕ) → is_in g (reaching p i) ≡ true → IsReaching callers d g) → has_one (enters p (reaching p i)) (said_by o) ≡ true → IsReaching callers d f
    from_said f i None is before h = absurd (false≢true h)
    from_said f i (Some F) is before h = let r = one_passes (enters p (reaching p i)) (mentions_of_function F) h in from_mention f i F is r.0 r.1 before r.2

    found : (i f : ℕ) → is_in f (reaching p i) ≡ true → IsReaching callers d f
    found zero f h = let r = from_range d 24 f (in_is f (range_with_len d 24) h) in (f, r.0, r.1, here)
    found (suc i) f h =
        let r = (from_filter (test (reaching p i)) (functions_of p) f (in_is f (one_round p (reaching p i)) h)).1 in
        elim (or_cases (is_in f (reaching p i)) (has_one (enters p (reaching p i)) (said_by (slice_get p.functions f))) r) as (λ _. IsReaching callers d f) [
          | inl before ↦ found i f before
          | inr one ↦ from_said f i (slice_get p.functions f) refl (found i) one
        ]

    pub function_reaches : (f : ℕ) → f < defined p + 24 → IsReaching callers (defined p) f ↔ (reaches p f ≡ true)
    function_reaches f low = (λ is. (reaching_good f is).function low, λ h. found d f h)

    pub pointer_reaches : (k : ℕ) (t : CType) → slice_get types k ≡ Some t → IsReaching callers (defined p) (defined p + 24 + k) ↔ (has_one (reaches p) (callees p (Through t)) ≡ true)
    pointer_reaches k t at = (
      λ is. (reaching_good (n + k) is).pointer k t refl at,
      λ h. let r = one_passes (reaches p) (callees p (Through t)) h in extend (r.0) (n + k) (found d (r.0) r.2) (pointer_link k (r.0) t at r.1),
    )
