-- The types of functions, places of types, and the functions that may be called through a pointer.
use Rattle.std.proofs.Common.{◌≡◌, ◌↔◌, ℕ, suc, ◌+◌, ◌-◌, ◌<◌, ◌≤◌, Bool, true, false, cond, ◌&&◌, List, [], ◌∷◌, ◌++◌, length, map, filter, drop, get_or, Option, Some, refl, sym, ◌∙◌, ap, arith, append-nil}
use Rattle.std.specs.Prelude.{slice_get, if◌then◌else◌}
use Rattle.std.specs.Borrow.{Bor}
use Rattle.std.specs.List.{range_with_len}
use Rattle.std.proofs.lemmas.List.Elements.{filter-append}
use Rattle.std.proofs.lemmas.Option.{slice_get-get_or}
use Rattle.c_tree.specs.declared.tree.CType.{CType as TypeTree}
use Rattle.c_tree.specs.Tree.{CType, pointer, more_types, Function, Program}
use Rattle.c_tree.specs.View.{ctype_of, ctypes_of, types_of}
use Rattle.c_tree.specs.Functions.{defined, sys_types, type_of_defined, value_type}
use Rattle.c_meaning.specs.Mentions.{Through}
use Rattle.c_meaning.specs.CallGraph.{same_type, is_taken, is_typed, functions_of, callees}
use Rattle.c_meaning.proofs.SameTypes.{types_tell}
use Rattle.c_meaning.proofs.Members.{length_map}
pub use Rattle.c_meaning.proofs.Keeps.{sys_many}
use Rattle.c_meaning.proofs.Places.{get_left, get_right}
use Rattle.c_meaning.proofs.Rounds.{range_append}
use Rattle.std.proofs.lemmas.Bool.{and_right, false_from_ne_true}
use Rattle.c_tree.specs.declared.prototypes.PrototypeType.{PrototypeType}
use Rattle.c_tree.specs.Prototypes.{type_meant, types_meant}
use Rattle.flow_graph.specs.Types.{types_at, first_place}
use Rattle.flow_graph.proofs.Members.{same_answer}
use Rattle.flow_graph.proofs.RecordLemmas.{dropped}
use Rattle.flow_graph.proofs.ReachingLemmas.{map_get}

-- the type of a defined function, and of a system call
pub defined_type : (p : Program) (f : ℕ) (F : Function) (t : CType) → slice_get p.functions f ≡ Some F → F.ctype ≡ t → value_type p f ≡ Some t
defined_type p f F t at is = get_left (map type_of_defined p.functions) sys_types f t (map_get type_of_defined p.functions f F at ∙ ap Some is)

pub call_type : (p : Program) (f k : ℕ) (calls : List TypeTree) (t : TypeTree) → ctypes_of calls ≡ sys_types → f ≡ defined p + k → k < length calls → t ≡ get_or calls k t → value_type p f ≡ Some (ctype_of t)
call_type p f k calls t are e lt is =
    let many : length (map type_of_defined p.functions) ≡ defined p = length_map type_of_defined p.functions in
    let place : f ≡ length (map type_of_defined p.functions) + k = omega (arith, e, many) in
    ap (slice_get (map type_of_defined p.functions ++ sys_types)) place
    ∙ get_right (map type_of_defined p.functions) sys_types k
    ∙ ap (λ ts. slice_get ts k) (sym are)
    ∙ map_get ctype_of calls k t (slice_get-get_or calls k t lt ∙ ap Some (sym is))

-- the place of a type
first_by_true : (t u : CType) (us : List CType) → same_type t u ≡ true → first_place t (u ∷ us) ≡ 0
first_by_true t u us e = ap (λ b. if b then 0 else first_place t us + 1) e

first_by_false : (t u : CType) (us : List CType) → same_type t u ≡ false → first_place t (u ∷ us) ≡ first_place t us + 1
first_by_false t u us e = ap (λ b. if b then 0 else first_place t us + 1) e

pub place_here : (t : CType) (us : List (Bor TypeTree)) (k : ℕ) (u : Bor TypeTree) → k < length us → u ≡ get_or us k u → t ≡ ctype_of u.now → first_place t (types_at us) ≡ k + first_place t (types_at (drop k us)) → k ≡ first_place t (types_at us)
place_here t us k u lt is same before =
    let at : first_place t (types_at (drop k us)) ≡ 0 = ap (λ vs. first_place t (types_at vs)) (dropped us k u u lt is) ∙ first_by_true t (ctype_of u.now) (types_at (drop (k + 1) us)) ((types_tell t (ctype_of u.now)).1 same) in
    omega (arith, before, at)

pub place_more : (t : CType) (us : List (Bor TypeTree)) (k : ℕ) (u : Bor TypeTree) → k < length us → u ≡ get_or us k u → (t ≡ ctype_of u.now → ⊥) → first_place t (types_at us) ≡ k + first_place t (types_at (drop k us)) → first_place t (types_at us) ≡ k + 1 + first_place t (types_at (drop (k + 1) us))
place_more t us k u lt is other before =
    let e = false_from_ne_true (same_type t (ctype_of u.now)) (λ h. other ((types_tell t (ctype_of u.now)).0 h)) in
    let at : first_place t (types_at (drop k us)) ≡ first_place t (types_at (drop (k + 1) us)) + 1 = ap (λ vs. first_place t (types_at vs)) (dropped us k u u lt is) ∙ first_by_false t (ctype_of u.now) (types_at (drop (k + 1) us)) e in
    omega (arith, before, at)

pub place_most : (t : CType) (us : List CType) → first_place t us ≤ length us
place_most t [] = omega arith
place_most t (u ∷ us) = by (same_type t u) (place_most t us)
  where
    by : (b : Bool) → first_place t us ≤ length us → (if b then 0 else first_place t us + 1) ≤ suc (length us)
    by true le = omega arith
    by false le = omega (arith, le)

pub types_many : (us : List (Bor TypeTree)) → length (types_at us) ≡ length us
types_many us = length_map (λ t. ctype_of t.now) us

-- the functions below n that pass a test
module _ (test : ℕ → Bool) where
  passed : (n : ℕ) → filter test (range_with_len 0 (n + 1)) ≡ filter test (range_with_len 0 n) ++ cond (test n) (n ∷ []) []
  passed n =
      let zero_first : 0 + n ≡ n = omega arith in
      ap (filter test) (range_append 0 n 1) ∙ filter-append test (range_with_len 0 n) ((0 + n) ∷ []) ∙ ap (λ m. filter test (range_with_len 0 n) ++ cond (test m) (m ∷ []) []) zero_first

  pub passed_true : (xs ys : List ℕ) (n : ℕ) → test n ≡ true → xs ≡ filter test (range_with_len 0 n) → ys ≡ xs ++ n ∷ [] → ys ≡ filter test (range_with_len 0 (n + 1))
  passed_true xs ys n e before is = is ∙ ap (λ xs. xs ++ n ∷ []) before ∙ ap (λ b. filter test (range_with_len 0 n) ++ cond b (n ∷ []) []) (sym e) ∙ sym (passed n)

  pub passed_false : (xs : List ℕ) (n : ℕ) → test n ≡ false → xs ≡ filter test (range_with_len 0 n) → xs ≡ filter test (range_with_len 0 (n + 1))
  passed_false xs n e before = before ∙ sym (append-nil (filter test (range_with_len 0 n))) ∙ ap (λ b. filter test (range_with_len 0 n) ++ cond b (n ∷ []) []) (sym e) ∙ sym (passed n)

-- a function is a candidate
pub candidate_taken : (p : Program) (f : ℕ) (t u : CType) (b : Bool) → is_taken p f ≡ true → value_type p f ≡ Some u → ((b ≡ true) ↔ (t ≡ u)) → b ≡ (is_taken p f && is_typed (pointer t) (value_type p f))
candidate_taken p f t u b taken at same =
    same_answer b (same_type t u) (λ h. (types_tell t u).1 (same.0 h)) (λ h. same.1 ((types_tell t u).0 h))
    ∙ sym (ap (λ o. is_typed (pointer t) o) at)
    ∙ sym (ap (λ c. c && is_typed (pointer t) (value_type p f)) taken)

pub candidate_not : (p : Program) (f : ℕ) (t : CType) → (is_taken p f ≡ true → ⊥) → false ≡ (is_taken p f && is_typed (pointer t) (value_type p f))
candidate_not p f t other = sym (ap (λ c. c && is_typed (pointer t) (value_type p f)) (false_from_ne_true (is_taken p f) other))

-- what isn't a pointer calls nothing
filter_none : (test : ℕ → Bool) (xs : List ℕ) → ((x : ℕ) → test x ≡ false) → filter test xs ≡ []
filter_none test [] none = refl
filter_none test (x ∷ xs) none = ap (λ b. cond b (x ∷ filter test xs) (filter test xs)) (none x) ∙ filter_none test xs none

pub no_callees : (p : Program) (t : CType) → ((o : Option CType) → is_typed t o ≡ false) → callees p (Through t) ≡ []
no_callees p t none = filter_none (λ f. is_taken p f && is_typed t (value_type p f)) (functions_of p) (λ f. and_right (is_taken p f) (is_typed t (value_type p f)) (none (value_type p f)))

-- the parameters of a prototype
pub same_parameters : (made : List TypeTree) (ts : List PrototypeType) → map ctype_of made ≡ map type_meant ts → types_of made ≡ types_meant ts
same_parameters [] [] e = refl
same_parameters [] (t ∷ ts) e = absurd cc
same_parameters (m ∷ ms) [] e = absurd cc
same_parameters (m ∷ ms) (t ∷ ts) e =
    let first : ctype_of m ≡ type_meant t = cc in
    let rest : map ctype_of ms ≡ map type_meant ts = cc in
    ap (λ u. more_types u (types_of ms)) first ∙ ap (more_types (type_meant t)) (same_parameters ms ts rest)

-- a system call has a type
pub call_bound : (p : Program) (f d : ℕ) (calls : List TypeTree) → ctypes_of calls ≡ sys_types → f < defined p + 24 → d ≡ defined p → d ≤ f → f - d < length calls
call_bound p f d calls are low e le =
    let many : length calls ≡ 24 = sym (length_map ctype_of calls) ∙ ap length are ∙ sys_many in
    omega (arith, many, low, e, le)
