-- The shapes of the generated program in closed form, their nodes, and where their calls go.
use Rattle.std.proofs.Common.{◌≡◌, ℕ, zero, suc, ◌+◌, ◌-◌, ◌*◌, ◌/◌, ◌%◌, ◌<◌, ◌≤◌, Bool, true, false, nat_eq, nat_lt, if◌then◌else◌, List, [], ◌∷◌, ◌++◌, map, filter, length, Some, Contains, sym, ap, ap₂, append-nil, ◌∙◌, subst, refl, arith}
use Rattle.std.specs.List.{slice_index_or}
use Rattle.std.proofs.lemmas.Bool.{le-ltb}
use Rattle.c_tree.specs.Tree.{no_exprs, Function, Program}
use Rattle.c_tree.specs.Functions.{defined}
use Rattle.c_tree.specs.Constants.{pattern_of}
use Rattle.c_meaning.specs.Shape.{Shape, Skip, Sys, Call, Seq, Loop, Return, End, Part}
use Rattle.c_meaning.specs.Mentions.{Direct, mentions_of_program}
use Rattle.c_meaning.specs.CallGraph.{callee_at, called_where, marked}
use Rattle.c_meaning.specs.ShapeOf.{seq, seq_two, system_call, marked_call, taken_calls, any_call, shape_of_stmt, shape_of_function, shapes_of_functions, place_of, candidate_places, shapes_of}
use Rattle.c_meaning.specs.GraphOf.{nodes_from}
use Rattle.c_meaning.specs.GraphOfProgram.{graph_of_program}
use Rattle.c_meaning.specs.CallDepth.{CallsAreBelow, CallsDescend}
use Rattle.generated_program.specs.Generator.{drawn}
use Rattle.generated_program.specs.Typed.{getpid_number, getppid_number, system_number_by, typed_call, typed_first, call_site, system_site, typed_later, typed_main, typed_behind, generated_program}
use Rattle.generated_program.specs.Bounds.{number_of}
use Rattle.generated_program.proofs.Reached.{callee, callee_before, none_taken, getpid_is, getppid_is, is_before, call_marked, call_at, main_call_at}

-- the system call with this number, whose arguments are none
abbrev called : ℕ → Shape
called x = Sys x (pattern_of x no_exprs)

-- by the number x: the number among the system calls of the one that it chooses
abbrev chosen : ℕ → ℕ
chosen x = if nat_eq (x / 16 % 2) 0 then 14 else 15

abbrev first_shape : Shape
first_shape = Seq (called 14) (Part Return End)

abbrev later_shape : (x i : ℕ) → Shape
later_shape x i = Seq (Call (call_site i)) (Part (called (chosen x)) (Part Return End))

abbrev main_shape : (last : ℕ) → Shape
main_shape last = Seq (Loop Skip (Call (call_site last)) Skip) (Part Return End)

abbrev shapes_behind : (number i count : ℕ) → List Shape → List Shape
shapes_behind number i zero rest = rest
shapes_behind number i (suc count) rest = later_shape (drawn number (suc i)) i ∷ shapes_behind number (suc i) count rest

abbrev closed_shapes : (number last : ℕ) → List Shape
closed_shapes number last = first_shape ∷ shapes_behind number 0 last (main_shape last ∷ [])

module _ (number last : ℕ) where
  abbrev p : Program
  p = generated_program number last

  abbrev of : Function → Shape
  of = shape_of_function p

  -- a call of a function before main
  call_shape : (s f : ℕ) → f ≤ last → shape_of_stmt p (typed_call s f) ≡ Call s
  call_shape s f below =
      ap (λ b. seq (Part (if b then marked_call p s (Direct f) else (if nat_lt (f - defined p) 24 then system_call (f - defined p) (pattern_of (f - defined p) no_exprs) else Skip)) End)) (is_before number last f below)
      ∙ ap (λ b. seq (Part (if b then Call s else Skip) End)) (call_marked number last f below)

  -- a call of a system call other than _exit
  system_shape : (s f x : ℕ) → nat_lt x 24 ≡ true → system_call x (pattern_of x no_exprs) ≡ called x → f ≡ defined p + x → shape_of_stmt p (typed_call s f) ≡ called x
  system_shape s f x among is e =
      let past : nat_lt f (defined p) ≡ false = le-ltb f (defined p) (omega (arith, e)) in
      let number_is : f - defined p ≡ x = omega (arith, e) in
      ap (λ b. seq (Part (if b then marked_call p s (Direct f) else (if nat_lt (f - defined p) 24 then system_call (f - defined p) (pattern_of (f - defined p) no_exprs) else Skip)) End)) past
      ∙ ap (λ y. seq (Part (if nat_lt y 24 then system_call y (pattern_of y no_exprs) else Skip) End)) number_is
      ∙ ap (λ b. seq (Part (if b then system_call x (pattern_of x no_exprs) else Skip) End)) among
      ∙ ap (λ S. seq (Part S End)) is

  chosen_shape : (s x : ℕ) → shape_of_stmt p (typed_call s (system_number_by last x)) ≡ called (chosen x)
  chosen_shape s x = by (nat_eq (x / 16 % 2) 0)
    where
      by : (b : Bool) → shape_of_stmt p (typed_call s (if b then getpid_number last else getppid_number last)) ≡ called (if b then 14 else 15)
      by true = system_shape s (getpid_number last) 14 refl refl (getpid_is number last)
      by false = system_shape s (getppid_number last) 15 refl refl (getppid_is number last)

  first_is : of (typed_first last) ≡ first_shape
  first_is = ap (λ S. seq (Part S (Part Return End))) (system_shape 0 (getpid_number last) 14 refl refl (getpid_is number last))

  later_is : (i : ℕ) → i < last → of (typed_later last (drawn number (suc i)) i) ≡ later_shape (drawn number (suc i)) i
  later_is i below =
      let before = callee_before number last i in
      ap₂ (λ S T. seq (Part S (Part T (Part Return End)))) (call_shape (call_site i) (callee number last i) (omega (arith, before, below))) (chosen_shape (system_site i) (drawn number (suc i)))

  main_is : of (typed_main last) ≡ main_shape last
  main_is =
      ap (λ S. seq (Part Skip (Part (seq_two (seq (Part (seq_two Skip Skip) End)) (Loop (seq_two Skip Skip) (seq (Part S End)) (seq_two Skip Skip))) (Part Return End))))
      (call_shape (call_site last) last (omega arith))

  behind_are : (i count : ℕ) → i + count ≡ last → map of (typed_behind number last i count (typed_main last ∷ [])) ≡ shapes_behind number i count (main_shape last ∷ [])
  behind_are i zero e = ap (λ S. S ∷ []) main_is
  behind_are i (suc count) e = ap₂ (λ S Ss. S ∷ Ss) (later_is i (omega (arith, e))) (behind_are (suc i) count (omega (arith, e)))

  pub shapes_are : shapes_of_functions p ≡ closed_shapes number last
  shapes_are =
      ap₂ (λ Ss xs. Ss ++ map any_call xs) (ap₂ (λ S Ss. S ∷ Ss) first_is (behind_are 0 last (omega arith))) (none_taken number last) ∙ append-nil (closed_shapes number last)

  -- ## Nodes

  nodes_behind : (n i count : ℕ) (rest : List Shape) → nodes_from n (shapes_behind number i count rest) ≡ nodes_from (n + 4 * count) rest
  nodes_behind n i zero rest = let e : n ≡ n + 4 * 0 = omega arith in ap (λ k. nodes_from k rest) e
  nodes_behind n i (suc count) rest = let e : n + 2 + 2 + 4 * count ≡ n + 4 * suc count = omega arith in nodes_behind (n + 2 + 2) (suc i) count rest ∙ ap (λ k. nodes_from k rest) e

  pub nodes_are : (graph_of_program p).nodes ≡ 4 * last + 9
  nodes_are =
      let e : 3 + 4 * last + 2 + 4 ≡ 4 * last + 9 = omega arith in
      ap (nodes_from 0) shapes_are ∙ nodes_behind 3 0 last (main_shape last ∷ []) ∙ e

  -- ## Where calls go

  one_place : (f g : ℕ) → nat_lt f (defined p) ≡ true → Contains (map (place_of p) (f ∷ [])) g → g ≡ f
  one_place f g before (zero, k, e) = sym e ∙ ap (λ b. if b then f else defined p + length (filter (λ x. nat_lt x (f - defined p)) (taken_calls p))) before
  one_place f g before (suc k, below, e) = absurd (omega (arith, below))

  places_where : (b : Bool) (f g : ℕ) → nat_lt f (defined p) ≡ true → Contains (if b then map (place_of p) (f ∷ []) else []) g → g ≡ f
  places_where true f g before h = one_place f g before h
  places_where false f g before (k, below, e) = absurd (omega (arith, below))

  place_at : (s f g : ℕ) → callee_at s (mentions_of_program p) ≡ Some (Direct f) → nat_lt f (defined p) ≡ true → Contains (candidate_places p s) g → g ≡ f
  place_at s f g is before h =
      places_where (marked p s) f g before (subst (λ o. Contains (if marked p s then map (place_of p) (called_where p o) else []) g) is h)

  call_below : (i : ℕ) → i < last → (g : ℕ) → Contains (candidate_places p (call_site i)) g → g < suc i
  call_below i below g h =
      let before = callee_before number last i in
      let e = place_at (call_site i) (callee number last i) g (call_at number last i below) (is_before number last (callee number last i) (omega (arith, before, below))) h in
      omega (arith, e, before)

  main_below : (g : ℕ) → Contains (candidate_places p (call_site last)) g → g < last + 1
  main_below g h = let e = place_at (call_site last) last g (main_call_at number last) (is_before number last last (omega arith)) h in omega (arith, e)

  abbrev Below : ℕ → Shape → Type 0
  Below k S = CallsAreBelow (candidate_places p) number_of k S

  behind_below : (i count f : ℕ) → i + count ≡ last → Below (suc i + f) (slice_index_or (shapes_behind number i count (main_shape last ∷ [])) f Skip)
  behind_below i zero zero e = ((tt, (λ g h. let k = main_below g h in omega (arith, k, e)), tt), (tt, tt))
  behind_below i zero (suc f) e = tt
  behind_below i (suc count) zero e = ((λ g h. let k = call_below i (omega (arith, e)) g h in omega (arith, k)), (tt, (tt, tt)))
  behind_below i (suc count) (suc f) e =
      let s : suc (suc i) + f ≡ suc i + suc f = omega arith in
      subst (λ k. Below k (slice_index_or (shapes_behind number (suc i) count (main_shape last ∷ [])) f Skip)) s (behind_below (suc i) count f (omega (arith, e)))

  below : (f : ℕ) → Below f (slice_index_or (closed_shapes number last) f Skip)
  below zero = (tt, (tt, tt))
  below (suc f) = let s : suc 0 + f ≡ suc f = omega arith in subst (λ k. Below k (slice_index_or (shapes_behind number 0 last (main_shape last ∷ [])) f Skip)) s (behind_below 0 last f (omega arith))

  pub descend : CallsDescend number_of (shapes_of p)
  descend f = subst (λ Ss. Below f (slice_index_or Ss f Skip)) (sym shapes_are) (below f)
