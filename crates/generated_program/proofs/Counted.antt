-- How many functions, call expressions and marked ones the generated program has.
use Rattle.std.proofs.Common.{◌≡◌, ℕ, zero, suc, ◌+◌, ◌*◌, ◌/◌, ◌%◌, ◌<◌, ◌≤◌, Bool, true, false, ◌&&◌, nat_eq, if◌then◌else◌, List, [], ◌∷◌, flat_map, filter, length, ap, ◌∙◌, arith}
use Rattle.std.proofs.lemmas.Bool.{le-ltb}
use Rattle.c_tree.specs.Tree.{Function, Program}
use Rattle.c_tree.specs.Functions.{defined}
use Rattle.c_tree.specs.Sites.{sites_of_function}
use Rattle.c_meaning.specs.Mentions.{Direct}
use Rattle.c_meaning.specs.CallGraph.{reaches, is_marked, marked_where, marked}
use Rattle.generated_program.specs.Generator.{drawn}
use Rattle.generated_program.specs.Typed.{getpid_number, getppid_number, system_number_by, call_site, system_site, typed_main, typed_behind, generated_program}
use Rattle.generated_program.specs.Bounds.{HasNumbers}
use Rattle.generated_program.proofs.Reached.{callee, callee_before, defined_is, getpid_is, getppid_is, call_marked, call_at, main_call_at, system_at}
use Rattle.generated_program.proofs.Laid.{nodes_are}

kept_one : (test : ℕ → Bool) (x : ℕ) (xs : List ℕ) → test x ≡ true → length (filter test (x ∷ xs)) ≡ suc (length (filter test xs))
kept_one test x xs e = ap (λ b. length (if b then x ∷ filter test xs else filter test xs)) e

left_out : (test : ℕ → Bool) (x : ℕ) (xs : List ℕ) → test x ≡ false → length (filter test (x ∷ xs)) ≡ length (filter test xs)
left_out test x xs e = ap (λ b. length (if b then x ∷ filter test xs else filter test xs)) e

module _ (number last : ℕ) where
  abbrev p : Program
  p = generated_program number last

  sites_behind : (i count : ℕ) (rest : List Function) → length (flat_map sites_of_function (typed_behind number last i count rest)) ≡ 2 * count + length (flat_map sites_of_function rest)
  sites_behind i zero rest = omega arith
  sites_behind i (suc count) rest = let k = sites_behind (suc i) count rest in omega (arith, k)

  system_not_marked : (f : ℕ) → defined p ≤ f → is_marked p (Direct f) ≡ false
  system_not_marked f past = ap (λ b. b && reaches p f) (le-ltb f (defined p) past)

  chosen_past : (x : ℕ) → defined p ≤ system_number_by last x
  chosen_past x = by (nat_eq (x / 16 % 2) 0)
    where
      by : (b : Bool) → defined p ≤ (if b then getpid_number last else getppid_number last)
      by true = let e = getpid_is number last in omega (arith, e)
      by false = let e = getppid_is number last in omega (arith, e)

  first_unmarked : marked p 0 ≡ false
  first_unmarked = let e = getpid_is number last in system_not_marked (getpid_number last) (omega (arith, e))

  call_is_marked : (i : ℕ) → i < last → marked p (call_site i) ≡ true
  call_is_marked i below =
      let before = callee_before number last i in
      ap (marked_where p) (call_at number last i below) ∙ call_marked number last (callee number last i) (omega (arith, before, below))

  system_unmarked : (i : ℕ) → i < last → marked p (system_site i) ≡ false
  system_unmarked i below =
      ap (marked_where p) (system_at number last i below) ∙ system_not_marked (system_number_by last (drawn number (suc i))) (chosen_past (drawn number (suc i)))

  main_is_marked : marked p (call_site last) ≡ true
  main_is_marked = ap (marked_where p) (main_call_at number last) ∙ call_marked number last last (omega arith)

  marked_behind : (i count : ℕ) → i + count ≡ last → length (filter (marked p) (flat_map sites_of_function (typed_behind number last i count (typed_main last ∷ [])))) ≡ suc count
  marked_behind i zero e = kept_one (marked p) (call_site last) [] main_is_marked
  marked_behind i (suc count) e =
      let rest : List ℕ = flat_map sites_of_function (typed_behind number last (suc i) count (typed_main last ∷ [])) in
      kept_one (marked p) (call_site i) (system_site i ∷ rest) (call_is_marked i (omega (arith, e)))
      ∙ ap suc (left_out (marked p) (system_site i) rest (system_unmarked i (omega (arith, e))) ∙ marked_behind (suc i) count (omega (arith, e)))

  pub numbers : HasNumbers p (last + 2) (2 * last + 2) (last + 1) (4 * last + 9)
  numbers =
      let sites = sites_behind 0 last (typed_main last ∷ []) in
      let one : suc last ≡ last + 1 = omega arith in
      record {
        functions_are = defined_is number last;
        sites_are = omega (arith, sites);
        marked_are = left_out (marked p) 0 (flat_map sites_of_function (typed_behind number last 0 last (typed_main last ∷ []))) first_unmarked ∙ marked_behind 0 last (omega arith) ∙ one;
        nodes_are = nodes_are number last;
      }
