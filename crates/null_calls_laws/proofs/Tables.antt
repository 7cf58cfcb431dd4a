-- Each call of a program stands at its site.
use Rattle.std.proofs.Common.{◌≡◌, ℕ, List, [], ◌∷◌, ◌++◌, flat_map, Contains, Option, Some, refl, ap, subst, arith, inl, inr}
use Rattle.c_tree.specs.Tree.{Function, Program}
use Rattle.c_tree.specs.Program.{IsProgram}
use Rattle.c_tree.proofs.GatheredLemmas.{Becomes, stmt_becomes}
use Rattle.c_meaning.specs.Mentions.{Callee, Direct, Through, Mention, Named, Calls, all_mentions, mentions_of_function, mentions_of_static, mentions_of_program}
use Rattle.c_meaning.specs.CallGraph.{callee_at}
use Rattle.null_calls_laws.proofs.Lists.{is_later, cases, none_in}
use Rattle.c_meaning.proofs.SitesSaid.{callee_found}
use Rattle.null_calls_laws.specs.CallsIn.{all_calls, calls_in_stmt}

abbrev pub Table : Type 0
Table = ℕ → Option Callee

-- each call stands in the table
abbrev pub InTable : Table → List Mention → Type 0
InTable T [] = Unit {0}
InTable T (Named f ∷ ms) = InTable T ms
InTable T (Calls s c ∷ ms) = (T s ≡ Some c) × InTable T ms

-- the calls among what is mentioned
abbrev only_calls : List Mention → List Mention
only_calls [] = []
only_calls (Named f ∷ ms) = only_calls ms
only_calls (Calls s c ∷ ms) = Calls s c ∷ only_calls ms

calls_append : (xs ys : List Mention) → only_calls (xs ++ ys) ≡ only_calls xs ++ only_calls ys
calls_append [] ys = refl
calls_append (Named f ∷ xs) ys = calls_append xs ys
calls_append (Calls s c ∷ xs) ys = ap (λ zs. Calls s c ∷ zs) (calls_append xs ys)

mentions_become_calls : Becomes all_mentions all_calls only_calls
mentions_become_calls = record {
  none = refl;
  joined = calls_append;
  named = λ n. refl;
  direct = λ site n xs ys e. ap (λ zs. Calls site (Direct n) ∷ zs) e;
  through = λ site t xs ys e. ap (λ zs. Calls site (Through t) ∷ zs) e;
}

module _ (T : Table) where
  pub in_first : (xs ys : List Mention) → InTable T (xs ++ ys) → InTable T xs
  in_first [] ys h = tt
  in_first (Named f ∷ xs) ys h = in_first xs ys h
  in_first (Calls s c ∷ xs) ys h = (h.0, in_first xs ys h.1)

  pub in_rest : (xs ys : List Mention) → InTable T (xs ++ ys) → InTable T ys
  in_rest [] ys h = h
  in_rest (Named f ∷ xs) ys h = in_rest xs ys h
  in_rest (Calls s c ∷ xs) ys h = in_rest xs ys h.1

  all_in : (ms : List Mention) → ((s : ℕ) (c : Callee) → Contains ms (Calls s c) → T s ≡ Some c) → InTable T ms
  all_in [] h = tt
  all_in (Named f ∷ ms) h = all_in ms (λ s c k. h s c (is_later (Named f) ms (Calls s c) k))
  all_in (Calls r d ∷ ms) h = (h r d (0, omega arith, refl), all_in ms (λ s c k. h s c (is_later (Calls r d) ms (Calls s c) k)))

  of_function : (fs : List Function) (f : Function) → Contains fs f → InTable T (flat_map mentions_of_function fs) → InTable T (mentions_of_function f)
  of_function [] f h k = absurd (none_in f h)
  of_function (g ∷ gs) f h k = elim (cases g gs f h) as (λ _. InTable T (mentions_of_function f)) [
    | inl is ↦ subst (λ x. InTable T (mentions_of_function x)) is (in_first (mentions_of_function g) (flat_map mentions_of_function gs) k)
    | inr later ↦ of_function gs f later (in_rest (mentions_of_function g) (flat_map mentions_of_function gs) k)
  ]

  calls_stay : (ms : List Mention) → InTable T ms → InTable T (only_calls ms)
  calls_stay [] h = tt
  calls_stay (Named f ∷ ms) h = calls_stay ms h
  calls_stay (Calls s c ∷ ms) h = (h.0, calls_stay ms h.1)

-- the calls in the body of a function of the program
pub body_in_table : (p : Program) (n : ℕ) → IsProgram p n → (f : Function) → Contains p.functions f → InTable (λ s. callee_at s (mentions_of_program p)) (calls_in_stmt f.body)
body_in_table p n h f k =
    let T : Table = (λ s. callee_at s (mentions_of_program p)) in
    subst (InTable T) (stmt_becomes all_mentions all_calls only_calls mentions_become_calls f.body)
    (calls_stay T (mentions_of_function f) (of_function T p.functions f k (in_first T (flat_map mentions_of_function p.functions) (flat_map mentions_of_static p.statics) (all_in T (mentions_of_program p) (λ s c m. callee_found p n h s c m)))))
