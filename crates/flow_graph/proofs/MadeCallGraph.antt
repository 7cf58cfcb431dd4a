-- What is made of a program is its call graph.
use Rattle.std.proofs.Common.{◌≡◌, ◌↔◌, ℕ, zero, suc, ◌+◌, ◌<◌, ◌≤◌, List, [], ◌∷◌, length, map, Contains, Option, None, Some, Vec, Global, refl, sym, ◌∙◌, ap, subst, inl, inr, arith}
use Rattle.std.specs.Prelude.{slice_get, slice_index_or}
use Rattle.std.proofs.lemmas.Bool.{cases_lt}
use Rattle.c_tree.specs.Tree.{CType, Program}
use Rattle.c_tree.specs.Functions.{defined}
use Rattle.c_tree.specs.Program.{IsProgram}
use Rattle.c_meaning.specs.Mentions.{Callee, Direct, Through, Named, Calls as CallsAt, mentions_of_program}
use Rattle.c_meaning.specs.CallGraph.{callees, callee_at}
use Rattle.flow_graph.specs.declared.calls.Calls.{Calls}
use Rattle.flow_graph.specs.declared.call_sites.Place.{Place}
use Rattle.flow_graph.specs.Calls.{AreCallsOf, IsPlace, IsList, place_at}
use Rattle.flow_graph.specs.Callers.{AreCallers, IsReaching, AreReaching}
use Rattle.flow_graph.specs.CallGraphPlaces.{placed}
use Rattle.std.specs.Borrow.{Bor}
use Rattle.c_tree.specs.declared.tree.CType.{CType as TypeTree}
use Rattle.flow_graph.specs.declared.mention.Mention.{Mention as Told}
use Rattle.flow_graph.specs.Saying.{said}
use Rattle.flow_graph.specs.Types.{first_place, items_of, types_at, AreTaken}
use Rattle.flow_graph.proofs.ReachingLemmas.{first_within, first_there, get_map, map_get, function_reaches, pointer_reaches}
use Rattle.flow_graph.proofs.SitesLemmas.{found_at, no_site, taken_told}

both_ways : {A B C : Type 0} → (A ↔ B) → (B ↔ C) → (A ↔ C)
both_ways f g = (λ a. g.0 (f.0 a), λ c. f.1 (g.1 c))

none_past : (xs : List (Option Place)) (s : ℕ) → length xs ≤ s → slice_index_or xs s None ≡ None
none_past [] s le = refl
none_past (x ∷ xs) zero le = absurd (omega (arith, le))
none_past (x ∷ xs) (suc s) le = none_past xs s (omega (arith, le))

module _ (p : Program) (n : ℕ) (typed : IsProgram p n) (types : List CType) (callers : List (Vec ℕ Global)) (c : Calls)
    (defined_is : c.defined ≡ defined p)
    (taken : (f : ℕ) → Contains c.taken.keys f ↔ Contains (mentions_of_program p) (Named f))
    (all_types : (s : ℕ) (t : CType) → Contains (mentions_of_program p) (CallsAt s (Through t)) → Contains types t)
    (lists : items_of c.lists.items ≡ map (λ t. callees p (Through t)) types)
    (are : AreCallers p types (items_of c.lists.items) callers)
    (reaching : (k : ℕ) → Contains c.reaching.keys k ↔ IsReaching callers (defined p) k)
    (many : length c.places.items ≡ n)
    (places : (s : ℕ) → s < n → slice_index_or c.places.items s None ≡ placed types (callee_at s (mentions_of_program p))) where
  called : AreCallers p types (map (λ t. callees p (Through t)) types) callers
  called = subst (λ ls. AreCallers p types ls callers) lists are

  list_at : (k : ℕ) (t : CType) → slice_get types k ≡ Some t → k < length types → IsList p c k t
  list_at k t at low =
      let in_lists : slice_get (items_of c.lists.items) k ≡ Some (callees p (Through t)) = ap (λ ls. slice_get ls k) lists ∙ map_get (λ t. callees p (Through t)) types k t at in
      let r = get_map (λ (v : Vec ℕ Global). v.items) c.lists.items k (callees p (Through t)) in_lists in
      let few = typed.few_functions in
      let small = are.few in
      (r.0, r.1, r.2, omega (arith, few, low, small), both_ways (reaching (defined p + 24 + k)) (pointer_reaches p types callers called all_types k t at))

  by_callee : (s : ℕ) (o : Option Callee) → callee_at s (mentions_of_program p) ≡ o → IsPlace p c (placed types o) o
  by_callee s None e = refl
  by_callee s (Some (Direct f)) e = refl
  by_callee s (Some (Through t)) e =
      let there : Contains types t = all_types s t (found_at s (Through t) (mentions_of_program p) e) in
      let low = first_there t types there in
      (t, refl, list_at (first_place t types) t (first_within t types low) low)

  place_is : (s : ℕ) → IsPlace p c (place_at c s) (callee_at s (mentions_of_program p))
  place_is s = elim (cases_lt s n) as (λ _. IsPlace p c (place_at c s) (callee_at s (mentions_of_program p))) [
    | inl lt ↦ subst (λ x. IsPlace p c x (callee_at s (mentions_of_program p))) (sym (places s lt)) (by_callee s (callee_at s (mentions_of_program p)) refl)
    | inr past ↦ subst (λ x. IsPlace p c x (callee_at s (mentions_of_program p))) (sym (none_past c.places.items s (omega (arith, many, past)))) (no_site s n p typed past)
  ]

  pub made : AreCallsOf p c
  made = record {
    defined_are = defined_is;
    taken_are = λ f. both_ways (taken f) (taken_told p f);
    reaching_are = λ f low. both_ways (reaching f) (function_reaches p types callers called all_types f low);
    places_are = place_is;
  }

-- what is named is taken
pub named_taken : (p : Program) (ms : List Told) (keys : List ℕ) → said ms ≡ mentions_of_program p → ((f : ℕ) → Contains keys f ↔ Contains (said ms) (Named f)) → AreTaken p keys
named_taken p ms keys are named f = both_ways (subst (λ xs. Contains keys f ↔ Contains xs (Named f)) are (named f)) (taken_told p f)

-- the nodes found by the callers that were gathered
pub reaching_by : (p : Program) (types : List CType) (lists : List (List ℕ)) (callers called : List (Vec ℕ Global)) (found : List ℕ) (d : ℕ)
    → AreCallers p types lists callers → called ≡ callers → d ≡ defined p → ((k : ℕ) → Contains found k ↔ IsReaching called d k) → AreReaching p types lists found
reaching_by p types lists callers called found d are same defined_is reaching =
    (callers, are, λ k. subst (λ xs. Contains found k ↔ IsReaching xs (defined p) k) same (subst (λ d. Contains found k ↔ IsReaching called d k) defined_is (reaching k)))

-- the same of what the code has
pub calls_made : (p : Program) (n : ℕ) (c : Calls) (ms : List Told) (types one two three : List (Bor TypeTree)) (lists : List (Vec ℕ Global))
    → IsProgram p n → said ms ≡ mentions_of_program p → one ≡ types → two ≡ types → three ≡ types → lists ≡ c.lists.items → c.defined ≡ defined p
    → ((f : ℕ) → Contains c.taken.keys f ↔ Contains (said ms) (Named f))
    → ((s : ℕ) (t : CType) → Contains (said ms) (CallsAt s (Through t)) → Contains (types_at types) t)
    → items_of c.lists.items ≡ map (λ t. callees p (Through t)) (types_at one)
    → AreReaching p (types_at two) (items_of lists) c.reaching.keys
    → length c.places.items ≡ n
    → ((s : ℕ) → s < n → slice_index_or c.places.items s None ≡ placed (types_at three) (callee_at s (said ms)))
    → AreCallsOf p c
calls_made p n c ms types one two three lists typed are e1 e2 e3 e4 defined_is taken all_types lists_are by_callers many places =
    let (callers, callers_are, reaching) = by_callers in
    made p n typed (types_at types) callers c defined_is
    (λ f. subst (λ xs. Contains c.taken.keys f ↔ Contains xs (Named f)) are (taken f))
    (λ s t has. all_types s t (subst (λ xs. Contains xs (CallsAt s (Through t))) (sym are) has))
    (lists_are ∙ ap (λ ts. map (λ t. callees p (Through t)) (types_at ts)) e1)
    (subst (λ ls. AreCallers p (types_at types) (items_of ls) callers) e4 (subst (λ ts. AreCallers p (types_at ts) (items_of lists) callers) e2 callers_are))
    reaching
    many
    (λ s lt. places s lt ∙ ap (λ ts. placed (types_at ts) (callee_at s (said ms))) e3 ∙ ap (λ xs. placed (types_at types) (callee_at s xs)) are)
