-- What a call graph answers.
use Rattle.std.proofs.Common.{◌≡◌, ℕ, ◌+◌, ◌<◌, ◌≤◌, ◌^◌, Bool, false, ◌&&◌, List, [], ◌∷◌, Contains, Option, None, Some, Vec, Global, sym, ◌∙◌, ap, subst, nat_eq, get_or, arith}
use Rattle.std.specs.Prelude.{slice_get}
use Rattle.std.specs.Borrow.{Bor}
use Rattle.std.specs.Option.{option_map, unwrap_or}
use Rattle.std.specs.List.{list_any}
use Rattle.std.proofs.lemmas.Bool.{lt-ltb}
use Rattle.c_tree.specs.Tree.{Program}
use Rattle.c_tree.specs.Functions.{defined}
use Rattle.c_meaning.specs.Mentions.{Direct, Through, mentions_of_program}
use Rattle.c_meaning.specs.CallGraph.{is_taken, reaches, callees, callee_at, has_one, marked, marked_where, candidates, called_where}
use Rattle.flow_graph.specs.declared.calls.Calls.{Calls}
use Rattle.flow_graph.specs.declared.call_sites.Place.{Place}
use Rattle.flow_graph.specs.declared.call_sites.Place.TheVariants.{Function, Pointer}
use Rattle.flow_graph.specs.Calls.{AreCallsOf, IsPlace, place_at}
use Rattle.c_meaning.proofs.Members.{isnt_below}
use Rattle.flow_graph.proofs.Members.{any_from, any_to, same_answer}

-- what is read at a site
pub read_at : (c : Calls) (s : ℕ) (r q : Option (Bor (Option Place))) (xs : List (Option Place)) → unwrap_or (option_map (λ x. x.now) r) None ≡ get_or xs s None → xs ≡ c.places.items → r ≡ q → place_at c s ≡ unwrap_or (option_map (λ x. x.now) q) None
read_at c s r q xs told same is = ap (λ xs. get_or xs s None) (sym same) ∙ sym told ∙ ap (λ r. unwrap_or (option_map (λ x. x.now) r) None) is

module _ (p : Program) (c : Calls) (are : AreCallsOf p c) where
  pub taken_answer : (f : ℕ) (b : Bool) → b ≡ list_any (nat_eq f) c.taken.keys → b ≡ is_taken p f
  taken_answer f b e = same_answer b (is_taken p f) (λ h. (are.taken_are f).0 (any_from c.taken.keys f (sym e ∙ h))) (λ h. e ∙ any_to c.taken.keys f ((are.taken_are f).1 h))

  pub reaches_answer : (f : ℕ) (b : Bool) → f < defined p + 24 → b ≡ list_any (nat_eq f) c.reaching.keys → b ≡ reaches p f
  reaches_answer f b low e = same_answer b (reaches p f) (λ h. (are.reaching_are f low).0 (any_from c.reaching.keys f (sym e ∙ h))) (λ h. e ∙ any_to c.reaching.keys f ((are.reaching_are f low).1 h))

  -- what is called at the place
  at_place : (s : ℕ) (x : Option Place) → place_at c s ≡ x → IsPlace p c x (callee_at s (mentions_of_program p))
  at_place s x e = subst (λ x. IsPlace p c x (callee_at s (mentions_of_program p))) e (are.places_are s)

  pub marked_function : (s f : ℕ) (b : Bool) → place_at c s ≡ Some (Function f) → f < c.defined → b ≡ list_any (nat_eq f) c.reaching.keys → b ≡ marked p s
  marked_function s f b at low e =
      let callee : callee_at s (mentions_of_program p) ≡ Some (Direct f) = at_place s (Some (Function f)) at in
      let below : f < defined p = let d = are.defined_are in omega (arith, low, d) in
      reaches_answer f b (omega (arith, below)) e
      ∙ sym (ap (λ t. t && reaches p f) (lt-ltb f (defined p) below))
      ∙ sym (ap (marked_where p) callee)

  pub marked_call : (s f : ℕ) → place_at c s ≡ Some (Function f) → c.defined ≤ f → false ≡ marked p s
  marked_call s f at high =
      let callee : callee_at s (mentions_of_program p) ≡ Some (Direct f) = at_place s (Some (Function f)) at in
      let above : defined p ≤ f = let d = are.defined_are in omega (arith, high, d) in
      sym (ap (λ t. t && reaches p f) (isnt_below f (defined p) above)) ∙ sym (ap (marked_where p) callee)

  pub marked_pointer : (s k node : ℕ) (b : Bool) → place_at c s ≡ Some (Pointer k) → node ≡ c.defined + 24 + k → b ≡ list_any (nat_eq node) c.reaching.keys → b ≡ marked p s
  marked_pointer s k node b at is e =
      let (t, callee, (v, found, items, small, tells)) = at_place s (Some (Pointer k)) at in
      let same : node ≡ defined p + 24 + k = let d = are.defined_are in omega (arith, is, d) in
      let test = has_one (reaches p) (callees p (Through t)) in
      same_answer b test
      (λ h. tells.0 (subst (Contains c.reaching.keys) same (any_from c.reaching.keys node (sym e ∙ h))))
      (λ h. e ∙ any_to c.reaching.keys node (subst (Contains c.reaching.keys) (sym same) (tells.1 h)))
      ∙ sym (ap (marked_where p) callee)

  pub pointer_small : (s k : ℕ) → place_at c s ≡ Some (Pointer k) → c.defined + 24 + k < 2 ^ 64
  pointer_small s k at =
      let (t, callee, (v, found, items, small, tells)) = at_place s (Some (Pointer k)) at in
      let d = are.defined_are in
      omega (arith, small, d)

  pub marked_none : (s : ℕ) → place_at c s ≡ None → false ≡ marked p s
  marked_none s at = sym (ap (marked_where p) (at_place s None at))

  pub candidates_none : (s : ℕ) → place_at c s ≡ None → [] ≡ candidates p s
  candidates_none s at = sym (ap (called_where p) (at_place s None at))

  pub candidates_function : (s f : ℕ) (fs : List ℕ) → place_at c s ≡ Some (Function f) → fs ≡ f ∷ [] → fs ≡ candidates p s
  candidates_function s f fs at is = is ∙ sym (ap (called_where p) (at_place s (Some (Function f)) at))

  pub candidates_pointer : (s k : ℕ) (v : Vec ℕ Global) → place_at c s ≡ Some (Pointer k) → slice_get c.lists.items k ≡ Some v → v.items ≡ candidates p s
  candidates_pointer s k v at is =
      let (t, callee, (w, found, items, small, tells)) = at_place s (Some (Pointer k)) at in
      let same : v ≡ w = cc in
      ap (λ (z : Vec ℕ Global). z.items) same ∙ items ∙ sym (ap (called_where p) callee)

  pub candidates_past : (s k : ℕ) → place_at c s ≡ Some (Pointer k) → slice_get c.lists.items k ≡ None → [] ≡ candidates p s
  candidates_past s k at none =
      let (t, callee, (w, found, items, small, tells)) = at_place s (Some (Pointer k)) at in
      absurd (let both : None ≡ Some w = sym none ∙ found in cc)
