-- How a list of nodes grows at its end from step to step.
use Rattle.std.proofs.Common.{◌≡◌, ℕ, ◌+◌, ◌<◌, ◌≤◌, ◌⊎◌, List, [], ◌∷◌, ◌++◌, length, take, get_or, sym, ap, ◌∙◌, subst, inl, inr, arith}
use Rattle.std.proofs.lemmas.List.{append-nil, append_assoc, length-append, get_or_default, take_all}
use Rattle.std.proofs.lemmas.List.Elements.{Contains-append_left, Contains-append_right, Contains-append_cases, Contains-push_cases}
use Rattle.flow_model.specs.Graph.{Graph}
use Rattle.flow_model.specs.Language.{Quiet}
use Rattle.flow_model.specs.Growth.{Pushes, HasOne}
use Rattle.callgraph_monitor.specs.Space.{AreEnds}
use Rattle.callgraph_monitor.specs.Visits.{visit_cost}
use Rattle.flow_model.proofs.Items.{one_of_none, one_of_more, one_before, one_at}

-- the same by other words
pub pushes-like : {P Q : ℕ → Type 0} (old new : List ℕ) → Pushes old new P → ((b : ℕ) → P b → Q b) → ((b : ℕ) → Q b → P b) → Pushes old new Q
pushes-like old new pushes to from = record {
  more = pushes.more;
  grown = pushes.grown;
  only = λ b has. to b (pushes.only b has);
  all = λ b is. pushes.all b (from b is);
}

pub pushes-none : {P : ℕ → Type 0} (old : List ℕ) → ((b : ℕ) → P b → ⊥) → Pushes old old P
pushes-none old none = record {
  more = [];
  grown = sym (append-nil old);
  only = λ b has. absurd (omega (arith, has.1));
  all = λ b is. absurd (none b is);
}

pub pushes-then : {P Q : ℕ → Type 0} (a b c : List ℕ) → Pushes a b P → Pushes b c Q → Pushes a c (λ n. P n ⊎ Q n)
pushes-then a b c first second = record {
  more = first.more ++ second.more;
  grown = second.grown ∙ ap (λ xs. xs ++ second.more) first.grown ∙ append_assoc a first.more second.more;
  only = λ n has. elim (Contains-append_cases first.more second.more n has) [
    | inl before ↦ inl (first.only n before)
    | inr after ↦ inr (second.only n after)
  ];
  all = λ n is. elim is [
    | inl before ↦ Contains-append_left first.more second.more n (first.all n before)
    | inr after ↦ Contains-append_right first.more second.more n (second.all n after)
  ];
}

-- what `push` does
pub pushes-one : (old new : List ℕ) (node : ℕ) → new ≡ old ++ node ∷ [] → Pushes old new (λ b. node ≡ b)
pushes-one old new node grown = record {
  more = node ∷ [];
  grown = grown;
  only = λ b has. elim (Contains-push_cases [] node b has) [
    | inl none ↦ absurd (omega (arith, none.1))
    | inr is ↦ is
  ];
  all = λ b is. (0, omega arith, is);
}

-- A loop over a list, each of whose items adds the nodes at the end with which it has P.
module _ {X : Type 0} (P : X → ℕ → Type 0) (xs : List X) where
  pub pushes-start : (old : List ℕ) → Pushes old old (HasOne P (take 0 xs))
  pushes-start old = pushes-none old (one_of_none P xs)

  pub pushes-more : (old mid new : List ℕ) (k : ℕ) (d : X) → k < length xs → Pushes old mid (HasOne P (take k xs)) → Pushes mid new (P (get_or xs k d)) → Pushes old new (HasOne P (take (k + 1) xs))
  pushes-more old mid new k d lt first second =
      let at = get_or_default xs k d (get_or xs k d) lt in
      pushes-like old new (pushes-then old mid new first second)
      (λ b is. elim is [ inl before ↦ one_before P xs k (get_or xs k d) lt b before | inr here ↦ one_at P xs k (get_or xs k d) lt at b here ])
      (one_of_more P xs k (get_or xs k d) lt at)

  pub pushes-end : (old new : List ℕ) (k : ℕ) → length xs ≤ k → Pushes old new (HasOne P (take k xs)) → Pushes old new (HasOne P xs)
  pushes-end old new k ge pushes = subst (λ ys. Pushes old new (HasOne P ys)) (take_all k xs ge) pushes

-- what was added at the end for a node are its ends
pub are_ends : (g : Graph) (node : ℕ) (old new : List ℕ) (pushes : Pushes old new (Quiet g node)) → length new ≤ length old + visit_cost g node → AreEnds g node pushes.more
are_ends g node old new pushes few = record {
  exact = λ b. (pushes.only b, pushes.all b);
  few = omega (arith, few, ap length pushes.grown, length-append old pushes.more);
}
