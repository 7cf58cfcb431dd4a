-- How a list of nodes grows from step to step.
use Rattle.std.proofs.Common.{◌≡◌, ℕ, ◌+◌, ◌<◌, ◌≤◌, ◌⊎◌, Bool, IsTrue, List, [], ◌∷◌, ◌++◌, length, take, get_or, Contains, refl, sym, ap, ◌∙◌, subst, inl, inr, arith}
use Rattle.std.proofs.lemmas.Bool.{cases_Bool, false≢true}
use Rattle.std.proofs.lemmas.List.{append-nil, append_assoc, get_or_default, take_all}
use Rattle.std.proofs.lemmas.List.Elements.{Contains-append_left, Contains-append_cases, Contains-push, Contains-push_cases}
use Rattle.flow_model.specs.Found.{Found}
use Rattle.flow_model.specs.Growth.{Adds, HasOne}
use Rattle.flow_model.proofs.Items.{one_of_none, one_of_more, one_before, one_at}

-- what was found is found still
pub adds-still : {P : ℕ → Type 0} (old new : Found) → Adds old new P → (b : ℕ) → Contains old.nodes b → Contains new.nodes b
adds-still old new adds b has = subst (λ xs. Contains xs b) (sym adds.grown) (Contains-append_left old.nodes adds.more b has)

-- what is found was found or has P
pub adds-cases : {P : ℕ → Type 0} (old new : Found) → Adds old new P → (b : ℕ) → Contains new.nodes b → Contains old.nodes b ⊎ P b
adds-cases old new adds b has = elim (Contains-append_cases old.nodes adds.more b (subst (λ xs. Contains xs b) adds.grown has)) [
  | inl before ↦ inl before
  | inr after ↦ inr (adds.only b after)
]

-- the same by other words
pub adds-like : {P Q : ℕ → Type 0} (old new : Found) → Adds old new P → ((b : ℕ) → P b → Q b) → ((b : ℕ) → Q b → P b) → Adds old new Q
adds-like old new adds to from = record {
  size = adds.size;
  more = adds.more;
  grown = adds.grown;
  only = λ b has. to b (adds.only b has);
  all = λ b is. adds.all b (from b is);
}

pub adds-none : {P : ℕ → Type 0} (old : Found) → ((b : ℕ) → P b → ⊥) → Adds old old P
adds-none old none = record {
  size = refl;
  more = [];
  grown = sym (append-nil old.nodes);
  only = λ b has. absurd (omega (arith, has.1));
  all = λ b is. absurd (none b is);
}

pub adds-then : {P Q : ℕ → Type 0} (a b c : Found) → Adds a b P → Adds b c Q → Adds a c (λ n. P n ⊎ Q n)
adds-then a b c first second = record {
  size = second.size ∙ first.size;
  more = first.more ++ second.more;
  grown = second.grown ∙ ap (λ xs. xs ++ second.more) first.grown ∙ append_assoc a.nodes first.more second.more;
  only = λ n has. elim (Contains-append_cases first.more second.more n has) [
    | inl before ↦ inl (first.only n before)
    | inr after ↦ inr (second.only n after)
  ];
  all = λ n is. elim is [
    | inl before ↦ adds-still b c second n (first.all n before)
    | inr after ↦ second.all n after
  ];
}

-- what `add` does
pub adds-add : (old new : Found) (node : ℕ) (r : Bool) → (IsTrue r → new ≡ record old { nodes = old.nodes ++ node ∷ [] }) → ((IsTrue r → ⊥) → Contains old.nodes node) → ((IsTrue r → ⊥) → new ≡ old) → Adds old new (λ b. node ≡ b)
adds-add old new node r added had same = elim (cases_Bool r) [
  | inl on ↦ record {
    size = ap (λ (f : Found). f.size) (added on);
    more = node ∷ [];
    grown = ap (λ (f : Found). f.nodes) (added on);
    only = λ b has. elim (Contains-push_cases [] node b has) [
      | inl none ↦ absurd (omega (arith, none.1))
      | inr is ↦ is
    ];
    all = λ b is. subst (λ (f : Found). Contains f.nodes b) (sym (added on)) (subst (Contains (old.nodes ++ node ∷ [])) is (Contains-push old.nodes node));
  }
  | inr off ↦
      let not_new : IsTrue r → ⊥ = λ on. false≢true (sym off ∙ on) in
      record {
        size = ap (λ (f : Found). f.size) (same not_new);
        more = [];
        grown = ap (λ (f : Found). f.nodes) (same not_new) ∙ sym (append-nil old.nodes);
        only = λ b has. absurd (omega (arith, has.1));
        all = λ b is. subst (λ (f : Found). Contains f.nodes b) (sym (same not_new)) (subst (Contains old.nodes) is (had not_new));
      }
]

-- A loop over a list, each of whose items adds the nodes with which it has P.
module _ {X : Type 0} (P : X → ℕ → Type 0) (xs : List X) where
  pub adds-start : (old : Found) → Adds old old (HasOne P (take 0 xs))
  adds-start old = adds-none old (one_of_none P xs)

  pub adds-more : (old mid new : Found) (k : ℕ) (x : X) → k < length xs → x ≡ get_or xs k x → Adds old mid (HasOne P (take k xs)) → Adds mid new (P x) → Adds old new (HasOne P (take (k + 1) xs))
  adds-more old mid new k x lt at first second = adds-like old new (adds-then old mid new first second)
      (λ b is. elim is [ inl before ↦ one_before P xs k x lt b before | inr here ↦ one_at P xs k x lt at b here ])
      (one_of_more P xs k x lt at)

  pub adds-more_read : (old mid new : Found) (k : ℕ) (d : X) → k < length xs → Adds old mid (HasOne P (take k xs)) → Adds mid new (P (get_or xs k d)) → Adds old new (HasOne P (take (k + 1) xs))
  adds-more_read old mid new k d lt = adds-more old mid new k (get_or xs k d) lt (get_or_default xs k d (get_or xs k d) lt)

  pub adds-end : (old new : Found) (k : ℕ) → length xs ≤ k → Adds old new (HasOne P (take k xs)) → Adds old new (HasOne P xs)
  adds-end old new k ge adds = subst (λ ys. Adds old new (HasOne P ys)) (take_all k xs ge) adds
