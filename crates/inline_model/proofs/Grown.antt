-- How a list of edges grows from step to step.
use Rattle.std.proofs.Common.{◌≡◌, ◌⊎◌, inl, inr, ℕ, ◌+◌, ◌<◌, ◌≤◌, List, [], ◌∷◌, ◌++◌, length, take, get_or, Contains, sym, ◌∙◌, ap, subst, arith}
use Rattle.std.proofs.lemmas.Bool.{cases_eq}
use Rattle.std.proofs.lemmas.List.{take_more, take_all}
use Rattle.std.proofs.lemmas.List.Elements.{Contains-append_left, Contains-push, Contains-push_cases}
use Rattle.inline_model.specs.Growing.{Adds, HasOne, HasNode}

pub adds_nothing : {X : Type 0} {P : X → Type 0} (old : List X) → ((e : X) → P e → ⊥) → Adds old old P
adds_nothing old none e = (λ has. inl has, λ either. elim either [ inl has ↦ has | inr is ↦ absurd (none e is) ])

pub adds_then : {X : Type 0} {P Q : X → Type 0} (a b c : List X) → Adds a b P → Adds b c Q → Adds a c (λ e. P e ⊎ Q e)
adds_then a b c one two e = (
  λ has. elim ((two e).0 has) [
    | inl middle ↦ elim ((one e).0 middle) [ inl before ↦ inl before | inr is ↦ inr (inl is) ]
    | inr is ↦ inr (inr is)
  ],
  λ either. elim either [
    | inl has ↦ (two e).1 (inl ((one e).1 (inl has)))
    | inr both ↦ elim both [ inl is ↦ (two e).1 (inl ((one e).1 (inr is))) | inr is ↦ (two e).1 (inr is) ]
  ],
)

pub adds_like : {X : Type 0} {P Q : X → Type 0} (a b : List X) → ((e : X) → P e → Q e) → ((e : X) → Q e → P e) → Adds a b P → Adds a b Q
adds_like a b to back adds e = (
  λ has. elim ((adds e).0 has) [ inl before ↦ inl before | inr is ↦ inr (to e is) ],
  λ either. elim either [ inl has ↦ (adds e).1 (inl has) | inr is ↦ (adds e).1 (inr (back e is)) ],
)

-- one item is put at the end
pub adds_push : {X : Type 0} (old new : List X) (x : X) → new ≡ old ++ x ∷ [] → Adds old new (λ e. x ≡ e)
adds_push old new x grown e = (
  λ has. Contains-push_cases old x e (subst (λ xs. Contains xs e) grown has),
  λ either. subst (λ xs. Contains xs e) (sym grown) (elim either [ inl has ↦ Contains-append_left old (x ∷ []) e has | inr same ↦ subst (Contains (old ++ x ∷ [])) same (Contains-push old x) ]),
)

-- a loop over a list
module _ {X Y : Type 0} (P : X → Y → Type 0) (xs : List X) where
  pub list_none : (old : List Y) → Adds old old (HasOne P (take 0 xs))
  list_none old = adds_nothing old (λ e one. omega (arith, one.1.1))

  pub list_more : (old mid new : List Y) (k : ℕ) (x : X) → k < length xs → x ≡ get_or xs k x → Adds old mid (HasOne P (take k xs)) → Adds mid new (P x) → Adds old new (HasOne P (take (k + 1) xs))
  list_more old mid new k x lt at before adds =
      let more : take (k + 1) xs ≡ take k xs ++ x ∷ [] = take_more xs k x lt ∙ ap (λ z. take k xs ++ z ∷ []) (sym at) in
      adds_like old new
      (λ e either. elim either [
        | inl one ↦ (one.0, subst (λ zs. Contains zs one.0) (sym more) (Contains-append_left (take k xs) (x ∷ []) one.0 one.1), one.2)
        | inr is ↦ (x, subst (λ zs. Contains zs x) (sym more) (Contains-push (take k xs) x), is)
      ])
      (λ e one. elim (Contains-push_cases (take k xs) x one.0 (subst (λ zs. Contains zs one.0) more one.1)) [
        | inl earlier ↦ inl (one.0, earlier, one.2)
        | inr same ↦ inr (subst (λ z. P z e) (sym same) one.2)
      ])
      (adds_then old mid new before adds)

  pub list_end : (old new : List Y) (k : ℕ) → length xs ≤ k → Adds old new (HasOne P (take k xs)) → Adds old new (HasOne P xs)
  list_end old new k ge adds = subst (λ zs. Adds old new (HasOne P zs)) (take_all k xs ge) adds

-- a loop over numbers
module _ {Y : Type 0} (P : ℕ → Y → Type 0) (from : ℕ) where
  pub range_none : (old : List Y) → Adds old old (HasNode P from from)
  range_none old = adds_nothing old (λ e one. omega (arith, one.1, one.2))

  pub range_more : (old mid new : List Y) (k : ℕ) → from ≤ k → Adds old mid (HasNode P from k) → Adds mid new (P k) → Adds old new (HasNode P from (k + 1))
  range_more old mid new k least before adds =
      adds_like old new
      (λ e either. elim either [
        | inl one ↦ (one.0, one.1, omega (arith, one.2), one.3)
        | inr is ↦ (k, least, omega arith, is)
      ])
      (λ e one. elim (cases_eq one.0 k) [
        | inl same ↦ inr (subst (λ a. P a e) same one.3)
        | inr ne ↦ inl (one.0, one.1, omega (arith, ne, one.2), one.3)
      ])
      (adds_then old mid new before adds)
