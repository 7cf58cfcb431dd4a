-- Keys and their marks, facts and their index.
use Rattle.std.proofs.Common.{◌≡◌, ◌≢◌, ◌⊎◌, ◌↔◌, ℕ, nat_eq, ◌-◌, ◌<◌, Bool, true, false, List, [], ◌∷◌, ◌++◌, length, get_or, Contains, refl, sym, ◌∙◌, ap, subst, inl, inr, arith, take, append-nil}
use Rattle.std.proofs.Math.Seq.{take-append_seam}
use Rattle.std.proofs.lemmas.List.{length-append}
use Rattle.std.proofs.lemmas.Bool.{eq-eqb, eqb-true, false≢true}
use Rattle.std.proofs.lemmas.List.{get_or-set_same, get_or-set_other}
use Rattle.std.proofs.lemmas.List.Elements.{Contains-append_left, Contains-push, Contains-push_cases}
use Rattle.std.proofs.Math.ListN.{set}
use Rattle.dm_base.specs.Adding.{Has, Adds, Gains}
use Rattle.stack_automaton.specs.declared.place.Fact.{Fact}
use Rattle.stack_automaton.specs.Marks.{AreMarked}

-- the marks stay
pub marked_same : (keys : List ℕ) (old new : List Bool) → ((k : ℕ) → get_or new k false ≡ get_or old k false) → AreMarked keys old → AreMarked keys new
marked_same keys old new same before k = (λ has. same k ∙ (before k).0 has, λ is. (before k).1 (sym (same k) ∙ is))

same_or_not : (b : Bool) (k key : ℕ) → nat_eq k key ≡ b → (k ≡ key) ⊎ (k ≢ key)
same_or_not true k key is = inl (eqb-true k key is)
same_or_not false k key is = inr (λ e. absurd (false≢true (sym is ∙ eq-eqb k key e)))

-- a mark that is on stays on
still_on : (marks : List Bool) (key k : ℕ) → key < length marks → get_or marks k false ≡ true → get_or (set marks key true) k false ≡ true
still_on marks key k lt is =
    elim (same_or_not (nat_eq k key) k key refl) as (λ _. get_or (set marks key true) k false ≡ true) [
      | inl e ↦ subst (λ j. get_or (set marks key true) j false ≡ true) (sym e) (get_or-set_same marks key true false lt)
      | inr ne ↦ get_or-set_other marks key k true false ne ∙ is
    ]

-- one key more
pub marked_more : (keys : List ℕ) (marks : List Bool) (key : ℕ) → key < length marks → AreMarked keys marks → AreMarked (keys ++ key ∷ []) (set marks key true)
marked_more keys marks key lt before k = (
  λ has. elim (Contains-push_cases keys key k has) as (λ _. get_or (set marks key true) k false ≡ true) [
    | inl was ↦ still_on marks key k lt ((before k).0 was)
    | inr e ↦ subst (λ j. get_or (set marks key true) j false ≡ true) e (get_or-set_same marks key true false lt)
  ],
  λ is. elim (same_or_not (nat_eq k key) k key refl) as (λ _. Contains (keys ++ key ∷ []) k) [
    | inl e ↦ subst (Contains (keys ++ key ∷ [])) (sym e) (Contains-push keys key)
    | inr ne ↦ Contains-append_left keys (key ∷ []) k ((before k).1 (sym (get_or-set_other marks key k true false ne) ∙ is))
  ],
)

pub added_one : {X : Type 0} (keys : List X) (key : X) → Adds keys (keys ++ key ∷ []) (λ k. k ≡ key)
added_one keys key = record {
  grows = (key ∷ [], refl);
  is = λ k. (
    λ has. elim (Contains-push_cases keys key k has) as (λ _. Contains keys k ⊎ (k ≡ key)) [ inl was ↦ inl was | inr e ↦ inr (sym e) ],
    λ s. elim s as (λ _. Contains (keys ++ key ∷ []) k) [ inl was ↦ Contains-append_left keys (key ∷ []) k was | inr e ↦ subst (Contains (keys ++ key ∷ [])) (sym e) (Contains-push keys key) ],
  );
}

-- a key that is there adds nothing
pub added_none : {X : Type 0} (keys : List X) (key : X) → Contains keys key → Adds keys keys (λ k. k ≡ key)
added_none keys key there = record {
  grows = ([], sym (append-nil keys));
  is = λ k. (λ has. inl has, λ s. elim s as (λ _. Contains keys k) [ inl has ↦ has | inr e ↦ subst (Contains keys) (sym e) there ]);
}

-- the index has just the facts of the list
abbrev pub AreSame : List Fact → List Fact → Type 0
AreSame index facts = (x : Fact) → Contains index x ↔ Contains facts x

-- with one fact more
pub same_more : (facts index new : List Fact) (fact : Fact) → AreSame index facts → Gains (Contains index) (Contains new) (λ x. x ≡ fact) → AreSame new (facts ++ fact ∷ [])
same_more facts index new fact same gains x = (
  λ has. elim ((gains x).0 has) as (λ _. Contains (facts ++ fact ∷ []) x) [
    | inl was ↦ Contains-append_left facts (fact ∷ []) x ((same x).0 was)
    | inr e ↦ subst (Contains (facts ++ fact ∷ [])) (sym e) (Contains-push facts fact)
  ],
  λ has. elim (Contains-push_cases facts fact x has) as (λ _. Contains new x) [
    | inl was ↦ (gains x).1 (inl ((same x).1 was))
    | inr e ↦ (gains x).1 (inr (sym e))
  ],
)

pub has_equal : {X : Type 0} (xs : List X) (y : X) → Has (λ x. y ≡ x) xs ↔ Contains xs y
has_equal xs y = (λ h. subst (Contains xs) (sym h.2) h.1, λ has. (y, has, refl))

-- what is gained one after another is all
pub all_gained : {X : Type 0} (xs index : List X) → Gains (Contains []) (Contains index) (λ y. Has (λ x. y ≡ x) xs) → (y : X) → Contains index y ↔ Contains xs y
all_gained xs index gains y = (
  λ has. elim ((gains y).0 has) as (λ _. Contains xs y) [ inl none ↦ absurd (omega (arith, none.1)) | inr h ↦ (has_equal xs y).0 h ],
  λ has. (gains y).1 (inr ((has_equal xs y).1 has)),
)

-- what was added last is taken back
pub taken_back : {X : Type 0} (xs ys new : List X) (x : X) (n : ℕ) → ys ≡ xs ++ x ∷ [] → n ≡ length ys → new ≡ take (n - 1) ys → new ≡ xs
taken_back xs ys new x n is long left =
    let same : n - 1 ≡ length xs = omega (arith, long, ap length is, length-append xs (x ∷ [])) in
    left ∙ (λ i. take (same i) (is i)) ∙ take-append_seam xs (x ∷ [])
