-- Members of lists, and tests.
use Rattle.std.proofs.Common.{◌≡◌, inl, inr, ℕ, ◌+◌, Bool, true, false, ◌||◌, nat_eq, if◌then◌else◌, List, [], ◌∷◌, ◌++◌, Contains, Some, None, slice_get, refl, ap, sym, ◌∙◌, arith}
use Rattle.std.specs.Cmp.{nat_eq_equiv}
use Rattle.std.proofs.lemmas.Bool.{false≢true, false_from_ne_true}
use Rattle.std.proofs.lemmas.Option.{slice_get_within, get_or_from_slice_get}
use Rattle.c_meaning.specs.CallGraph.{is_in, has_one}
use Rattle.c_meaning.proofs.Members.{or_left, or_right, or_cases}
pub use Rattle.c_meaning.proofs.Members.{and_left, and_right, or_false_left, or_false_right, below, is_below, not_below, isnt_below, same_number, other_number, is_first, is_later, cases, none_in, from_filter, in_filter, in_map, in_range, from_range}

-- what a choice has
pub if_has : {A : Type 0} (P : A → Type 0) (b : Bool) (x y : A) → (b ≡ true → P x) → (b ≡ false → P y) → P (if b then x else y)
if_has P true x y h k = h refl
if_has P false x y h k = k refl

-- membership as a test
pub is_in_of : (f : ℕ) (fs : List ℕ) → Contains fs f → is_in f fs ≡ true
is_in_of f [] h = absurd (none_in f h)
is_in_of f (g ∷ gs) h = elim (cases g gs f h) as (λ k. (nat_eq f g || is_in f gs) ≡ true) [ inl is ↦ or_left (nat_eq f g) (is_in f gs) (ap (nat_eq f) is ∙ nat_eq_equiv.refl f) | inr k ↦ or_right (nat_eq f g) (is_in f gs) (is_in_of f gs k) ]

pub in_is : (f : ℕ) (fs : List ℕ) → is_in f fs ≡ true → Contains fs f
in_is f [] h = absurd (false≢true h)
in_is f (g ∷ gs) h = elim (or_cases (nat_eq f g) (is_in f gs) h) as (λ k. Contains (g ∷ gs) f) [ inl e ↦ (0, omega arith, sym (same_number f g e)) | inr k ↦ is_later g gs f (in_is f gs k) ]

-- one passes, or none does
pub one_found : {X : Type 0} (test : X → Bool) (xs : List X) (x : X) → Contains xs x → test x ≡ true → has_one test xs ≡ true
one_found test [] x h k = absurd (none_in x h)
one_found test (y ∷ xs) x h k = elim (cases y xs x h) as (λ q. has_one test (y ∷ xs) ≡ true) [ inl is ↦ or_left (test y) (has_one test xs) (ap test is ∙ k) | inr q ↦ or_right (test y) (has_one test xs) (one_found test xs x q k) ]

pub none_passes : {X : Type 0} (test : X → Bool) (xs : List X) → has_one test xs ≡ false → (x : X) → Contains xs x → test x ≡ false
none_passes test xs h x k = false_from_ne_true (test x) (λ e. false≢true (sym h ∙ one_found test xs x k e))

-- how many items pass
abbrev pub one : Bool → ℕ
one true = 1
one false = 0

abbrev pub counted : {X : Type 0} → (X → Bool) → List X → ℕ
counted test [] = 0
counted test (x ∷ xs) = one (test x) + counted test xs

pub counted_append : {X : Type 0} (test : X → Bool) (xs ys : List X) → counted test (xs ++ ys) ≡ counted test xs + counted test ys
counted_append test [] ys = omega arith
counted_append test (x ∷ xs) ys = let k = counted_append test xs ys in omega (arith, k)

pub none_counted : {X : Type 0} (test : X → Bool) (xs : List X) → has_one test xs ≡ false → counted test xs ≡ 0
none_counted test [] h = refl
none_counted test (x ∷ xs) h =
    let k : one (test x) ≡ 0 = ap one (or_false_left (test x) (has_one test xs) h) in
    let i = none_counted test xs (or_false_right (test x) (has_one test xs) h) in
    omega (arith, k, i)

pub one_passes : {X : Type 0} (test : X → Bool) (xs : List X) → has_one test xs ≡ true → (x : X) × Contains xs x × (test x ≡ true)
one_passes test [] h = absurd (false≢true h)
one_passes {X = X} test (y ∷ xs) h = elim (or_cases (test y) (has_one test xs) h) as (λ k. (x : X) × Contains (y ∷ xs) x × (test x ≡ true)) [ inl e ↦ (y, is_first y xs, e) | inr e ↦ (let r = one_passes test xs e in (r.0, is_later y xs r.0 r.1, r.2)) ]

-- what is at a place is a member
pub same_some : {X : Type 0} (y x : X) → Some y ≡ Some x → y ≡ x
same_some y x e = cc

pub no_some : {X : Type 0} (x : X) → None ≡ Some x → ⊥
no_some x e = cc

pub got_in : {X : Type 0} (xs : List X) (k : ℕ) (x : X) → slice_get xs k ≡ Some x → Contains xs x
got_in xs k x e = (k, slice_get_within xs k x e, get_or_from_slice_get xs k x x e)

-- what holds of all items holds of those of a part
abbrev pub Each : {X : Type 0} → (X → Type 0) → List X → Type 0
Each {X = X} P xs = (x : X) → Contains xs x → P x

pub each_first : {X : Type 0} (P : X → Type 0) (x : X) (xs : List X) → Each P (x ∷ xs) → P x
each_first P x xs h = h x (is_first x xs)

pub each_rest : {X : Type 0} (P : X → Type 0) (x : X) (xs : List X) → Each P (x ∷ xs) → Each P xs
each_rest P x xs h y k = h y (is_later x xs y k)
