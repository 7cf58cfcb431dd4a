-- The word for a site, told from whether it is marked and from its first candidate.
use Rattle.std.proofs.Common.{◌≡◌, inl, inr, ℕ, zero, suc, ◌+◌, ◌<◌, ◌≤◌, Bool, true, false, ◌||◌, ◌&&◌, nat_eq, if◌then◌else◌, List, [], ◌∷◌, filter, slice_get, Option, Some, None, refl, sym, ap, ◌∙◌, subst, arith}
use Rattle.std.specs.Prelude.{codes}
use Rattle.std.specs.List.{range_with_len}
use Rattle.std.specs.Cmp.{nat_eq_equiv}
use Rattle.std.proofs.lemmas.Bool.{false≢true, le-leb}
use Rattle.std.proofs.lemmas.Bool.Decides.{eqb_tells}
use Rattle.c_tree.specs.Functions.{defined, value_type}
use Rattle.c_tree.specs.Tree.{Program}
use Rattle.c_meaning.specs.CallGraph.{is_in, has_one, functions_of, is_taken, is_typed, reaches, callee_at, called_where, candidates, marked_where, marked}
use Rattle.c_meaning.specs.Mentions.{Callee, Direct, Through, mentions_of_program}
use Rattle.c_meaning.proofs.Rounds.{enough}
use Rattle.site_lines.specs.SiteLines.{is_system_call, kind_of_site}
use Rattle.c_meaning.proofs.Members.{or_left, or_right}

-- ## Members

or_false : (a b : Bool) → (a || b) ≡ false → a ≡ true → ⊥
or_false true b h e = false≢true (sym h)
or_false false b h e = false≢true e

in_range : (a n f : ℕ) → a ≤ f → f < a + n → is_in f (range_with_len a n) ≡ true
in_range a zero f l k = absurd (omega (arith, l, k))
in_range a (suc n) f l k = elim (eqb_tells f a) as (λ q. is_in f (range_with_len a (suc n)) ≡ true) [
  | inl q ↦ or_left (nat_eq f a) (is_in f (range_with_len (a + 1) n)) q.0
  | inr q ↦ or_right (nat_eq f a) (is_in f (range_with_len (a + 1) n)) (in_range (a + 1) n f (let d = q.1 in omega (arith, l, d)) (omega (arith, k)))
]

below_one : (a n f : ℕ) → (is_in f (range_with_len (a + 1) n) ≡ true → f < a + 1 + n) → (b : Bool) → nat_eq f a ≡ b → (b || is_in f (range_with_len (a + 1) n)) ≡ true → f < a + suc n
below_one a n f rest true e h = elim (eqb_tells f a) as (λ q. f < a + suc n) [
  | inl q ↦ (let d = q.1 in omega (arith, d))
  | inr q ↦ absurd (false≢true (sym q.0 ∙ e))
]
below_one a n f rest false e h = (let r = rest h in omega (arith, r))

below_range : (a n f : ℕ) → is_in f (range_with_len a n) ≡ true → f < a + n
below_range a zero f h = absurd (false≢true h)
below_range a (suc n) f h = below_one a n f (λ k. below_range (a + 1) n f k) (nat_eq f a) refl h

itself : (f : ℕ) (fs : List ℕ) → is_in f (f ∷ fs) ≡ true
itself f fs = or_left (nat_eq f f) (is_in f fs) (nat_eq_equiv.refl f)

-- what a filter leaves first is a member
kept_one : (test : ℕ → Bool) (x : ℕ) (xs : List ℕ) (f : ℕ) (fs : List ℕ) → (filter test xs ≡ f ∷ fs → is_in f xs ≡ true) → (b : Bool) → (if b then x ∷ filter test xs else filter test xs) ≡ f ∷ fs → is_in f (x ∷ xs) ≡ true
kept_one test x xs f fs rest true e = (let same : x ≡ f = (let r : x ∷ filter test xs ≡ f ∷ fs = e in cc) in subst (λ y. is_in f (y ∷ xs) ≡ true) (sym same) (itself f xs))
kept_one test x xs f fs rest false e = or_right (nat_eq f x) (is_in f xs) (rest e)

first_kept : (test : ℕ → Bool) (xs : List ℕ) (f : ℕ) (fs : List ℕ) → filter test xs ≡ f ∷ fs → is_in f xs ≡ true
first_kept test [] f fs e = absurd (let r : [] ≡ f ∷ fs = e in cc)
first_kept test (x ∷ xs) f fs e = kept_one test x xs f fs (λ k. first_kept test xs f fs k) (test x) e

-- a system call comes to a system call
call_reaches : (p : Program) (f : ℕ) → defined p ≤ f → f < defined p + 24 → reaches p f ≡ true
call_reaches p f l k = enough p 0 f (in_range (defined p) 24 f l k)

-- ## Words

abbrev kind_with : Program → Option Callee → List ℕ
kind_with p o = if is_system_call p o then codes "system" else if marked_where p o then codes "marked" else codes "silent"

-- a site that isn't marked, whose first candidate is a system call
is_system_kind : (p : Program) (o : Option Callee) (f : ℕ) (fs : List ℕ) → marked_where p o ≡ false → called_where p o ≡ f ∷ fs → defined p ≤ f → kind_with p o ≡ codes "system"
is_system_kind p None f fs h e l = absurd (let r : [] ≡ f ∷ fs = e in cc)
is_system_kind p (Some (Direct g)) f fs h e l =
    let same : g ≡ f = (let r : g ∷ [] ≡ f ∷ fs = e in cc) in
    ap (λ b. if b then codes "system" else if marked_where p (Some (Direct g)) then codes "marked" else codes "silent") (le-leb (defined p) g (subst (λ x. defined p ≤ x) (sym same) l))
is_system_kind p (Some (Through t)) f fs h e l =
    let known : f < 0 + (defined p + 24) = below_range 0 (defined p + 24) f (first_kept (λ f. is_taken p f && is_typed t (value_type p f)) (functions_of p) f fs e) in
    let comes : reaches p f ≡ true = call_reaches p f l (omega (arith, known)) in
    absurd (or_false (reaches p f) (has_one (reaches p) fs) (sym (ap (has_one (reaches p)) e) ∙ h) comes)

-- ## The same of a site

pub system_kind : (p : Program) (n f : ℕ) (fs : List ℕ) → marked p n ≡ false → candidates p n ≡ f ∷ fs → defined p ≤ f → kind_of_site p n ≡ codes "system"
system_kind p n f fs h e l = is_system_kind p (callee_at n (mentions_of_program p)) f fs h e l

from_first : (xs : List ℕ) (f : ℕ) → slice_get xs 0 ≡ Some f → (fs : List ℕ) × (xs ≡ f ∷ fs)
from_first [] f e = absurd (let r : None ≡ Some f = e in cc)
from_first (x ∷ xs) f e = (xs, (let r : Some x ≡ Some f = e in let s : x ≡ f = cc in ap (λ y. y ∷ xs) s))

pub first_call_kind : (p : Program) (n f : ℕ) → marked p n ≡ false → slice_get (candidates p n) 0 ≡ Some f → defined p ≤ f → kind_of_site p n ≡ codes "system"
first_call_kind p n f h e l = (let q = from_first (candidates p n) f e in system_kind p n f q.0 h q.1 l)
