-- Numbers that rise, as they are added one after another.
use Rattle.std.proofs.Common.{◌≡◌, ◌⊎◌, ◌↔◌, ℕ, ◌+◌, ◌<◌, List, [], ◌∷◌, ◌++◌, length, take, get_or, All, Contains, refl, sym, ◌∙◌, ap, subst, inl, inr, arith}
use Rattle.std.specs.Ordering.{nat_cmp}
use Rattle.std.specs.declared.cmp.Ordering.TheVariants.{Less}
use Rattle.std.proofs.lemmas.Bool.{cases_lt}
use Rattle.std.proofs.lemmas.Cmp.{ranked, by_ranked}
use Rattle.std.proofs.lemmas.List.{get_or_default, get_or-take, length-take-le}
use Rattle.std.proofs.lemmas.List.Elements.{All-get_or, All-weaker, All-contains_itself, Contains-append_left, Contains-push, Contains-push_cases}
use Rattle.std.proofs.lemmas.List.Quantifiers.{all_pairs_push}
use Rattle.dm_sets.specs.Nodes.{Nodes}
use Rattle.flow_model.specs.Call.{Call}
use Rattle.flow_model.specs.Order.{StrictlyRise, site_order}
use Rattle.flow_model.proofs.OrderLemmas.{lt_from_less}
use Rattle.dm_base.specs.Adding.{Adds, Has as HasOne}
use Rattle.dm_base.proofs.AddingLemmas.{adds_init, are_all}
use Rattle.expected_events.specs.Marked.{IsOpenedBy}

-- one item is added, which alone has P
adds_one : {Y : Type 0} (old : List Y) (x : Y) (P : Y → Type 0) → P x → ((y : Y) → P y → y ≡ x) → Adds old (old ++ x ∷ []) P
adds_one old x P holds only = record {
  grows = (x ∷ [], refl);
  is = λ y. (
    λ has. elim (Contains-push_cases old x y has) as (λ _. Contains old y ⊎ P y) [ inl was ↦ inl was | inr here ↦ inr (subst P here holds) ],
    λ s. elim s as (λ _. Contains (old ++ x ∷ []) y) [
      | inl was ↦ Contains-append_left old (x ∷ []) y was
      | inr is ↦ subst (Contains (old ++ x ∷ [])) (sym (only y is)) (Contains-push old x)
    ],
  );
}

pub adds_pushed : {Y : Type 0} (old new : List Y) (x : Y) (P : Y → Type 0) → new ≡ old ++ x ∷ [] → P x → ((y : Y) → P y → y ≡ x) → Adds old new P
adds_pushed old new x P is holds only = subst (λ xs. Adds old xs P) (sym is) (adds_one old x P holds only)

-- nothing is added before the first item
pub adds_start : {X Y : Type 0} (new : List Y) (P : X → Y → Type 0) → new ≡ [] → Adds [] new (λ y. HasOne (λ x. P x y) [])
adds_start new P none = subst (λ ys. Adds [] ys (λ y. HasOne (λ x. P x y) [])) (sym none) (adds_init [] P)

-- what holds of each member holds at each place
pub all_of : {X : Type 0} (P : X → Type 0) (xs : List X) → ((x : X) → Contains xs x → P x) → All P xs
all_of P xs each = All-weaker (Contains xs) P each xs (All-contains_itself xs)

less_from_lt : (x y : ℕ) → x < y → nat_cmp x y ≡ Less
less_from_lt x y lt = by_ranked _ _ _ (nat_cmp x y) (ranked x y (nat_cmp x y) refl) (λ less _. less) (λ _ same. absurd (omega (arith, same, lt))) (λ _ more. absurd (omega (arith, more, lt)))

pub rise_none : (xs : List ℕ) → xs ≡ [] → StrictlyRise nat_cmp xs
rise_none xs none = subst (StrictlyRise nat_cmp) (sym none) (λ i j d lt within. absurd (omega (arith, within)))

-- a number past all others
rise_push : (xs : List ℕ) (n : ℕ) → All (λ x. x < n) xs → StrictlyRise nat_cmp xs → StrictlyRise nat_cmp (xs ++ n ∷ [])
rise_push xs n below rise = all_pairs_push (λ x y. nat_cmp x y ≡ Less) xs n rise (λ k d lt. less_from_lt (get_or xs k d) n (All-get_or (λ x. x < n) xs k d lt below))

pub rise_pushed : (old new : List ℕ) (n m : ℕ) → new ≡ old ++ n ∷ [] → n ≡ m → All (λ x. x < m) old → StrictlyRise nat_cmp old → StrictlyRise nat_cmp new
rise_pushed old new n m is same below rise = subst (StrictlyRise nat_cmp) (sym (is ∙ ap (λ k. old ++ k ∷ []) same)) (rise_push old m below rise)

-- The numbers below a limit that have P, where the limit grows by one.
pub numbers_none : (P : ℕ → Type 0) (xs : List ℕ) → xs ≡ [] → (f : ℕ) → Contains xs f ↔ ((f < 0) × P f)
numbers_none P xs none f = subst (λ ys. Contains ys f ↔ ((f < 0) × P f)) (sym none) (λ has. absurd (omega (arith, has.1)), λ both. absurd (omega (arith, both.0)))

pub numbers_more : (P : ℕ → Type 0) (old new : List ℕ) (n : ℕ) → ((f : ℕ) → Contains old f ↔ ((f < n) × P f)) → Adds old new (λ f. (f ≡ n) × P f) → (f : ℕ) → Contains new f ↔ ((f < n + 1) × P f)
numbers_more P old new n is adds f = (
  λ has. elim ((adds.is f).0 has) as (λ _. (f < n + 1) × P f) [
    | inl was ↦ let (below, holds) = (is f).0 was in (omega (arith, below), holds)
    | inr (here, holds) ↦ (omega (arith, here), holds)
  ],
  λ (below, holds). elim (cases_lt f n) as (λ _. Contains new f) [
    | inl less ↦ (adds.is f).1 (inl ((is f).1 (less, holds)))
    | inr more ↦ let here : f ≡ n = omega (arith, below, more) in (adds.is f).1 (inr (here, holds))
  ],
)

pub numbers_below : (P : ℕ → Type 0) (xs : List ℕ) (n : ℕ) → ((f : ℕ) → Contains xs f ↔ ((f < n) × P f)) → All (λ f. f < n) xs
numbers_below P xs n is = all_of (λ f. f < n) xs (λ f has. ((is f).0 has).0)

pub numbers_all : (P : ℕ → Type 0) (xs : List ℕ) (n : ℕ) → ((f : ℕ) → P f → f < n) → ((f : ℕ) → Contains xs f ↔ ((f < n) × P f)) → (f : ℕ) → Contains xs f ↔ P f
numbers_all P xs n within is f = (λ has. ((is f).0 has).1, λ holds. (is f).1 (within f holds, holds))

-- a call has a greater site than those before it
site_before : (calls : List Call) (i : ℕ) (call x : Call) → StrictlyRise site_order calls → i < length calls → call ≡ get_or calls i call → Contains (take i calls) x → x.site < call.site
site_before calls i call x rise lt is (k, within, at) =
    let long : length (take i calls) ≡ i = length-take-le i calls (omega (arith, lt)) in
    let early : k < i = omega (arith, within, long) in
    let less : (get_or calls k x).site < (get_or calls i x).site = lt_from_less (get_or calls k x).site (get_or calls i x).site (rise k i x early lt) in
    let first : get_or calls k x ≡ x = sym (get_or-take i calls k x early) ∙ at in
    let second : get_or calls i x ≡ call = get_or_default calls i x call lt ∙ sym is in
    let first_site : (get_or calls k x).site ≡ x.site = ap (λ (c : Call). c.site) first in
    let second_site : (get_or calls i x).site ≡ call.site = ap (λ (c : Call). c.site) second in
    omega (arith, less, first_site, second_site)

pub sites_below : (at : Nodes) (calls : List Call) (sites : List ℕ) (i : ℕ) (call : Call) → StrictlyRise site_order calls → i < length calls → call ≡ get_or calls i call → Adds [] sites (λ s. HasOne (IsOpenedBy at s) (take i calls)) → All (λ s. s < call.site) sites
sites_below at calls sites i call rise lt is adds =
    all_of (λ s. s < call.site) sites (λ s has.
    let (x, in_front, opened) = (are_all sites (λ s. HasOne (IsOpenedBy at s) (take i calls)) adds s).0 has in
    let less : x.site < call.site = site_before calls i call x rise lt is in_front in
    omega (arith, less, opened.0))
