-- The orders of edges tie just what is equal.
use Rattle.std.proofs.Common.{◌≡◌, ◌↔◌, ℕ, ◌<◌, ℤ, Bool, true, false, cond, nat_lt, nat_eq, List, [], ◌∷◌, Option, Some, None, refl, sym, ap, ap₂}
use Rattle.std.specs.Cmp.{IsTotalOrder, nat_cmp_total}
use Rattle.std.specs.Cmp.Lexicographic.{slice_cmp}
use Rattle.std.specs.Option.{option_cmp}
use Rattle.std.specs.Ordering.{nat_cmp, int_cmp, ordering_then, is_lt}
use Rattle.std.specs.declared.cmp.Ordering.{Ordering}
use Rattle.std.specs.declared.cmp.Ordering.TheVariants.{Less, Equal, Greater}
use Rattle.std.proofs.lemmas.Cmp.{tied_itself, ranked, int_ranked, by_ranked, lists_total, on_total, then_total}
use Rattle.dm_base.specs.Pattern.{pattern_cmp, pattern_cmp_total}
use Rattle.flow_model.specs.declared.records.SilentEdge.{SilentEdge}
use Rattle.flow_model.specs.declared.records.SysEdge.{SysEdge}
use Rattle.flow_model.specs.Order.{silent_order, sys_order, site_order}

-- R ties only what is equal
record TiesEqual {X : Type 0} (R : X → X → Ordering) : Type 0 where
  at : (x y : X) → R x y ≡ Equal → x ≡ y

pub both_equal : (p q : Ordering) → ordering_then p q ≡ Equal → (p ≡ Equal) × (q ≡ Equal)
both_equal Less q e = cc
both_equal Equal q e = (refl, e)
both_equal Greater q e = cc

TiesEqual-nat : TiesEqual nat_cmp
TiesEqual-nat = record {
  at = λ x y e. by_ranked _ _ _ (nat_cmp x y) (ranked x y (nat_cmp x y) refl) (λ less _. cc) (λ _ same. same) (λ greater _. cc);
}

TiesEqual-int : TiesEqual int_cmp
TiesEqual-int = record {
  at = λ x y e. by_ranked _ _ _ (int_cmp x y) (int_ranked x y (int_cmp x y) refl) (λ less _. cc) (λ _ same. same) (λ greater _. cc);
}

equal_option : {X : Type 0} (R : X → X → Ordering) → TiesEqual R → (x y : Option X) → option_cmp R x y ≡ Equal → x ≡ y
equal_option R ties None None e = refl
equal_option R ties None (Some y) e = cc
equal_option R ties (Some x) None e = cc
equal_option R ties (Some x) (Some y) e = ap Some (ties.at x y e)

equal_list : {X : Type 0} (R : X → X → Ordering) → TiesEqual R → (xs ys : List X) → slice_cmp R xs ys ≡ Equal → xs ≡ ys
equal_list R ties [] [] e = refl
equal_list R ties [] (y ∷ ys) e = cc
equal_list R ties (x ∷ xs) [] e = cc
equal_list R ties (x ∷ xs) (y ∷ ys) e =
    let both = both_equal (R x y) (slice_cmp R xs ys) e in
    ap₂ ◌∷◌ (ties.at x y both.0) (equal_list R ties xs ys both.1)

-- what a total order ties with itself, it ties with an equal
ties_itself : {X : Type 0} {R : X → X → Ordering} → IsTotalOrder R → (x y : X) → x ≡ y → R x y ≡ Equal
ties_itself {X} {R} o x y e = let itself : R x x ≡ Equal = tied_itself o x in rw (sym e) itself

pub numbers_tie : (x y : ℕ) → nat_cmp x y ≡ Equal ↔ x ≡ y
numbers_tie x y = (TiesEqual-nat.at x y, ties_itself nat_cmp_total x y)

pub bytes_tie : (xs ys : List ℕ) → slice_cmp nat_cmp xs ys ≡ Equal ↔ xs ≡ ys
bytes_tie xs ys = (equal_list nat_cmp TiesEqual-nat xs ys, ties_itself (lists_total nat_cmp_total) xs ys)

patterns_tie : (p q : List (Option ℤ)) → pattern_cmp p q ≡ Equal → p ≡ q
patterns_tie p q e = equal_list (option_cmp int_cmp) (record { at = equal_option int_cmp TiesEqual-int }) p q e

pub silent_order_total : IsTotalOrder silent_order
silent_order_total = then_total (on_total (λ e. e.from) nat_cmp_total) (on_total (λ e. e.to) nat_cmp_total)

pub silent_edges_tie : (d e : SilentEdge) → silent_order d e ≡ Equal ↔ d ≡ e
silent_edges_tie d e = (
  λ h.
      let both = both_equal (nat_cmp d.from e.from) (nat_cmp d.to e.to) h in
      ap₂ (λ from to. record { from = from; to = to }) (TiesEqual-nat.at _ _ both.0) (TiesEqual-nat.at _ _ both.1),
  ties_itself silent_order_total d e,
)

pub sys_order_total : IsTotalOrder sys_order
sys_order_total =
    then_total (on_total (λ e. e.from) nat_cmp_total)
    (then_total (on_total (λ e. e.name) nat_cmp_total)
    (then_total (on_total (λ e. e.to) nat_cmp_total) (on_total (λ e. e.args) pattern_cmp_total)))

pub sys_edges_tie : (d e : SysEdge) → sys_order d e ≡ Equal ↔ d ≡ e
sys_edges_tie d e = (
  λ h.
      let first = both_equal _ _ h in
      let second = both_equal _ _ first.1 in
      let third = both_equal _ _ second.1 in
      let from : d.from ≡ e.from = TiesEqual-nat.at _ _ first.0 in
      let name : d.name ≡ e.name = TiesEqual-nat.at _ _ second.0 in
      let to : d.to ≡ e.to = TiesEqual-nat.at _ _ third.0 in
      let args : d.args ≡ e.args = patterns_tie _ _ third.1 in
      λ i. record { from = from i; name = name i; to = to i; args = args i },
  ties_itself sys_order_total d e,
)

pub site_order_total : IsTotalOrder site_order
site_order_total = on_total (λ c. c.site) nat_cmp_total

tests_agree : (less same : Bool) → less ≡ is_lt (cond less Less (cond same Equal Greater))
tests_agree true same = refl
tests_agree false true = refl
tests_agree false false = refl

-- the test `<` answers as the order of numbers does
pub less_by_order : (x y : ℕ) → nat_lt x y ≡ is_lt (nat_cmp x y)
less_by_order x y = tests_agree (nat_lt x y) (nat_eq x y)

-- a number that goes before another by the order is less
pub lt_from_less : (x y : ℕ) → nat_cmp x y ≡ Less → x < y
lt_from_less x y e = by_ranked _ _ _ (nat_cmp x y) (ranked x y (nat_cmp x y) refl) (λ _ less. less) (λ same _. cc) (λ greater _. cc)
