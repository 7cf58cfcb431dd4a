-- The members of a set, by the bits of its words.
use Prim.Native.Nat.{zero, suc}
use Rattle.std.proofs.Common.{◌≡◌, ℕ, ◌<◌, ◌≤◌, max, Bool, true, false, ◌&&◌, ◌||◌, cond, List, eqb, ltb, refl, sym, ap, ◌∙◌, arith, subst}
use Rattle.std.proofs.Math.Nat.{max-le}
use Rattle.std.specs.Cmp.{nat_cmp_total, unsigned_tied}
use Rattle.std.specs.Ordering.{nat_cmp}
use Rattle.std.specs.FinSet.{FinSet, empty, insert, contains, contains-empty, contains-insert, same_set, nat_cmp-IsAntisymmetric}
use Rattle.std.proofs.lemmas.Bool.Decides.{nat_tests}
use Rattle.dm_sets.specs.Bits.{bit, members_below, AreBetween}
use Rattle.dm_sets.specs.Nodes.{Nodes, Has}
use Rattle.dm_sets.proofs.Words.{bit_cases}

-- one number more
next_member : (b : Bool) (s : FinSet nat_cmp) (n q : ℕ) → contains (cond b (insert s n) s) q ≡ ((b && eqb q n) || contains s q)
next_member true s n q = contains-insert nat_cmp_total s n q ∙ ap (λ e. e || contains s q) (unsigned_tied q n)
next_member false s n q = refl

with_next : (n q u v : ℕ) → (q ≡ n → u ≡ v) → ((eqb u 1 && eqb q n) || (ltb q n && eqb v 1)) ≡ (ltb q (suc n) && eqb v 1)
with_next n q u v same = grind (arith, nat_tests)

pub contains-members_below : (words : List ℕ) (n q : ℕ) → contains (members_below words n) q ≡ (ltb q n && eqb (bit words q) 1)
contains-members_below words zero q = contains-empty nat_cmp q ∙ grind (arith, nat_tests)
contains-members_below words (suc n) q =
    next_member (eqb (bit words n) 1) (members_below words n) n q
    ∙ ap (λ c. (eqb (bit words n) 1 && eqb q n) || c) (contains-members_below words n q)
    ∙ with_next n q (bit words n) (bit words q) (λ e. ap (bit words) (sym e))

-- a member, by its bit
pub member_is : (words : List ℕ) (n q : ℕ) → contains (members_below words n) q ≡ true → (q < n) × (bit words q ≡ 1)
member_is words n q has = let is : (ltb q n && eqb (bit words q) 1) ≡ true = sym (contains-members_below words n q) ∙ has in grind (arith, nat_tests)

pub is_member : (words : List ℕ) (n q : ℕ) → q < n → bit words q ≡ 1 → contains (members_below words n) q ≡ true
is_member words n q lt is = contains-members_below words n q ∙ grind (arith, nat_tests)

-- without bits there is no member
pub no_members : (words : List ℕ) (n : ℕ) → ((k : ℕ) → bit words k ≡ 0) → members_below words n ≡ empty
no_members words n none = same_set nat_cmp_total nat_cmp-IsAntisymmetric _ _ (λ q. contains-members_below words n q ∙ (let off = none q in grind (arith, nat_tests)) ∙ sym (contains-empty nat_cmp q))

set_member : (n k q u v : ℕ) → k < n → (q ≡ k → v ≡ 1) → ((q ≡ k → ⊥) → v ≡ u) → (ltb q n && eqb v 1) ≡ (eqb q k || (ltb q n && eqb u 1))
set_member n k q u v lt here other = grind (arith, nat_tests)

-- one bit more is one member more
pub members-set : (old new : List ℕ) (n k : ℕ) → k < n → bit new k ≡ 1 → ((j : ℕ) → (j ≡ k → ⊥) → bit new j ≡ bit old j) → members_below new n ≡ insert (members_below old n) k
members-set old new n k lt here others = same_set nat_cmp_total nat_cmp-IsAntisymmetric _ _ (λ q.
    contains-members_below new n q
    ∙ set_member n k q (bit old q) (bit new q) lt (λ e. ap (bit new) e ∙ here) (others q)
    ∙ ap (λ c. eqb q k || c) (sym (contains-members_below old n q))
    ∙ ap (λ e. e || contains (members_below old n) q) (sym (unsigned_tied q k))
    ∙ sym (contains-insert nat_cmp_total (members_below old n) k q))

-- What is seen of a set with these words and this size.
module _ (words : List ℕ) (n : ℕ) (s : Nodes) (seen : record { size = n; members = members_below words n } ≡ s) where
  pub has_bit_of : (q : ℕ) → Has s q → (q < n) × (bit words q ≡ 1)
  has_bit_of q has = member_is words n q (subst (λ t. Has t q) (sym seen) has)

  pub has_of_bit : (q : ℕ) → q < n → bit words q ≡ 1 → Has s q
  has_of_bit q lt is = subst (λ t. Has t q) seen (is_member words n q lt is)

  pub size_is : s.size ≡ n
  size_is = ap (λ t. t.size) (sym seen)

  -- a number whose bit is 0 is no member
  pub none_of_bit : (q : ℕ) → bit words q ≡ 0 → Has s q → ⊥
  none_of_bit q off has = let on = has_bit_of q has in omega (arith, on.1)

  pub bit_of_none : (q : ℕ) → q < n → (Has s q → ⊥) → bit words q ≡ 0
  bit_of_none q lt none = bit_cases words q (λ on. none (has_of_bit q lt on))

  -- a member that is not below a number is between the bounds of the members, seen from there
  pub between : (low high from m : ℕ) → AreBetween words low high → m ≡ max from low → (q : ℕ) → from ≤ q → Has s q → (m ≤ q) × (q < high)
  between low high from m within is q le has =
      let found = within q ((has_bit_of q has).1) in
      (subst (λ k. k ≤ q) (sym is) (max-le le found.0), found.1)
