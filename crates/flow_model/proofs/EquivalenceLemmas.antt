-- Lemmas that several crates above use.
use Rattle.std.proofs.Common.{Bool, Contains, List, refl, sym, true, ◌∙◌, ◌≡◌}
use Rattle.std.proofs.lemmas.Cmp.{eq_by_cmp_equiv}
use Rattle.std.proofs.lemmas.List.Kept.{Any-dedup}
use Rattle.std.specs.Cmp.{IsEquivalence, IsTotalOrder}
use Rattle.std.specs.List.{dedup}
use Rattle.std.specs.Ordering.{eq_by_cmp, is_eq}
use Rattle.std.specs.declared.cmp.Ordering.{Ordering}
use Rattle.std.specs.declared.cmp.Ordering.TheVariants.{Equal, Greater, Less}

-- a test that tells what an order ties
pub equivalence : {X : Type 0} {order : X → X → Ordering} (total : IsTotalOrder order) (E : X → X → Bool) → ((x y : X) → E x y ≡ eq_by_cmp order x y) → IsEquivalence E
equivalence total E ties =
    let laws = eq_by_cmp_equiv total in
    record {
      refl = λ x. ties x x ∙ laws.refl x;
      symm = λ x y. ties x y ∙ laws.symm x y ∙ sym (ties y x);
      congr = λ x y z e. ties x z ∙ laws.congr x y z (sym (ties x y) ∙ e) ∙ sym (ties y z);
    }

pub equal_from : (o : Ordering) → is_eq o ≡ true → o ≡ Equal
equal_from Less h = absurd cc
equal_from Equal h = refl
equal_from Greater h = absurd cc

pub tied : {X : Type 0} {order : X → X → Ordering} (total : IsTotalOrder order) (E : X → X → Bool) → ((x y : X) → E x y ≡ eq_by_cmp order x y) → (xs : List X) (x : X) → Contains xs x → (y : X) × Contains (dedup E xs) y × (order x y ≡ Equal)
tied {order = order} total E ties xs x has =
    let (k, y, lt, at, same) = Any-dedup (equivalence total E ties) xs x has in
    (y, (k, lt, at), equal_from (order x y) (sym (ties x y) ∙ same))
