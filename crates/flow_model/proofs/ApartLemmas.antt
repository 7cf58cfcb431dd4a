-- Lemmas that several crates above use.
use Rattle.std.proofs.Common.{ap, sym, ◌∙◌, ◌≡◌}
use Rattle.std.proofs.lemmas.Cmp.{tied_itself}
use Rattle.std.specs.Cmp.{IsTotalOrder}
use Rattle.std.specs.declared.cmp.Ordering.{Ordering}
use Rattle.std.specs.declared.cmp.Ordering.TheVariants.{Equal, Less}

pub rises_apart : {X : Type 0} {order : X → X → Ordering} → IsTotalOrder order → (x y : X) → order x y ≡ Less → x ≡ y → ⊥
rises_apart {order = order} total x y less same = less≢equal (sym less ∙ ap (λ z. order z y) same ∙ tied_itself total y)
  where
    less≢equal : Less ≡ Equal → ⊥
    less≢equal e = absurd (cc)
