-- Different items of a list are no more than it has.
use Rattle.std.proofs.Common.{◌≡◌, ◌≢◌, suc, ◌≤◌, List, [], ◌∷◌, length, get_or, Contains, refl, sym, ◌∙◌, ap, arith}
use Rattle.std.specs.Prelude.{AllPairs, remove}
use Rattle.std.proofs.lemmas.List.{get_or_default}
use Rattle.std.proofs.lemmas.List.Edits.{length-remove}
use Rattle.std.proofs.lemmas.Grind.{in_remove}

module _ {X : Type 0} where
  pub no_more : (xs ys : List X) → AllPairs (λ x y. x ≢ y) xs → ((x : X) → Contains xs x → Contains ys x) → length xs ≤ length ys
  no_more [] ys apart each = omega arith
  no_more (x ∷ xs) ys apart each =
      let first = each x (0, omega arith, refl) in
      let fewer = no_more xs (remove ys first.0) (λ i j d lt within. apart (suc i) (suc j) d (omega (arith, lt)) (omega (arith, within))) (λ y has.
      let there = each y (suc has.0, omega (arith, has.1), has.2) in
      let stands = in_remove ys first.0 there.0 y first.1 there.1 (sym there.2) (λ same.
      let equal : x ≡ y = sym first.2 ∙ get_or_default ys first.0 x y first.1 ∙ ap (λ k. get_or ys k y) (sym same) ∙ there.2 in
      apart 0 (suc has.0) y (omega arith) (omega (arith, has.1)) (equal ∙ sym has.2)) in
      stands.1) in
      omega (arith, fewer, length-remove ys first.0 first.1)
