-- Returns by two facts, one after another.
use Rattle.std.proofs.Common.{◌≡◌, ◌↔◌, ℕ, List, Some, None, [], ◌∷◌, ◌++◌, Contains, refl, sym, subst}
use Rattle.flow_model.specs.Graph.{Graph}
use Rattle.certify_facts.specs.declared.fact.Fact.{Fact}
use Rattle.certify_facts.specs.declared.fact.FactLine.{FactLine}
use Rattle.certify_facts.specs.declared.fact.Reason.TheVariants.{Return}
use Rattle.certify_facts.specs.Confirms.{facts_of}
use Rattle.certify_facts.specs.Reasons.{IsNamed, IsReturnedAlong}
use Rattle.dm_base.specs.Adding.{Has}
use Rattle.certify_steps.specs.Adding.{Adds}
use Rattle.certify_steps.specs.Stepping.{line_of}
use Rattle.certify_steps.proofs.AddingLemmas.{adds_nothing, adds_push, adds_same}
use Rattle.certify_making.specs.declared.notes.Key.{Key}
use Rattle.certify_making.specs.declared.notes.Notes.{Notes}
use Rattle.certify_making.specs.Notes.{HasKey, HasNote, other_side}
use Rattle.certify_making.specs.Pairs.{IsReturnLine, IsPair, IsPairWith, IsPaired}

module _ (g : Graph) (x : Fact) (r : ℕ) (z : Fact) (n : ℕ) where
  return_line : (y : Fact) → IsReturnedAlong g x z y → ((y' : Fact) → IsReturnedAlong g x z y' → Some y ≡ Some y') → (l : FactLine) → IsReturnLine g x r z n l ↔ (l ≡ line_of y (Return r n))
  return_line y is only l = (
    λ at. let same : y ≡ l.fact = let both : Some y ≡ Some l.fact = only l.fact at.0 in cc in λ i. record { fact = sym same i; reason = at.1 i },
    λ e. subst (IsReturnLine g x r z n) (sym e) (is, refl),
  )

  pub adds_return : (old new : List FactLine) (y : Fact) → IsReturnedAlong g x z y → ((y' : Fact) → IsReturnedAlong g x z y' → Some y ≡ Some y')
      → new ≡ old ++ line_of y (Return r n) ∷ [] → Adds old new (IsReturnLine g x r z n)
  adds_return old new y is only pushed = adds_same old new _ _ (λ l. let both = return_line y is only l in (both.1, both.0)) (adds_push old new (line_of y (Return r n)) pushed)

  pub adds_no_return : (old : List FactLine) → ((y : Fact) → IsReturnedAlong g x z y → None ≡ Some y) → Adds old old (IsReturnLine g x r z n)
  adds_no_return old only = adds_nothing old _ (λ l at. let both : None ≡ Some l.fact = only l.fact at.0 in absurd cc)

module _ (g : Graph) (lines : List FactLine) (x : Fact) (r n : ℕ) where
  pub adds_named : (old new : List FactLine) (z : Fact) → ((y : Fact) → (Some z ≡ Some y) ↔ IsNamed (facts_of lines) n y) → Adds old new (IsPair g x r z n) → Adds old new (IsPairWith g lines x r n)
  adds_named old new z named adds = adds_same old new _ _ (λ l. (
    λ pair. (z, (named z).0 refl, pair),
    λ found. let same : z ≡ found.0 = let both : Some z ≡ Some found.0 = (named found.0).1 found.1 in cc in subst (λ y. IsPair g x r y n l) (sym same) found.2,
  )) adds

  pub adds_none_named : (old : List FactLine) → ((y : Fact) → (None ≡ Some y) ↔ IsNamed (facts_of lines) n y) → Adds old old (IsPairWith g lines x r n)
  adds_none_named old named = adds_nothing old _ (λ l found. let both : None ≡ Some found.0 = (named found.0).1 found.1 in absurd cc)

module _ (g : Graph) (lines : List FactLine) (notes : Notes) (x : Fact) (r : ℕ) where
  pub adds_paired : (old new : List FactLine) (key : Key) (others : List ℕ) → ((k : Key) → (Some key ≡ Some k) ↔ HasKey g x k) → ((n : ℕ) → Contains others n ↔ HasNote notes (other_side key) n)
      → Adds old new (λ l. Has (λ n. IsPairWith g lines x r n l) others) → Adds old new (IsPaired g lines notes x r)
  adds_paired old new key others keyed noted adds = adds_same old new _ _ (λ l. (
    λ has. (key, (keyed key).0 refl, (has.0, (noted has.0).0 has.1, has.2)),
    λ (k, has, (n, note, pair)).
        let same : key ≡ k = let both : Some key ≡ Some k = (keyed k).1 has in cc in
        (n, (noted n).1 (subst (λ j. HasNote notes (other_side j) n) (sym same) note), pair),
  )) adds

  pub adds_none_paired : (old : List FactLine) → ((k : Key) → (None ≡ Some k) ↔ HasKey g x k) → Adds old old (IsPaired g lines notes x r)
  adds_none_paired old keyed = adds_nothing old _ (λ l paired. let both : None ≡ Some paired.0 = (keyed paired.0).1 paired.1 in absurd cc)
