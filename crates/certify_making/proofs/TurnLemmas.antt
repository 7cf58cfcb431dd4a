-- One fact at its turn.
use Rattle.std.proofs.Common.{◌≡◌, ◌⊎◌, ◌↔◌, ℕ, List, [], length, Contains, Some, None, refl, sym, ap, subst, inl, inr, arith}
use Rattle.dm_base.specs.declared.event.Event.{Event}
use Rattle.flow_model.specs.Graph.{Graph}
use Rattle.certify_facts.specs.declared.fact.Fact.{Fact}
use Rattle.certify_facts.specs.declared.fact.FactLine.{FactLine}
use Rattle.certify_steps.specs.Adding.{Adds}
use Rattle.certify_making.specs.declared.error.CertifyError.{CertifyError}
use Rattle.certify_making.specs.declared.error.CertifyError.TheVariants.{OutOfMemory, TooLarge}
use Rattle.certify_making.specs.declared.notes.Key.{Key}
use Rattle.certify_making.specs.declared.notes.Notes.{Notes}
use Rattle.certify_making.specs.Adding.{Added, CannotAddEach, IsOverfull}
use Rattle.certify_making.specs.Notes.{HasKey, HasNote}
use Rattle.certify_making.specs.Pairs.{CannotTurn, HasTurn, IsFound, NotesMore}

-- what two additions to nothing have found
pub found_both : (old mid new : List FactLine) (P Q : FactLine → Type 0) → old ≡ [] → Adds old mid P → Adds mid new Q → (y : FactLine) → Contains new y ↔ (P y ⊎ Q y)
found_both old mid new P Q empty p q y = (
  λ has. elim ((q.is y).0 has) as (λ _. P y ⊎ Q y) [
    | inl in_mid ↦ elim ((p.is y).0 in_mid) as (λ _. P y ⊎ Q y) [ inl none ↦ absurd (omega (arith, none.1, ap length empty)) | inr is ↦ inl is ]
    | inr is ↦ inr is
  ],
  λ s. elim s as (λ _. Contains new y) [ inl is ↦ (q.is y).1 (inl ((p.is y).1 (inr is))) | inr is ↦ (q.is y).1 (inr is) ],
)

module _ (g : Graph) (x : Fact) (r : ℕ) where
  pub noted_more : (old new : Notes) (key : Key) → ((k : Key) → (Some key ≡ Some k) ↔ HasKey g x k) → ((k : Key) (n : ℕ) → HasNote new k n ↔ (HasNote old k n ⊎ ((k ≡ key) × (n ≡ r)))) → NotesMore g x r old new
  noted_more old new key keyed added k n = (
    λ has. elim ((added k n).0 has) as (λ _. HasNote old k n ⊎ (HasKey g x k × (n ≡ r))) [
      | inl was ↦ inl was
      | inr here ↦ inr (subst (HasKey g x) (sym here.0) ((keyed key).0 refl), here.1)
    ],
    λ s. elim s as (λ _. HasNote new k n) [
      | inl was ↦ (added k n).1 (inl was)
      | inr here ↦
          let same : k ≡ key = let both : Some key ≡ Some k = (keyed k).1 here.0 in cc in
          (added k n).1 (inr (same, here.1))
    ],
  )

  pub noted_same : (old : Notes) → ((k : Key) → (None ≡ Some k) ↔ HasKey g x k) → NotesMore g x r old old
  noted_same old keyed k n = (
    λ has. inl has,
    λ s. elim s as (λ _. HasNote old k n) [
      | inl was ↦ was
      | inr here ↦ let both : None ≡ Some k = (keyed k).1 here.0 in absurd cc
    ],
  )

-- what was found of the lines is added to them
module _ (g : Graph) (t : List Event) (x : Fact) (r : ℕ) (lines seen : List FactLine) (notes : Notes) (found given : List FactLine) (seen_is : seen ≡ lines) (given_is : given ≡ found)
    (are : (l : FactLine) → Contains found l ↔ IsFound g t seen notes x r l) where
  all_found : (l : FactLine) → Contains found l ↔ IsFound g t lines notes x r l
  all_found = subst (λ ls. (l : FactLine) → Contains found l ↔ IsFound g t ls notes x r l) seen_is are

  pub turn_made : (lines' : List FactLine) (notes' : Notes) → Added lines given lines' → NotesMore g x r notes notes' → HasTurn g t x r lines notes lines' notes'
  turn_made lines' notes' added noted = record { found = found; are = all_found; added = subst (λ ls. Added lines ls lines') given_is added; noted = noted }

  -- why a fact had no turn
  pub cannot_turn : (error : CertifyError) → CannotAddEach given lines error → CannotTurn g t x r lines notes error
  cannot_turn OutOfMemory why = tt
  cannot_turn TooLarge why = record { found = found; are = all_found; overfull = subst (λ ls. IsOverfull ls lines) given_is why }
