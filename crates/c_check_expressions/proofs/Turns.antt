-- Parts that are checked one after another: the next of them, where something stands in front of what they give.
use Rattle.std.proofs.Common.{◌≡◌, refl, sym, subst, ◌∙◌}
use Rattle.c_check_types.specs.CheckError.{CheckError}
use Rattle.c_check_types.specs.Agreement.{Names}
use Rattle.c_check_types.proofs.Parts.{names_on, names_first}
use Rattle.c_rules.specs.Checked.{Checked, fine, faulty, faults, on, both}

first_fine : {A B C D : Type 0} (a : A) (q : Checked B) (f : A → B → Checked C) (g : C → Checked D) → on (both (fine a) q f) g ≡ on q (λ b. on (f a b) g)
first_fine a (fine b) f g = refl
first_fine a (faulty e es) f g = refl

module _ {A B C D : Type 0} (all : Checked D) (whole : Checked C) (p : Checked A) (q : Checked B) (f : A → B → Checked C) (g : C → Checked D) (before : all ≡ on whole g) (node : whole ≡ both p q f) where
  -- it is fine
  pub next_fine : (a : A) (h : B → Checked D) → p ≡ fine a → ((b : B) → on (f a b) g ≡ h b) → all ≡ on q h
  next_fine a h is step = before ∙ ((λ i. on (node i) g) ∙ ((λ i. on (both (is i) q f) g) ∙ (first_fine a q f g ∙ (λ i. on q (λ b. step b i)))))

  -- a demand on it fails
  pub next_fails : (e : CheckError) → Names e (faults p) → Names e (faults all)
  next_fails e n = subst (λ r. Names e (faults r)) (sym (before ∙ (λ i. on (node i) g))) (names_on e (both p q f) g (names_first e p q f n))
