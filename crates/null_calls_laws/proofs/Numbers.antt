-- Numbers of variables in the two units.
use Rattle.std.proofs.Common.{◌≡◌, suc, Bool, true, false, if◌then◌else◌, [], ◌∷◌, ap, ◌∙◌, sym}
use Rattle.c_rules.specs.Names.{Name, is_added}
use Rattle.c_rules.specs.Variables.{Next, number_in, past_name}
use Rattle.null_calls_laws.specs.DeclarationsBeside.{SameNumber, NumbersStay}

pub past_same : (n m : Next) (x : Name) → SameNumber n m → SameNumber (past_name n x) (past_name m x)
past_same n m x h = by_test (is_added x)
  where
    by_test : (b : Bool) → SameNumber (if b then record n { added = suc n.added } else record n { plain = suc n.plain }) (if b then record m { added = suc m.added } else record m { plain = suc m.plain })
    by_test true = h
    by_test false = ap suc h

pub numbers_stay : NumbersStay
numbers_stay n m [] h = h
numbers_stay n m (x ∷ xs) h = numbers_stay (past_name n x) (past_name m x) xs (past_same n m x h)

-- the number of a variable that isn't the instrumenter's
pub plain_number : (n : Next) (x : Name) → is_added x ≡ false → number_in n x ≡ n.plain
plain_number n x h = ap (λ b. if b then n.added else n.plain) h

pub number_same : (n m : Next) (x : Name) → is_added x ≡ false → SameNumber n m → number_in m x ≡ number_in n x
number_same n m x a h = plain_number m x a ∙ (h ∙ sym (plain_number n x a))
