-- Digits of numbers.
use Rattle.std.proofs.Common.{◌≡◌, ℕ, zero, suc, ◌+◌, ◌-◌, ◌<◌, ◌≤◌, Bool, true, false, nat_lt, refl, List, [], ◌∷◌, ◌++◌, sym, ap, ◌∙◌, arith}
use Rattle.std.specs.Prelude.{◌/◌, ◌%◌, if◌then◌else◌}
use Rattle.std.proofs.lemmas.Bool.{ltb-true}
use Rattle.std.proofs.lemmas.List.{append_assoc}
use Rattle.null_calls_laws.specs.Temporaries.{digits_within}

above : (n m : ℕ) → m ≤ n → nat_lt n m ≡ false
above n m h = by (nat_lt n m) refl
  where
    by : (b : Bool) → nat_lt n m ≡ b → nat_lt n m ≡ false
    by true e = absurd (let lt = ltb-true n m e in omega (arith, lt, h))
    by false e = e

more_digits : (k n : ℕ) → 0 < k → 10 ≤ n → digits_within k n ≡ digits_within (k - 1) (n / 10) ++ (48 + n % 10) ∷ []
more_digits zero n h le = absurd (omega (arith, h))
more_digits (suc k) n h le =
    let less : k ≡ suc k - 1 = omega arith in
    ap (λ t. if t then (48 + n) ∷ [] else digits_within k (n / 10) ++ (48 + n % 10) ∷ []) (above n 10 le) ∙ ap (λ j. digits_within j (n / 10) ++ (48 + n % 10) ∷ []) less

-- the last digit
pub last_digit : (k n d : ℕ) (old mid new : List ℕ) → 0 < k → 10 ≤ n → mid ≡ old ++ digits_within (k - 1) (n / 10) → new ≡ mid ++ d ∷ [] → d ≡ 48 + n % 10 → new ≡ old ++ digits_within k n
last_digit k n d old mid new some le front step digit =
    step ∙ (ap (λ xs. xs ++ d ∷ []) front ∙ (ap (λ e. (old ++ digits_within (k - 1) (n / 10)) ++ e ∷ []) digit
    ∙ (append_assoc old (digits_within (k - 1) (n / 10)) ((48 + n % 10) ∷ []) ∙ ap (λ xs. old ++ xs) (sym (more_digits k n some le)))))
