-- An integer constant has one number.
use Rattle.std.proofs.Common.{◌≡◌, ℕ, List, [], ◌∷◌, ◌++◌, Bool, true, false, refl, sym, ap, ◌∙◌, subst, inl, inr, ⊎_elim, arith, Some, append-nil, cond, not, nat_eq, get_or}
use Rattle.std.specs.Prelude.{◌⊎◌}
use Rattle.std.specs.Str.Parse.{digits_value}
use Rattle.std.proofs.lemmas.Bool.{ne_eqb}
use Rattle.c_lexer.proofs.EscapeDigits.{octal_range}
use Rattle.c_lexer.proofs.NumberParts.{suffixed_parts}
use Rattle.c_lexer.specs.Literals.{IsConstant, type_of, HasNumber}

-- the number that a text has, and whether it is decimal, as functions
abbrev value_after_zero : List ℕ → ℕ
value_after_zero [] = 0
value_after_zero (x ∷ ds) = cond (nat_eq x 120) (digits_value 16 ds) (cond (nat_eq x 88) (digits_value 16 ds) (digits_value 8 (x ∷ ds)))

abbrev number_value : List ℕ → ℕ
number_value [] = 0
number_value (d ∷ w) = cond (nat_eq d 48) (value_after_zero w) (digits_value 10 (d ∷ w))

number_is : (w : List ℕ) (n : ℕ) (decimal : Bool) → HasNumber w n decimal → (n ≡ number_value w) × (decimal ≡ not (nat_eq (get_or w 0 0) 48))
number_is [] n true h = absurd h
number_is (d ∷ w) n true (first, all, value) = rw (ne_eqb d 48 first) (value, refl)
number_is w n false (inl ([], is, all, value)) = rw is (value, refl)
number_is w n false (inl (x ∷ ds, is, all, value)) =
    let range = octal_range x all.0 in
    rw (is, ne_eqb x 120 (λ e. omega (arith, range)), ne_eqb x 88 (λ e. omega (arith, range))) (value, refl)
number_is w n false (inr (x, ds, is, inl e, some, all, value)) = rw (is, e) (value, refl)
number_is w n false (inr (x, ds, is, inr e, some, all, value)) = rw (is, e) (value, refl)

one_number : (w : List ℕ) (n m : ℕ) (a b : Bool) → HasNumber w n a → HasNumber w m b → (n ≡ m) × (a ≡ b)
one_number w n m a b p q =
    let one = number_is w n a p in
    let other = number_is w m b q in
    (one.0 ∙ sym other.0, one.1 ∙ sym other.1)

-- what stands before a suffix is the same
suffix_of : (w : List ℕ) (n : ℕ) (a : Bool) (p : IsConstant w n a true) → (u : ℕ) × (w ≡ p.digits ++ u ∷ []) × ((u ≡ 117) ⊎ (u ≡ 85))
suffix_of w n a p =
    ⊎_elim (λ e. (117, p.is ∙ ap (λ v. p.digits ++ v) e, inl refl)) (λ e. (85, p.is ∙ ap (λ v. p.digits ++ v) e, inr refl)) p.ended

bare : (w : List ℕ) (n : ℕ) (a : Bool) (p : IsConstant w n a false) → w ≡ p.digits
bare w n a p = p.is ∙ ap (λ v. p.digits ++ v) p.ended ∙ append-nil p.digits

one_suffixed : (w : List ℕ) (n m : ℕ) (a c d : Bool) → IsConstant w n a true → IsConstant w m c d → (n ≡ m) × (a ≡ c) × (true ≡ d)
one_suffixed w n m a c d p q =
    let (u, is, marks) = suffix_of w n a p in
    let (suffixed, has) = suffixed_parts w p.digits u m c d is marks q in
    let number = one_number p.digits n m a c p.number has in
    (number.0, number.1, sym suffixed)

-- a text is one integer constant
pub one_constant : (w : List ℕ) (n m : ℕ) (a b c d : Bool) → IsConstant w n a b → IsConstant w m c d → (n ≡ m) × (a ≡ c) × (b ≡ d)
one_constant w n m a true c d p q = one_suffixed w n m a c d p q
one_constant w n m a false c true p q = let one = one_suffixed w m n c a false q p in (sym one.0, sym one.1, sym one.2)
one_constant w n m a false c false p q =
    let number = one_number p.digits n m a c p.number (subst (λ v. HasNumber v m c) (sym (bare w m c q) ∙ bare w n a p) q.number) in
    (number.0, number.1, refl)

some_same : (u v : Bool) → Some u ≡ Some v → u ≡ v
some_same u v e = cc

-- two kinds that a constant has are one
pub one_type : (w : List ℕ) (n m : ℕ) (a b c d u v : Bool) → IsConstant w n a b → type_of a b n ≡ Some u → IsConstant w m c d → type_of c d m ≡ Some v → (n ≡ m) × (u ≡ v)
one_type w n m a b c d u v p s q t =
    let one = one_constant w n m a b c d p q in
    let number : n ≡ m = one.0 in
    let decimal : a ≡ c = one.1 in
    let suffixed : b ≡ d = one.2 in
    let same : type_of a b n ≡ type_of c d m = ap (λ k. type_of a b k) number ∙ ap (λ k. type_of k b m) decimal ∙ ap (λ k. type_of c k m) suffixed in
    (number, some_same u v (sym s ∙ same ∙ t))
