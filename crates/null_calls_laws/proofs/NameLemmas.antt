-- Names of temporaries are read back, and may be declared.
use Rattle.std.proofs.Common.{◌≡◌, ℕ, zero, suc, ◌+◌, ◌-◌, ◌*◌, ◌/◌, ◌%◌, ◌<◌, nat_lt, nat_le, nat_eq, if◌then◌else◌, Bool, true, false, ◌&&◌, ◌||◌, [], ◌∷◌, ◌++◌, sym, ap, ◌∙◌, refl, arith}
use Rattle.std.proofs.lemmas.Bool.{false≢true, false_from_ne_true}
use Rattle.std.proofs.lemmas.Bool.Decides.{nat_tests}
use Rattle.sys_table.specs.Table.{table}
use Rattle.c_rules.specs.Names.{Name, is_digit, are_digits, is_number, is_rest_of_pair, is_pair}
use Rattle.null_calls_laws.specs.Temporaries.{digits_within, digits_of}
use Rattle.null_calls_laws.specs.TemporaryNames.{NamesAreFree, NamesDiffer}
use Rattle.c_meaning.proofs.Members.{and_both, and_left, and_right, below}

-- ## Digits are digits

digit : (d : ℕ) → d < 10 → is_digit (48 + d) ≡ true
digit d h = and_both (nat_le 48 (48 + d)) (nat_le (48 + d) 57) (grind (arith, nat_tests)) (grind (arith, nat_tests))

one_more : (xs : Name) (d : ℕ) → are_digits xs ≡ true → is_digit d ≡ true → are_digits (xs ++ d ∷ []) ≡ true
one_more [] d h k = ap (λ b. b && true) k
one_more (x ∷ xs) d h k =
    ap (λ b. b && are_digits (xs ++ d ∷ [])) (and_left (is_digit x) (are_digits xs) h) ∙ one_more xs d (and_right (is_digit x) (are_digits xs) h) k

digits_are : (k n : ℕ) → are_digits (digits_within k n) ≡ true
digits_are zero n = refl
digits_are (suc k) n = by (nat_lt n 10) refl (digits_are k (n / 10))
  where
    by : (b : Bool) → nat_lt n 10 ≡ b → are_digits (digits_within k (n / 10)) ≡ true → are_digits (if b then (48 + n) ∷ [] else digits_within k (n / 10) ++ (48 + n % 10) ∷ []) ≡ true
    by true e h = one_more [] (48 + n) refl (digit n (below n 10 e))
    by false e h = one_more (digits_within k (n / 10)) (48 + n % 10) h (digit (n % 10) (omega arith))

-- there is one at least
abbrev is_there : Name → Bool
is_there [] = false
is_there (x ∷ xs) = true

ends : (xs : Name) (d : ℕ) → is_there (xs ++ d ∷ []) ≡ true
ends [] d = refl
ends (x ∷ xs) d = refl

digits_there : (n : ℕ) → is_there (digits_of n) ≡ true
digits_there n = by (nat_lt n 10)
  where
    by : (b : Bool) → is_there (if b then (48 + n) ∷ [] else digits_within 9 (n / 10) ++ (48 + n % 10) ∷ []) ≡ true
    by true = refl
    by false = ends (digits_within 9 (n / 10)) (48 + n % 10)

number : (xs : Name) → is_there xs ≡ true → are_digits xs ≡ true → is_number xs ≡ true
number [] h k = absurd (false≢true h)
number (x ∷ xs) h k = k

digits_number : (n : ℕ) → is_number (digits_of n) ≡ true
digits_number n = number (digits_of n) (digits_there n) (digits_are 10 n)

-- a digit is no underscore
no_underscore : (d : ℕ) → is_digit d ≡ true → nat_eq d 95 ≡ false
no_underscore d h = let high : nat_le d 57 ≡ true = and_right (nat_le 48 d) (nat_le d 57) h in false_from_ne_true (nat_eq d 95) (λ e. grind (arith, nat_tests))

rest_of_pair : (xs ys : Name) → are_digits xs ≡ true → is_number ys ≡ true → is_rest_of_pair (xs ++ 95 ∷ ys) ≡ true
rest_of_pair [] ys h k = k
rest_of_pair (x ∷ xs) ys h k =
    ap (λ b. if b then is_number (xs ++ 95 ∷ ys) else is_digit x && is_rest_of_pair (xs ++ 95 ∷ ys)) (no_underscore x (and_left (is_digit x) (are_digits xs) h)) ∙ (ap (λ b. b && is_rest_of_pair (xs ++ 95 ∷ ys)) (and_left (is_digit x) (are_digits xs) h) ∙ rest_of_pair xs ys (and_right (is_digit x) (are_digits xs) h) k)

pair : (xs ys : Name) → is_there xs ≡ true → are_digits xs ≡ true → is_number ys ≡ true → is_pair (xs ++ 95 ∷ ys) ≡ true
pair [] ys t h k = absurd (false≢true t)
pair (x ∷ xs) ys t h k =
    ap (λ b. b && is_rest_of_pair (xs ++ 95 ∷ ys)) (and_left (is_digit x) (are_digits xs) h) ∙ rest_of_pair xs ys (and_right (is_digit x) (are_digits xs) h) k

pub names_are_free : NamesAreFree
unfolding table
names_are_free site i = record {
  designator = record { added = refl; declarable = ap (λ b. b || false) (digits_number site); other = refl };
  argument = record { added = refl; declarable = pair (digits_of site) (digits_of i) (digits_there site) (digits_are 10 site) (digits_number i); other = refl };
  result = record { added = refl; declarable = ap (λ b. b || false) (digits_number site); other = refl };
}

-- ## Digits are read back

abbrev value_from : ℕ → Name → ℕ
value_from n [] = n
value_from n (d ∷ ds) = value_from (10 * n + (d - 48)) ds

value_more : (n d : ℕ) (xs : Name) → value_from n (xs ++ d ∷ []) ≡ 10 * value_from n xs + (d - 48)
value_more n d [] = refl
value_more n d (x ∷ xs) = value_more (10 * n + (x - 48)) d xs

-- at most so many digits
abbrev IsShort : (k n : ℕ) → Type 0
IsShort zero n = n ≡ 0
IsShort (suc k) n = IsShort k (n / 10)

read_back : (k n : ℕ) → IsShort k n → value_from 0 (digits_within k n) ≡ n
read_back zero n h = sym h
read_back (suc k) n h = by (nat_lt n 10) (read_back k (n / 10) h)
  where
    by : (b : Bool) → value_from 0 (digits_within k (n / 10)) ≡ n / 10 → value_from 0 (if b then (48 + n) ∷ [] else digits_within k (n / 10) ++ (48 + n % 10) ∷ []) ≡ n
    by true e = let f : 10 * 0 + (48 + n - 48) ≡ n = omega arith in f
    by false e =
        value_more 0 (48 + n % 10) (digits_within k (n / 10)) ∙ (ap (λ m. 10 * m + (48 + n % 10 - 48)) e ∙ (let f : 10 * (n / 10) + (48 + n % 10 - 48) ≡ n = omega arith in f))

tenth : (n m : ℕ) → n < 10 * m → n / 10 < m
tenth n m h = omega (arith, h)

none_left : (n : ℕ) → n < 1 → n ≡ 0
none_left n h = omega (arith, h)

short : (n : ℕ) → n < 10000000000 → IsShort 10 n
short n h =
    none_left _ (tenth _ 1 (tenth _ 10 (tenth _ 100 (tenth _ 1000 (tenth _ 10000 (tenth _ 100000 (tenth _ 1000000 (tenth _ 10000000 (tenth _ 100000000 (tenth n 1000000000 h))))))))))

same_digits : (m n : ℕ) → m < 10000000000 → n < 10000000000 → digits_of m ≡ digits_of n → m ≡ n
same_digits m n h k e = sym (read_back 10 m (short m h)) ∙ (ap (value_from 0) e ∙ read_back 10 n (short n k))

-- ## Names are read back

-- what stands before the first underscore, and behind it
abbrev before_underscore : Name → Name
before_underscore [] = []
before_underscore (x ∷ xs) = if nat_eq x 95 then [] else x ∷ before_underscore xs

abbrev behind_underscore : Name → Name
behind_underscore [] = []
behind_underscore (x ∷ xs) = if nat_eq x 95 then xs else behind_underscore xs

before_is : (xs ys : Name) → are_digits xs ≡ true → before_underscore (xs ++ 95 ∷ ys) ≡ xs
before_is [] ys h = refl
before_is (x ∷ xs) ys h =
    ap (λ b. if b then [] else x ∷ before_underscore (xs ++ 95 ∷ ys)) (no_underscore x (and_left (is_digit x) (are_digits xs) h)) ∙ ap (λ zs. x ∷ zs) (before_is xs ys (and_right (is_digit x) (are_digits xs) h))

behind_is : (xs ys : Name) → are_digits xs ≡ true → behind_underscore (xs ++ 95 ∷ ys) ≡ ys
behind_is [] ys h = refl
behind_is (x ∷ xs) ys h =
    ap (λ b. if b then xs ++ 95 ∷ ys else behind_underscore (xs ++ 95 ∷ ys)) (no_underscore x (and_left (is_digit x) (are_digits xs) h)) ∙ behind_is xs ys (and_right (is_digit x) (are_digits xs) h)

-- what stands behind the first eight characters, and the eighth of them
abbrev behind_eight : Name → Name
behind_eight (a ∷ b ∷ c ∷ d ∷ e ∷ f ∷ g ∷ h ∷ xs) = xs
behind_eight xs = []

abbrev eighth : Name → ℕ
eighth (a ∷ b ∷ c ∷ d ∷ e ∷ f ∷ g ∷ h ∷ xs) = h
eighth xs = 0

other_letter : (a b : ℕ) → nat_eq a b ≡ false → a ≡ b → ⊥
other_letter a b h e = absurd (grind (arith, nat_tests))

pub names_differ : NamesDiffer
names_differ s t i j hs ht hi hj = record {
  designators = λ e. same_digits s t hs ht (ap behind_eight e);
  results = λ e. same_digits s t hs ht (ap behind_eight e);
  arguments = λ e.
      let rest = ap behind_eight e in
      (same_digits s t hs ht (sym (before_is (digits_of s) (digits_of i) (digits_are 10 s)) ∙ (ap before_underscore rest ∙ before_is (digits_of t) (digits_of j) (digits_are 10 t))), same_digits i j hi hj (sym (behind_is (digits_of s) (digits_of i) (digits_are 10 s)) ∙ (ap behind_underscore rest ∙ behind_is (digits_of t) (digits_of j) (digits_are 10 t))));
  designator_argument = λ e. other_letter 102 97 refl (ap eighth e);
  designator_result = λ e. other_letter 102 114 refl (ap eighth e);
  argument_result = λ e. other_letter 97 114 refl (ap eighth e);
}
