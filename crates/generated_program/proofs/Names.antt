-- The names of the generated program. Those of its functions are the letter f and the digits of a number: they are names of the language,
-- no system call has one of them, and they differ where the numbers do.
use Rattle.std.proofs.Common.{◌≡◌, ◌⊎◌, inl, inr, ℕ, zero, suc, ◌+◌, ◌%◌, ◌<◌, ◌≤◌, Bool, true, false, not, ◌&&◌, List, [], ◌∷◌, ◌++◌, length, get_or, Some, None, All, Contains, codes, decimal, refl, sym, ap, ap₂, subst, arith}
use Rattle.std.specs.Prelude.{nat_le, option_map, bytes_eq, if◌then◌else◌}
use Rattle.std.proofs.lemmas.Bool.{both_ways, not-true, and_parts, false_from_ne_true, le-leb, leb-true}
use Rattle.std.proofs.lemmas.Fmt.{decimal_by_steps, decimal_injective, length-decimal-le}
use Rattle.std.proofs.lemmas.List.{append_cancel_left}
use Rattle.std.proofs.lemmas.List.Elements.{All-nil, All-cons, All-append, All-weaker}
use Rattle.std.proofs.lemmas.Nat.{mod_below}
use Rattle.std.proofs.lemmas.Slice.Eq.{bytes_eq-Decides}
use Rattle.dm_base.specs.Name.{IsDigit, IsLetter, IsName, keywords}
use Rattle.sys_table.specs.Table.{table}
use Rattle.c_rules.specs.Names.{Name, number_among, system_calls}
use Rattle.generated_program.specs.Generator.{function_name}
pub use Rattle.c_rules_laws.proofs.DistinctNames.{itself}

-- ## Comparing names

other : (y x : Name) → (y ≡ x → ⊥) → bytes_eq y x ≡ false
other y x unlike = false_from_ne_true (bytes_eq y x) (λ t. unlike ((bytes_eq-Decides y x).0 t))

-- ## Digits

record HasDigits (w : List ℕ) : Type 0 where
  first : ℕ
  rest : List ℕ
  is : w ≡ first ∷ rest
  small : first ≤ 57
  digits : All IsDigit w

one_digit : (n : ℕ) → n < 10 → HasDigits ((48 + n) ∷ [])
one_digit n below = record {
  first = 48 + n;
  rest = [];
  is = refl;
  small = omega (arith, below);
  digits = All-cons IsDigit (48 + n) [] (omega (arith, below), omega (arith, below)) (All-nil IsDigit);
}

one_more : (n : ℕ) (ds : List ℕ) → 10 ≤ n → HasDigits ds → HasDigits (ds ++ ((48 + n % 10) ∷ []))
one_more n ds large h =
    let below : n % 10 < 10 = mod_below n 10 (omega arith) in
    record {
      first = h.first;
      rest = h.rest ++ ((48 + n % 10) ∷ []);
      is = ap (λ w. w ++ ((48 + n % 10) ∷ [])) h.is;
      small = h.small;
      digits = All-append IsDigit ds ((48 + n % 10) ∷ []) h.digits (All-cons IsDigit (48 + n % 10) [] (omega (arith, below), omega (arith, below)) (All-nil IsDigit));
    }

has_digits : (n : ℕ) → n < 500 → HasDigits (decimal n)
has_digits n below = decimal_by_steps (λ k w. HasDigits w) one_digit one_more n (omega (arith, below))

-- ## A word whose second byte is no letter is none of those that have letters there

abbrev has_small_second : List ℕ → Bool
has_small_second [] = false
has_small_second (a ∷ []) = false
has_small_second (a ∷ b ∷ w) = nat_le b 57

abbrev none_has : List (List ℕ) → Bool
none_has [] = true
none_has (w ∷ ws) = not (has_small_second w) && none_has ws

unlike_one : (w x : List ℕ) → not (has_small_second w) ≡ true → has_small_second x ≡ true → w ≡ x → ⊥
unlike_one w x h k e = both_ways (has_small_second w) (not-true (has_small_second w) h) (subst (λ y. has_small_second y ≡ true) (sym e) k)

none_among : (ws : List Name) → none_has ws ≡ true → (x : Name) → has_small_second x ≡ true → number_among ws x ≡ None
none_among [] h x k = refl
none_among (w ∷ ws) h x k =
    let p = and_parts (not (has_small_second w)) (none_has ws) h in
    ap₂ (λ b o. if b then Some 0 else option_map suc o) (other w x (unlike_one w x p.0 k)) (none_among ws p.1 x k)

none_in : (ws : List Name) → none_has ws ≡ true → (x : Name) → has_small_second x ≡ true → Contains ws x → ⊥
none_in [] h x k (i, below, e) = omega (arith, below)
none_in (w ∷ ws) h x k (zero, below, e) = unlike_one w x (and_parts (not (has_small_second w)) (none_has ws) h).0 k e
none_in (w ∷ ws) h x k (suc i, below, e) = none_in ws (and_parts (not (has_small_second w)) (none_has ws) h).1 x k (i, omega (arith, below), e)

name_has : (n : ℕ) → n < 500 → has_small_second (function_name n) ≡ true
name_has n below =
    let h : HasDigits (decimal n) = has_digits n below in
    subst (λ w. has_small_second (102 ∷ w) ≡ true) (sym h.is) (le-leb h.first 57 h.small)

-- ## Names of functions

-- no system call has it
pub not_given : (n : ℕ) → n < 500 → number_among system_calls (function_name n) ≡ None
unfolding table
not_given n below = none_among system_calls refl (function_name n) (name_has n below)

pub names_differ : (m n : ℕ) → m < 500 → n < 500 → (m ≡ n → ⊥) → bytes_eq (function_name m) (function_name n) ≡ false
names_differ m n below below_too unlike =
    other (function_name m) (function_name n) (λ e. unlike (decimal_injective m n (omega (arith, below)) (omega (arith, below_too)) (append_cancel_left (codes "f") (decimal m) (decimal n) e)))

small_letter : (b : ℕ) → 97 ≤ b → b ≤ 122 → IsLetter b
small_letter b l m = inr (inl (l, m))

pub function_named : (n : ℕ) → n < 500 → IsName (function_name n)
function_named n below =
    let h : HasDigits (decimal n) = has_digits n below in
    let long : length (decimal n) ≤ 3 = length-decimal-le 3 n (omega arith) (omega (arith, below)) (omega (arith, below)) in
    record {
      some = omega arith;
      short = omega (arith, long);
      begins = λ b rest e. let same : 102 ≡ b = ap (λ w. get_or w 0 0) e in small_letter b (omega (arith, same)) (omega (arith, same));
      bytes = All-cons (λ b. IsLetter b ⊎ IsDigit b) 102 (decimal n) (inl (small_letter 102 (omega arith) (omega arith))) (All-weaker IsDigit (λ b. IsLetter b ⊎ IsDigit b) (λ b d. inr d) (decimal n) h.digits);
      free = none_in keywords refl (function_name n) (name_has n below);
    }

-- ## Other names

abbrev are_letters : List ℕ → Bool
are_letters [] = true
are_letters (b ∷ w) = (nat_le 97 b && nat_le b 122) && are_letters w

letters : (w : List ℕ) → are_letters w ≡ true → All (λ b. IsLetter b ⊎ IsDigit b) w
letters [] h = All-nil (λ b. IsLetter b ⊎ IsDigit b)
letters (b ∷ w) h =
    let p = and_parts (nat_le 97 b && nat_le b 122) (are_letters w) h in
    let q = and_parts (nat_le 97 b) (nat_le b 122) p.0 in
    All-cons (λ c. IsLetter c ⊎ IsDigit c) b w (inl (small_letter b (leb-true 97 b q.0) (leb-true b 122 q.1))) (letters w p.1)

abbrev all_differ : List Name → Name → Bool
all_differ [] x = true
all_differ (w ∷ ws) x = not (bytes_eq w x) && all_differ ws x

no_member : (ws : List Name) (x : Name) → all_differ ws x ≡ true → Contains ws x → ⊥
no_member [] x h (i, below, e) = omega (arith, below)
no_member (w ∷ ws) x h (zero, below, e) = both_ways (bytes_eq w x) (not-true (bytes_eq w x) (and_parts (not (bytes_eq w x)) (all_differ ws x) h).0) ((bytes_eq-Decides w x).1 e)
no_member (w ∷ ws) x h (suc i, below, e) = no_member ws x (and_parts (not (bytes_eq w x)) (all_differ ws x) h).1 (i, omega (arith, below), e)

first_letter : (b : ℕ) (w : List ℕ) → are_letters (b ∷ w) ≡ true → IsLetter b
first_letter b w h =
    let q = and_parts (nat_le 97 b) (nat_le b 122) (and_parts (nat_le 97 b && nat_le b 122) (are_letters w) h).0 in
    small_letter b (leb-true 97 b q.0) (leb-true b 122 q.1)

-- small letters that are no keyword
pub named : (b : ℕ) (w : List ℕ) → are_letters (b ∷ w) ≡ true → length w ≤ 62 → all_differ keywords (b ∷ w) ≡ true → IsName (b ∷ w)
named b w h short unlike = record {
  some = omega arith;
  short = omega (arith, short);
  begins = λ c rest e. let same : b ≡ c = ap (λ v. get_or v 0 0) e in subst IsLetter same (first_letter b w h);
  bytes = letters (b ∷ w) h;
  free = no_member keywords (b ∷ w) unlike;
}

pub getpid_named : IsName (codes "getpid")
getpid_named = named 103 (codes "etpid") refl (omega arith) refl

pub getppid_named : IsName (codes "getppid")
getppid_named = named 103 (codes "etppid") refl (omega arith) refl

pub main_named : IsName (codes "main")
main_named = named 109 (codes "ain") refl (omega arith) refl

pub counter_named : IsName (codes "i")
counter_named = named 105 [] refl (omega arith) refl
