-- The names of the instrumenter are identifiers (C99 6.4.2.1): they have at most 63 characters.
use Rattle.std.proofs.Common.{◌≡◌, inl, inr, ℕ, zero, suc, ◌+◌, ◌/◌, ◌%◌, ◌<◌, ◌≤◌, nat_lt, nat_eq, Bool, true, false, not, ◌&&◌, List, [], ◌∷◌, ◌++◌, length, All, Contains, codes, refl, sym, subst, true≢false, arith}
use Rattle.std.proofs.lemmas.List.Sums.{AllPass-from_list_all}
use Rattle.std.proofs.lemmas.List.{length-append}
use Rattle.std.proofs.lemmas.List.Elements.{All-nil, All-cons, All-append, All-from_recursion}
use Rattle.dm_base.specs.Name.{IsName, keywords}
use Rattle.c_lexer.specs.Words.{IsWordByte}
use Rattle.null_calls_laws.specs.Temporaries.{digits_within, digits_of, pre_name, post_name, designator_name, argument_name, result_name}
use Rattle.c_meaning.proofs.Lists.{below, if_has}

-- ## No keyword begins with two underscores

abbrev begins_twice : List ℕ → Bool
begins_twice (a ∷ b ∷ w) = nat_eq a 95 && nat_eq b 95
begins_twice w = false

none_begins : (x : List ℕ) → Contains keywords x → not (begins_twice x) ≡ true
none_begins x k =
    subst (λ y. not (begins_twice y) ≡ true) k.2 (AllPass-from_list_all (λ w. not (begins_twice w)) keywords refl k.0 x k.1)

-- two underscores and then letters and digits, 63 characters at most
begun : (w : List ℕ) → All IsWordByte (95 ∷ 95 ∷ w) → length w ≤ 61 → IsName (95 ∷ 95 ∷ w)
begun w h short = record {
  some = omega arith;
  short = omega (arith, short);
  begins = λ b rest e. let same : 95 ≡ b = cc in inr (inr (sym same));
  bytes = h;
  free = λ k. true≢false (sym (none_begins (95 ∷ 95 ∷ w) k));
}

-- ## Letters and digits

underscore : IsWordByte 95
underscore = inl (inr (inr refl))

letter : (b : ℕ) → 97 ≤ b → b ≤ 122 → IsWordByte b
letter b l m = inl (inr (inl (l, m)))

begins_so : All IsWordByte (codes "__dyck_")
begins_so = All-from_recursion IsWordByte (codes "__dyck_") (underscore, (underscore, (letter 100 (omega arith) (omega arith), (letter 121 (omega arith) (omega arith), (letter 99 (omega arith) (omega arith), (letter 107 (omega arith) (omega arith), (underscore, tt)))))))

-- `__dyck_` and a letter
dyck : (b : ℕ) → 97 ≤ b → b ≤ 122 → (w : List ℕ) → All IsWordByte w → All IsWordByte (codes "__dyck_" ++ b ∷ w)
dyck b l m w h = All-append IsWordByte (codes "__dyck_") (b ∷ w) begins_so (All-cons IsWordByte b w (letter b l m) h)

digit : (d : ℕ) → d < 10 → All IsWordByte ((48 + d) ∷ [])
digit d h = All-cons IsWordByte (48 + d) [] (inr (omega (arith, h), omega (arith, h))) (All-nil IsWordByte)

digits_bytes : (k n : ℕ) → All IsWordByte (digits_within k n)
digits_bytes zero n = All-nil IsWordByte
digits_bytes (suc k) n =
    if_has (λ w. All IsWordByte w) (nat_lt n 10) ((48 + n) ∷ []) (digits_within k (n / 10) ++ (48 + n % 10) ∷ []) (λ e. digit n (below n 10 e)) (λ e. All-append IsWordByte (digits_within k (n / 10)) ((48 + n % 10) ∷ []) (digits_bytes k (n / 10)) (digit (n % 10) (omega arith)))

digits_short : (k n : ℕ) → length (digits_within k n) ≤ k
digits_short zero n = omega arith
digits_short (suc k) n =
    let s = digits_short k (n / 10) in
    let e : length (digits_within k (n / 10) ++ (48 + n % 10) ∷ []) ≡ length (digits_within k (n / 10)) + 1 = length-append (digits_within k (n / 10)) ((48 + n % 10) ∷ []) in
    if_has (λ w. length w ≤ suc k) (nat_lt n 10) ((48 + n) ∷ []) (digits_within k (n / 10) ++ (48 + n % 10) ∷ []) (λ b. omega arith) (λ b. omega (arith, s, e))

-- ## The names

pub pre_named : IsName pre_name
pre_named = begun (codes "dyck_pre") (dyck 112 (omega arith) (omega arith) (codes "re") (All-from_recursion IsWordByte (codes "re") (letter 114 (omega arith) (omega arith), (letter 101 (omega arith) (omega arith), tt)))) (omega arith)

pub post_named : IsName post_name
post_named = begun (codes "dyck_post") (dyck 112 (omega arith) (omega arith) (codes "ost") (All-from_recursion IsWordByte (codes "ost") (letter 111 (omega arith) (omega arith), (letter 115 (omega arith) (omega arith), (letter 116 (omega arith) (omega arith), tt))))) (omega arith)

pub designator_named : (site : ℕ) → IsName (designator_name site)
designator_named site = begun (codes "dyck_f" ++ digits_of site) (dyck 102 (omega arith) (omega arith) (digits_of site) (digits_bytes 10 site)) (let s = digits_short 10 site in omega (arith, s))

pub result_named : (site : ℕ) → IsName (result_name site)
result_named site = begun (codes "dyck_r" ++ digits_of site) (dyck 114 (omega arith) (omega arith) (digits_of site) (digits_bytes 10 site)) (let s = digits_short 10 site in omega (arith, s))

pub argument_named : (site i : ℕ) → IsName (argument_name site i)
argument_named site i =
    let rest : List ℕ = digits_of site ++ (codes "_" ++ digits_of i) in
    let bytes : All IsWordByte rest = All-append IsWordByte (digits_of site) (codes "_" ++ digits_of i) (digits_bytes 10 site) (All-cons IsWordByte 95 (digits_of i) underscore (digits_bytes 10 i)) in
    let long : length rest ≡ length (digits_of site) + length (codes "_" ++ digits_of i) = length-append (digits_of site) (codes "_" ++ digits_of i) in
    let s = digits_short 10 site in
    let t = digits_short 10 i in
    begun (codes "dyck_a" ++ rest) (dyck 97 (omega arith) (omega arith) rest bytes) (omega (arith, long, s, t))
