-- Texts that hold no blank, and words of tables by tests that compute.
use Rattle.std.proofs.Common.{◌≡◌, ◌≢◌, ◌⊎◌, ◌≤◌, ◌<◌, ℕ, zero, suc, Bool, true, false, not, ◌&&◌, nat_eq, List, [], ◌∷◌, ◌++◌, length, get_or, All, Contains, Some, slice_get, refl, subst, inl, inr, arith}
use Rattle.std.specs.Prelude.{unwrap_or}
use Rattle.std.proofs.lemmas.Bool.{false≢true, and_parts, not-true, eqb-false}
use Rattle.std.proofs.lemmas.List.Elements.{All-nil, All-cons, All-head, All-tail}
use Rattle.c_lexer.specs.Name.{IsLetter, IsDigit}
use Rattle.c_lexer.specs.Words.{keywords, punctuators, IsWord, IsNumber, IsWordByte, IsNumberByte}
use Rattle.c_lexer.proofs.WordTables.{each}

-- a byte that stands after a printed token
abbrev pub IsEnd : ℕ → Type 0
IsEnd b = (b ≡ 10) ⊎ (b ≡ 32)

abbrev pub IsSolid : ℕ → Type 0
IsSolid b = IsEnd b → ⊥

-- a text without blanks at the front ends before the first blank
pub solid_short : (x w y rest : List ℕ) (b : ℕ) → IsEnd b → All IsSolid x → w ++ b ∷ rest ≡ x ++ y → length x ≤ length w
solid_short [] w y rest b end solid e = omega arith
solid_short (c ∷ x) [] y rest b end solid e =
    let same : b ≡ c = cc in
    absurd (All-head IsSolid c x solid (subst IsEnd same end))
solid_short (c ∷ x) (d ∷ w) y rest b end solid e =
    let later : w ++ b ∷ rest ≡ x ++ y = cc in
    omega (arith, solid_short x w y rest b end (All-tail IsSolid c x solid) later)

letter_solid : (b : ℕ) → IsLetter b → IsSolid b
letter_solid b (inr (inl h)) (inl e) = omega arith
letter_solid b a u = omega arith

digit_solid : (b : ℕ) → IsDigit b → IsSolid b
digit_solid b h (inl e) = omega arith
digit_solid b h (inr e) = omega arith

word_byte_solid : (b : ℕ) → IsWordByte b → IsSolid b
word_byte_solid b (inl h) = letter_solid b h
word_byte_solid b (inr h) = digit_solid b h

dot_solid : (b : ℕ) → b ≡ 46 → IsSolid b
dot_solid b h (inl e) = omega arith
dot_solid b h (inr e) = omega arith

number_byte_solid : (b : ℕ) → IsNumberByte b → IsSolid b
number_byte_solid b (inl h) = word_byte_solid b h
number_byte_solid b (inr h) = dot_solid b h

all_solid : (P : ℕ → Type 0) → ((b : ℕ) → P b → IsSolid b) → (w : List ℕ) → All P w → All IsSolid w
all_solid P sub [] all = All-nil IsSolid
all_solid P sub (b ∷ w) all = All-cons IsSolid b w (sub b (All-head P b w all)) (all_solid P sub w (All-tail P b w all))

-- words and numbers hold no blank
pub word_solid : (w : List ℕ) → IsWord w → All IsSolid w
word_solid [] h = absurd h
word_solid (b ∷ w) h = All-cons IsSolid b w (letter_solid b h.0) (all_solid IsWordByte word_byte_solid w h.1)

pub number_solid : (w : List ℕ) → IsNumber w → All IsSolid w
number_solid [] h = absurd h
number_solid (b ∷ w) h = All-cons IsSolid b w (digit_solid b h.0) (all_solid IsNumberByte number_byte_solid w h.1)

each_at : (test : List ℕ → Bool) (words : List (List ℕ)) (k : ℕ) (w d : List ℕ) → each test words ≡ true → k < length words → get_or words k d ≡ w → test w ≡ true
each_at test [] k w d h within is = absurd (omega arith)
each_at test (x ∷ xs) zero w d h within is = subst (λ (v : List ℕ). test v ≡ true) is (and_parts (test x) (each test xs) h).0
each_at test (x ∷ xs) (suc k) w d h within is = each_at test xs k w d (and_parts (test x) (each test xs) h).1 (omega arith) is

each_among : (test : List ℕ → Bool) (words : List (List ℕ)) (w : List ℕ) → each test words ≡ true → Contains words w → test w ≡ true
each_among test words w h (k, within, is) = each_at test words k w w h within is

each_found : (test : List ℕ → Bool) (words : List (List ℕ)) (k : ℕ) (w : List ℕ) → each test words ≡ true → slice_get words k ≡ Some w → test w ≡ true
each_found test [] k w h e = cc
each_found test (x ∷ xs) zero w h e =
    let same : x ≡ w = cc in
    subst (λ (v : List ℕ). test v ≡ true) same (and_parts (test x) (each test xs) h).0
each_found test (x ∷ xs) (suc k) w h e = each_found test xs k w (and_parts (test x) (each test xs) h).1 e

-- the word at a place within a table
abbrev pub word_at : List (List ℕ) → ℕ → List ℕ
word_at words k = unwrap_or (slice_get words k) []

found_at : (words : List (List ℕ)) (k : ℕ) → k < length words → slice_get words k ≡ Some (word_at words k)
found_at [] k within = absurd (omega arith)
found_at (x ∷ xs) zero within = refl
found_at (x ∷ xs) (suc k) within = found_at xs k (omega arith)

pub keyword_found : (k : ℕ) → k < 22 → slice_get keywords k ≡ Some (word_at keywords k)
unfolding keywords
keyword_found k h = found_at keywords k h

pub punctuator_found : (k : ℕ) → k < 45 → slice_get punctuators k ≡ Some (word_at punctuators k)
unfolding punctuators
punctuator_found k h = found_at punctuators k h

abbrev is_solid : List ℕ → Bool
is_solid [] = true
is_solid (b ∷ w) = (not (nat_eq b 10) && not (nat_eq b 32)) && is_solid w

neither : (b m n : ℕ) → (not (nat_eq b m) && not (nat_eq b n)) ≡ true → (b ≢ m) × (b ≢ n)
neither b m n h =
    let parts = and_parts (not (nat_eq b m)) (not (nat_eq b n)) h in
    (eqb-false b m (not-true (nat_eq b m) parts.0), eqb-false b n (not-true (nat_eq b n) parts.1))

solid_of : (b : ℕ) → (b ≢ 10) × (b ≢ 32) → IsSolid b
solid_of b h (inl e) = h.0 e
solid_of b h (inr e) = h.1 e

is_solid_true : (w : List ℕ) → is_solid w ≡ true → All IsSolid w
is_solid_true [] h = All-nil IsSolid
is_solid_true (b ∷ w) h =
    let parts = and_parts (not (nat_eq b 10) && not (nat_eq b 32)) (is_solid w) h in
    All-cons IsSolid b w (solid_of b (neither b 10 32 parts.0)) (is_solid_true w parts.1)

-- punctuators hold no blank
pub punctuator_solid : (w : List ℕ) → Contains punctuators w → All IsSolid w
unfolding punctuators
punctuator_solid w h = is_solid_true w (each_among is_solid punctuators w refl h)

-- no second byte of a comment stands first
abbrev pub IsNoSecond : List ℕ → Type 0
IsNoSecond w = (c : ℕ) (rest : List ℕ) → w ≡ c ∷ rest → (c ≢ 47) × (c ≢ 42)

-- a text that begins neither with a quote nor with a comment, whatever blank follows it
pub record Bare (w : List ℕ) : Type 0 where
  pub first : ℕ
  pub later : List ℕ
  pub is : w ≡ first ∷ later
  pub single : first ≢ 39
  pub double : first ≢ 34
  pub apart : (first ≢ 47) ⊎ IsNoSecond later

abbrev no_second : List ℕ → Bool
no_second [] = true
no_second (c ∷ w) = not (nat_eq c 47) && not (nat_eq c 42)

abbrev is_bare : List ℕ → Bool
is_bare [] = false
is_bare (b ∷ w) = (not (nat_eq b 39) && not (nat_eq b 34)) && no_second w

no_second_true : (w : List ℕ) → no_second w ≡ true → IsNoSecond w
no_second_true [] h c rest e = cc
no_second_true (d ∷ w) h c rest e =
    let same : d ≡ c = cc in
    subst (λ (x : ℕ). (x ≢ 47) × (x ≢ 42)) same (neither d 47 42 h)

is_bare_true : (w : List ℕ) → is_bare w ≡ true → Bare w
is_bare_true [] h = absurd (false≢true h)
is_bare_true (b ∷ w) h =
    let parts = and_parts (not (nat_eq b 39) && not (nat_eq b 34)) (no_second w) h in
    let quotes = neither b 39 34 parts.0 in
    record { first = b; later = w; is = refl; single = quotes.0; double = quotes.1; apart = inr (no_second_true w parts.1) }

pub keyword_bare : (k : ℕ) (w : List ℕ) → slice_get keywords k ≡ Some w → Bare w
unfolding keywords
keyword_bare k w e = is_bare_true w (each_found is_bare keywords k w refl e)

pub punctuator_bare : (k : ℕ) (w : List ℕ) → slice_get punctuators k ≡ Some w → Bare w
unfolding punctuators
punctuator_bare k w e = is_bare_true w (each_found is_bare punctuators k w refl e)

letter_apart : (b n : ℕ) → n < 65 → IsLetter b → b ≢ n
letter_apart b n low (inr (inl h)) e = omega arith
letter_apart b n low a e = omega arith

-- a text that begins with a letter or a digit
pub letter_bare : (b : ℕ) (w : List ℕ) → IsLetter b → Bare (b ∷ w)
letter_bare b w h = record {
  first = b;
  later = w;
  is = refl;
  single = letter_apart b 39 (omega arith) h;
  double = letter_apart b 34 (omega arith) h;
  apart = inl (letter_apart b 47 (omega arith) h);
}

pub digit_bare : (b : ℕ) (w : List ℕ) → IsDigit b → Bare (b ∷ w)
digit_bare b w h = record {
  first = b;
  later = w;
  is = refl;
  single = λ e. omega arith;
  double = λ e. omega arith;
  apart = inl (λ e. omega arith);
}
