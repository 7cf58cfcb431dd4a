-- The names of the system calls are names of C.
use Rattle.std.proofs.Common.{◌≡◌, ◌⊎◌, inl, inr, ℕ, ◌<◌, Bool, true, false, not, ◌&&◌, ◌||◌, nat_eq, nat_lt, List, [], ◌∷◌, length, Contains, All, refl, arith}
use Rattle.std.specs.Str.{bytes_eq}
use Rattle.std.specs.List.{list_all}
use Rattle.std.proofs.lemmas.List.Elements.{All-contains, All-get_or, All-weaker}
use Rattle.std.proofs.lemmas.List.Sums.{AllPass-from_list_all}
use Rattle.std.proofs.lemmas.Bool.{false≢true}
use Rattle.dm_base.specs.Name.{IsName, IsLetter, IsDigit, keywords}
use Rattle.dm_base.proofs.Names.{IsName-from_parts}
use Rattle.sys_table.specs.Table.{Row, table, name_of}
use Rattle.sys_table.proofs.Names.{no_twin}
use Rattle.c_meaning.proofs.Members.{and_left, and_right, or_cases, below, same_number}

-- whether the byte is a small letter or an underscore
abbrev is_letter : ℕ → Bool
is_letter b = nat_eq b 95 || (nat_lt 96 b && nat_lt b 123)

abbrev is_byte : ℕ → Bool
is_byte b = is_letter b || (nat_lt 47 b && nat_lt b 58)

letter : (b : ℕ) → is_letter b ≡ true → IsLetter b
letter b h = elim (or_cases (nat_eq b 95) (nat_lt 96 b && nat_lt b 123) h) as (λ k. IsLetter b) [
  | inl k ↦ inr (inr (same_number b 95 k))
  | inr k ↦ (let low = below 96 b (and_left (nat_lt 96 b) (nat_lt b 123) k) in let high = below b 123 (and_right (nat_lt 96 b) (nat_lt b 123) k) in inr (inl (omega (arith, low), omega (arith, high))))
]

byte : (b : ℕ) → is_byte b ≡ true → IsLetter b ⊎ IsDigit b
byte b h = elim (or_cases (is_letter b) (nat_lt 47 b && nat_lt b 58) h) as (λ k. IsLetter b ⊎ IsDigit b) [
  | inl k ↦ inl (letter b k)
  | inr k ↦ (let low = below 47 b (and_left (nat_lt 47 b) (nat_lt b 58) k) in let high = below b 58 (and_right (nat_lt 47 b) (nat_lt b 58) k) in inr (omega (arith, low), omega (arith, high)))
]

bytes_of : (text : List ℕ) → list_all is_byte text ≡ true → All (λ b. IsLetter b ⊎ IsDigit b) text
bytes_of text h = All-weaker (λ b. is_byte b ≡ true) (λ b. IsLetter b ⊎ IsDigit b) byte text (AllPass-from_list_all is_byte text h)

-- whether the text is another one
abbrev is_other : List ℕ → List ℕ → Bool
is_other text other = not (bytes_eq other text)

absent : (text : List ℕ) (others : List (List ℕ)) → list_all (is_other text) others ≡ true → Contains others text → ⊥
absent text others h has = no_twin text text (All-contains (λ other. is_other text other ≡ true) others text (AllPass-from_list_all (is_other text) others h) has) refl

abbrev first_is_letter : List ℕ → Bool
first_is_letter [] = false
first_is_letter (b ∷ text) = is_letter b

-- whether the text is a name of small letters, underscores and digits
abbrev is_name : List ℕ → Bool
is_name text = first_is_letter text && (nat_lt (length text) 64 && (list_all is_byte text && list_all (is_other text) keywords))

no_digit : (b : ℕ) → IsLetter b → IsDigit b → ⊥
no_digit b (inl h) d = omega (arith, h.0, d.1)
no_digit b (inr (inl h)) d = omega (arith, h.0, d.1)
no_digit b (inr (inr h)) d = omega (arith, h, d.1)

pub name : (text : List ℕ) → is_name text ≡ true → IsName text
name [] h = absurd (false≢true h)
name (b ∷ text) h =
    let rest = and_right (is_letter b) (nat_lt (length (b ∷ text)) 64 && (list_all is_byte (b ∷ text) && list_all (is_other (b ∷ text)) keywords)) h in
    let short = below (length (b ∷ text)) 64 (and_left (nat_lt (length (b ∷ text)) 64) (list_all is_byte (b ∷ text) && list_all (is_other (b ∷ text)) keywords) rest) in
    let others = and_right (nat_lt (length (b ∷ text)) 64) (list_all is_byte (b ∷ text) && list_all (is_other (b ∷ text)) keywords) rest in
    IsName-from_parts (b ∷ text) (omega arith) (omega (arith, short)) (no_digit b (letter b (and_left (is_letter b) _ h))) (bytes_of (b ∷ text) (and_left (list_all is_byte (b ∷ text)) (list_all (is_other (b ∷ text)) keywords) others)) (absent (b ∷ text) keywords (and_right (list_all is_byte (b ∷ text)) (list_all (is_other (b ∷ text)) keywords) others))

pub named_call : (x : ℕ) → x < 24 → IsName (name_of x)
unfolding table
named_call x within =
    name _ (All-get_or (λ (r : Row). is_name r.name ≡ true) table x _ within (AllPass-from_list_all (λ (r : Row). is_name r.name) table refl))
