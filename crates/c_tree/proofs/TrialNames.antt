-- Short names, for trials.
use Rattle.std.proofs.Common.{◌≡◌, ◌≢◌, inr, inl, nat_lt, ℕ, zero, suc, ◌<◌, ◌≤◌, ◌⊎◌, Bool, true, not, ◌&&◌, List, [], ◌∷◌, length, slice_index_or, All, sym, arith}
use Rattle.std.specs.Str.{bytes_eq}
use Rattle.std.proofs.lemmas.List.Elements.{All-nil, All-cons}
use Rattle.std.proofs.lemmas.Bool.Decides.{Decides-ltb}
use Rattle.dm_base.specs.Name.{IsName, IsLetter, IsDigit, keywords}
use Rattle.dm_base.proofs.Names.{IsName-from_parts}
use Rattle.sys_table.specs.Table.{Row, table, name_of}
use Rattle.sys_table.proofs.Names.{and_left, and_right}
pub use Rattle.sys_table.proofs.Names.{no_twin}

-- whether the text is none of these
abbrev is_absent : List ℕ → List (List ℕ) → Bool
is_absent text [] = true
is_absent text (other ∷ others) = not (bytes_eq text other) && is_absent text others

absent_at : (text : List ℕ) (others : List (List ℕ)) (i : ℕ) (d : List ℕ) → is_absent text others ≡ true → i < length others → slice_index_or others i d ≡ text → ⊥
absent_at text [] i d h within same = absurd (omega arith)
absent_at text (other ∷ others) zero d h within same = no_twin text other (and_left _ _ h) (sym same)
absent_at text (other ∷ others) (suc i) d h within same = absent_at text others i d (and_right _ _ h) (omega arith) same

-- whether the text is the name of none of these system calls
abbrev is_apart : List ℕ → List Row → Bool
is_apart text [] = true
is_apart text (r ∷ rows) = not (bytes_eq text r.name) && is_apart text rows

apart_at : (text : List ℕ) (rows : List Row) (i : ℕ) (d : Row) → is_apart text rows ≡ true → i < length rows → text ≡ (slice_index_or rows i d).name → ⊥
apart_at text [] i d h within same = absurd (omega arith)
apart_at text (r ∷ rows) zero d h within same = no_twin text r.name (and_left _ _ h) same
apart_at text (r ∷ rows) (suc i) d h within same = apart_at text rows i d (and_right _ _ h) (omega arith) same

pub apart : (text : List ℕ) → is_apart text table ≡ true → (x : ℕ) → x < 24 → text ≢ name_of x
unfolding table
apart text h x within = apart_at text table x _ h within

-- whether the bytes are small letters
abbrev are_small : List ℕ → Bool
are_small [] = true
are_small (b ∷ bytes) = nat_lt 96 b && (nat_lt b 123 && are_small bytes)

between : (b : ℕ) → nat_lt 96 b ≡ true → nat_lt b 123 ≡ true → IsLetter b ⊎ IsDigit b
between b low high = inl (inr (inl ((Decides-ltb 96 b).0 low, (let below : b < 123 = (Decides-ltb b 123).0 high in omega (arith, below)))))

all_letters : (text : List ℕ) → are_small text ≡ true → All (λ b. IsLetter b ⊎ IsDigit b) text
all_letters [] h = All-nil _
all_letters (b ∷ bytes) h =
    let later = and_right _ _ h in
    All-cons (λ b. IsLetter b ⊎ IsDigit b) b bytes (between b (and_left _ _ h) (and_left _ _ later)) (all_letters bytes (and_right _ _ later))

-- a short text of small letters that is no keyword is a name
pub named : (b : ℕ) (bytes : List ℕ) → are_small (b ∷ bytes) ≡ true → length (b ∷ bytes) ≤ 63 → is_absent (b ∷ bytes) keywords ≡ true → IsName (b ∷ bytes)
named b bytes small short free =
    let low = and_left _ _ small in
    IsName-from_parts (b ∷ bytes) (omega arith) short (λ digit. let above : 96 < b = (Decides-ltb 96 b).0 low in absurd (omega (arith, above, digit.1))) (all_letters (b ∷ bytes) small) (λ h. absent_at (b ∷ bytes) keywords h.0 _ free h.1 h.2)
