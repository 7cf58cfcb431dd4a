-- No two system calls have one name, and each name is a word.
use Rattle.std.proofs.Common.{◌≡◌, inl, inr, nat_eq, ℕ, zero, suc, ◌<◌, Bool, true, false, not, ◌&&◌, List, [], ◌∷◌, length, slice_index_or, refl, ap, sym, ◌∙◌, arith}
use Rattle.std.specs.Str.{bytes_eq}
use Rattle.std.proofs.lemmas.Slice.Eq.{bytes_eq-Decides}
use Rattle.std.proofs.lemmas.Bool.{not-true, eq-eqb, both_ways}
use Rattle.line_text.specs.Words.{IsEnd, IsPlain}
use Rattle.sys_table.specs.Table.{Row, table, name_of}

-- whether no row of the list has the name
abbrev is_absent : List ℕ → List Row → Bool
is_absent name [] = true
is_absent name (r ∷ rows) = not (bytes_eq name r.name) && is_absent name rows

-- whether no two rows of the list have one name
abbrev are_distinct : List Row → Bool
are_distinct [] = true
are_distinct (r ∷ rows) = is_absent r.name rows && are_distinct rows

pub and_left : (a b : Bool) → (a && b) ≡ true → a ≡ true
and_left true b h = refl
and_left false b h = cc

pub and_right : (a b : Bool) → (a && b) ≡ true → b ≡ true
and_right true b h = h
and_right false b h = cc

pub no_twin : (a b : List ℕ) → not (bytes_eq a b) ≡ true → a ≡ b → ⊥
no_twin a b h same = let e : bytes_eq a b ≡ true = (bytes_eq-Decides a b).1 same in let f : false ≡ true = ap not (sym e) ∙ h in cc

absent_at : (name : List ℕ) (rows : List Row) (i : ℕ) (d : Row) → is_absent name rows ≡ true → i < length rows → name ≡ (slice_index_or rows i d).name → ⊥
absent_at name [] i d h within same = absurd (omega arith)
absent_at name (r ∷ rows) zero d h within same = no_twin name r.name (and_left _ _ h) same
absent_at name (r ∷ rows) (suc i) d h within same = absent_at name rows i d (and_right _ _ h) (omega arith) same

distinct_at : (rows : List Row) (i j : ℕ) (d : Row) → are_distinct rows ≡ true → i < length rows → j < length rows → (slice_index_or rows i d).name ≡ (slice_index_or rows j d).name → i ≡ j
distinct_at [] i j d h i_within j_within same = absurd (omega arith)
distinct_at (r ∷ rows) zero zero d h i_within j_within same = refl
distinct_at (r ∷ rows) zero (suc j) d h i_within j_within same = absurd (absent_at r.name rows j d (and_left _ _ h) (omega arith) same)
distinct_at (r ∷ rows) (suc i) zero d h i_within j_within same = absurd (absent_at r.name rows i d (and_left _ _ h) (omega arith) (sym same))
distinct_at (r ∷ rows) (suc i) (suc j) d h i_within j_within same = ap suc (distinct_at rows i j d (and_right _ _ h) (omega arith) (omega arith) same)

pub same_call : (x y : ℕ) → x < 24 → y < 24 → name_of x ≡ name_of y → x ≡ y
unfolding table
same_call x y x_within y_within same = distinct_at table x y _ refl x_within y_within same

-- whether no byte of the text is a space or a line feed
abbrev is_plain : List ℕ → Bool
is_plain [] = true
is_plain (b ∷ text) = not (nat_eq b 32) && (not (nat_eq b 10) && is_plain text)

-- whether each name of the list is a word
abbrev are_plain : List Row → Bool
are_plain [] = true
are_plain (r ∷ rows) = is_plain r.name && are_plain rows

no_end : (b : ℕ) → not (nat_eq b 32) ≡ true → not (nat_eq b 10) ≡ true → IsEnd b → ⊥
no_end b no_space no_feed (inl is) = both_ways (nat_eq b 32) (not-true (nat_eq b 32) no_space) (eq-eqb b 32 is)
no_end b no_space no_feed (inr is) = both_ways (nat_eq b 10) (not-true (nat_eq b 10) no_feed) (eq-eqb b 10 is)

plain_from_test : (text : List ℕ) → is_plain text ≡ true → IsPlain text
plain_from_test [] h = tt
plain_from_test (b ∷ text) h =
    let later = and_right _ _ h in
    (no_end b (and_left _ _ h) (and_left _ _ later), plain_from_test text (and_right _ _ later))

plain_at : (rows : List Row) (i : ℕ) (d : Row) → are_plain rows ≡ true → i < length rows → IsPlain (slice_index_or rows i d).name
plain_at [] i d h within = absurd (omega arith)
plain_at (r ∷ rows) zero d h within = plain_from_test r.name (and_left _ _ h)
plain_at (r ∷ rows) (suc i) d h within = plain_at rows i d (and_right _ _ h) (omega arith)

pub name_of-IsPlain : (x : ℕ) → x < 24 → IsPlain (name_of x)
unfolding table
name_of-IsPlain x within = plain_at table x _ refl within
