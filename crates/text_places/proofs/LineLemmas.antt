-- The lines of bytes that one byte more follows.
use Rattle.std.proofs.Common.{◌≡◌, ℕ, ◌+◌, ◌-◌, ◌<◌, ◌≤◌, min, Bool, true, false, ◌||◌, cond, List, [], ◌∷◌, ◌++◌, length, take, drop, get_or, refl, sym, ◌∙◌, ap, append_assoc, append-nil, arith}
use Rattle.std.proofs.lemmas.Bool.{true≢false, ne_eqb, eq-eqb}
use Rattle.std.proofs.lemmas.List.{take_more, drop-append-le, length-take-le, drop_all, at_drop_more, at_drop_all, take_all, take_min, drop_min}
use Rattle.std.specs.List.{list_any}
use Rattle.text_places.specs.Lines.{is_feed, begun_with, ended_lines, last_line, first_line, part_from}

-- bytes without a line feed end no line, and are all behind the last one

no_lines_at : (x : ℕ) (xs : List ℕ) (t : Bool) → is_feed x ≡ t → list_any is_feed (x ∷ xs) ≡ false → (list_any is_feed xs ≡ false → ended_lines xs ≡ []) → ended_lines (x ∷ xs) ≡ []
no_lines_at x xs true is none later = absurd (true≢false (rw is at none))
no_lines_at x xs false is none later = rw (is, later (rw is at none)) refl

pub no_lines : (xs : List ℕ) → list_any is_feed xs ≡ false → ended_lines xs ≡ []
no_lines [] none = refl
no_lines (x ∷ xs) none = no_lines_at x xs (is_feed x) refl none (no_lines xs)

pub whole_line : (xs : List ℕ) → list_any is_feed xs ≡ false → last_line xs ≡ xs
whole_line [] none = refl
whole_line (x ∷ xs) none = rw none refl

-- bytes with a line feed end a line

abbrev EndsOne : List ℕ → Type 0
EndsOne xs = (line : List ℕ) × (lines : List (List ℕ)) × (ended_lines xs ≡ line ∷ lines)

some_lines_at : (x : ℕ) (xs : List ℕ) (t : Bool) → is_feed x ≡ t → list_any is_feed (x ∷ xs) ≡ true → (list_any is_feed xs ≡ true → EndsOne xs) → EndsOne (x ∷ xs)
some_lines_at x xs true is some later = ([], ended_lines xs, rw is refl)
some_lines_at x xs false is some later =
    let more : EndsOne xs = later (rw is at some) in
    (x ∷ more.0, more.1, rw (is, more.2) refl)

pub some_lines : (xs : List ℕ) → list_any is_feed xs ≡ true → (line : List ℕ) × (lines : List (List ℕ)) × (ended_lines xs ≡ line ∷ lines)
some_lines [] some = absurd (true≢false (sym some))
some_lines (x ∷ xs) some = some_lines_at x xs (is_feed x) refl some (some_lines xs)

-- another byte than a line feed follows

any_other : (xs : List ℕ) (b : ℕ) → is_feed b ≡ false → list_any is_feed (xs ++ b ∷ []) ≡ list_any is_feed xs
any_other [] b other = rw other refl
any_other (x ∷ xs) b other = ap (λ w. is_feed x || w) (any_other xs b other)

pub ended_lines_other : (xs : List ℕ) (b : ℕ) → is_feed b ≡ false → ended_lines (xs ++ b ∷ []) ≡ ended_lines xs
ended_lines_other [] b other = rw other refl
ended_lines_other (x ∷ xs) b other = ap (λ w. cond (is_feed x) ([] ∷ w) (begun_with x w)) (ended_lines_other xs b other)

cond-append : (t : Bool) (u v w : List ℕ) → cond t (u ++ w) (v ++ w) ≡ cond t u v ++ w
cond-append true u v w = refl
cond-append false u v w = refl

pub last_line_other : (xs : List ℕ) (b : ℕ) → is_feed b ≡ false → last_line (xs ++ b ∷ []) ≡ last_line xs ++ b ∷ []
last_line_other [] b other = rw other refl
last_line_other (x ∷ xs) b other =
    ap (λ t. cond t (last_line (xs ++ b ∷ [])) (x ∷ (xs ++ b ∷ []))) (any_other (x ∷ xs) b other)
    ∙ ap (λ w. cond (list_any is_feed (x ∷ xs)) w (x ∷ (xs ++ b ∷ []))) (last_line_other xs b other)
    ∙ cond-append (list_any is_feed (x ∷ xs)) (last_line xs) (x ∷ xs) (b ∷ [])

-- a line feed follows

any_feed : (xs : List ℕ) (b : ℕ) → is_feed b ≡ true → list_any is_feed (xs ++ b ∷ []) ≡ true
any_feed [] b feed = rw feed refl
any_feed (x ∷ xs) b feed = ap (λ w. is_feed x || w) (any_feed xs b feed) ∙ or-true (is_feed x)
  where
    or-true : (t : Bool) → (t || true) ≡ true
    or-true true = refl
    or-true false = refl

pub last_line_feed : (xs : List ℕ) (b : ℕ) → is_feed b ≡ true → last_line (xs ++ b ∷ []) ≡ []
last_line_feed [] b feed = rw feed refl
last_line_feed (x ∷ xs) b feed =
    ap (λ t. cond t (last_line (xs ++ b ∷ [])) (x ∷ (xs ++ b ∷ []))) (any_feed (x ∷ xs) b feed) ∙ last_line_feed xs b feed

-- a byte before lines, of which there is one
begun-append : (x : ℕ) (lines : List (List ℕ)) (line : List ℕ) (others : List (List ℕ)) (last : List ℕ) → lines ≡ line ∷ others → begun_with x (lines ++ last ∷ []) ≡ begun_with x lines ++ last ∷ []
begun-append x lines line others last is = rw is refl

pub ended_lines_feed : (xs : List ℕ) (b : ℕ) → is_feed b ≡ true → ended_lines (xs ++ b ∷ []) ≡ ended_lines xs ++ last_line xs ∷ []
ended_lines_feed [] b feed = rw feed refl
ended_lines_feed (x ∷ xs) b feed =
    ap (λ w. cond (is_feed x) ([] ∷ w) (begun_with x w)) (ended_lines_feed xs b feed) ∙ at (is_feed x) (list_any is_feed xs) refl refl
  where
    at : (t u : Bool) → is_feed x ≡ t → list_any is_feed xs ≡ u
        → cond (is_feed x) ([] ∷ (ended_lines xs ++ last_line xs ∷ [])) (begun_with x (ended_lines xs ++ last_line xs ∷ [])) ≡ ended_lines (x ∷ xs) ++ last_line (x ∷ xs) ∷ []
    at true u is any = rw is refl
    at false true is any =
        let some = some_lines xs any in
        rw (is, any) (begun-append x (ended_lines xs) some.0 some.1 (last_line xs) some.2)
    at false false is any = rw (is, any, no_lines xs any, whole_line xs any) refl

-- what stands behind the last line feed of a front that is one byte longer

pub last_line_on : (bytes : List ℕ) (i begin : ℕ) → i < length bytes → begin ≤ i → is_feed (get_or bytes i 0) ≡ false → last_line (take i bytes) ≡ drop begin (take i bytes) → last_line (take (i + 1) bytes) ≡ drop begin (take (i + 1) bytes)
last_line_on bytes i begin within begun other last =
    let more = take_more bytes i 0 within in
    ap last_line more ∙ last_line_other (take i bytes) (get_or bytes i 0) other ∙ ap (λ w. w ++ get_or bytes i 0 ∷ []) last
    ∙ sym (drop-append-le begin (take i bytes) (get_or bytes i 0 ∷ []) (omega (arith, begun, length-take-le i bytes (omega (arith, within))))) ∙ ap (drop begin) (sym more)

pub last_line_anew : (bytes : List ℕ) (i : ℕ) → i < length bytes → is_feed (get_or bytes i 0) ≡ true → last_line (take (i + 1) bytes) ≡ drop (i + 1) (take (i + 1) bytes)
last_line_anew bytes i within feed =
    ap last_line (take_more bytes i 0 within) ∙ last_line_feed (take i bytes) (get_or bytes i 0) feed
    ∙ sym (drop_all (i + 1) (take (i + 1) bytes) (omega (arith, length-take-le (i + 1) bytes (omega (arith, within)))))

pub last_line_more : (bytes : List ℕ) (i begin : ℕ) → i < length bytes → begin ≤ i → last_line (take i bytes) ≡ drop begin (take i bytes) → last_line (take (i + 1) bytes) ≡ drop (cond (is_feed (get_or bytes i 0)) (i + 1) begin) (take (i + 1) bytes)
last_line_more bytes i begin within begun last = at (is_feed (get_or bytes i 0)) refl
  where
    at : (t : Bool) → is_feed (get_or bytes i 0) ≡ t → last_line (take (i + 1) bytes) ≡ drop (cond t (i + 1) begin) (take (i + 1) bytes)
    at true is = last_line_anew bytes i within is
    at false is = last_line_on bytes i begin within begun is last

pub begin_within : (t : Bool) (i begin : ℕ) → begin ≤ i → cond t (i + 1) begin ≤ i + 1
begin_within true i begin begun = omega arith
begin_within false i begin begun = omega (arith, begun)

-- what stands before the first line feed

pub first_line_more : (bytes : List ℕ) (i : ℕ) → i < length bytes → (get_or bytes i 0 ≡ 10 → ⊥) → take i bytes ++ first_line (drop i bytes) ≡ take (i + 1) bytes ++ first_line (drop (i + 1) bytes)
first_line_more bytes i within other =
    let x = get_or bytes i 0 in
    ap (λ w. take i bytes ++ w) (at_drop_more first_line bytes i 0 within ∙ ap (λ t. cond t [] (x ∷ first_line (drop (i + 1) bytes))) (ne_eqb x 10 other))
    ∙ sym (append_assoc (take i bytes) (x ∷ []) (first_line (drop (i + 1) bytes))) ∙ ap (λ w. w ++ first_line (drop (i + 1) bytes)) (sym (take_more bytes i 0 within))

pub first_line_ends : (bytes : List ℕ) (i : ℕ) → i < length bytes → get_or bytes i 0 ≡ 10 → take i bytes ++ first_line (drop i bytes) ≡ take i bytes
first_line_ends bytes i within feed =
    let x = get_or bytes i 0 in
    ap (λ w. take i bytes ++ w) (at_drop_more first_line bytes i 0 within ∙ ap (λ t. cond t [] (x ∷ first_line (drop (i + 1) bytes))) (eq-eqb x 10 feed)) ∙ append-nil (take i bytes)

pub first_line_all : (bytes : List ℕ) (i : ℕ) → length bytes ≤ i → take i bytes ++ first_line (drop i bytes) ≡ bytes
first_line_all bytes i all = ap (λ w. take i bytes ++ w) (at_drop_all first_line bytes i all) ∙ append-nil (take i bytes) ∙ take_all i bytes all

-- the parts of a line round a place, by cuts within the text

pub part_from_cut : (text rest : List ℕ) (p end count : ℕ) → end ≡ min p (length text) → rest ≡ drop end text → count ≡ min (length rest) 60 → first_line (take count rest) ≡ part_from text p
part_from_cut text rest p end count is_end is_rest is_count =
    let whole : rest ≡ drop p text = is_rest ∙ ap (λ n. drop n text) is_end ∙ drop_min p text in
    let turned : count ≡ min 60 (length rest) = omega (arith, is_count) in
    ap first_line (ap (λ n. take n rest) turned ∙ take_min 60 rest ∙ ap (take 60) whole)
