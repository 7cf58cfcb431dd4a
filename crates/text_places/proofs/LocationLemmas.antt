-- How far a text has been passed, and that a location is of one place.
use Rattle.std.proofs.Common.{◌≡◌, ◌⊎◌, ℕ, zero, suc, ◌+◌, ◌-◌, ◌<◌, ◌≤◌, ◌^◌, Bool, true, false, cond, List, [], ◌∷◌, ◌++◌, length, take, drop, get_or, None, fold, Contains, refl, sym, ◌∙◌, ap, subst, inl, inr, arith}
use Rattle.std.specs.List.{list_any}
use Rattle.std.proofs.lemmas.List.{take_more, take-append-drop, length-take-le, drop-take}
use Rattle.std.proofs.lemmas.List.Sums.{fold_push}
use Rattle.text_places.specs.Lines.{is_feed, begun_with, ended_lines, last_line}
use Rattle.text_places.specs.Locations.{SourceLocation, told_or_next, next_line, line_behind, located, HasNoMarker, LocationsArePlaces}
use Rattle.text_places.specs.Markers.{FileLine, marker_of}
use Rattle.text_places.specs.Passing.{HasPassed}
use Rattle.text_places.proofs.LineLemmas.{no_lines, whole_line, some_lines, ended_lines_other, ended_lines_feed, last_line_on, last_line_anew}

-- one byte more is passed

module _ (first text file : List ℕ) (line begin seen : ℕ) (passed : HasPassed first text file line begin seen) (within : seen < length text) where
  pub pass_other : is_feed (get_or text seen 0) ≡ false → HasPassed first text file line begin (seen + 1)
  pass_other other = record {
    within = omega (arith, within);
    begun = omega (arith, passed.begun);
    last = last_line_on text seen begin within passed.begun other passed.last;
    told = ap (λ w. line_behind first (ended_lines w)) (take_more text seen 0 within) ∙ ap (line_behind first) (ended_lines_other (take seen text) (get_or text seen 0) other) ∙ passed.told;
    small = omega (arith, passed.small);
  }

  pub pass_feed : (next : FileLine) → is_feed (get_or text seen 0) ≡ true → next ≡ next_line (record { file = file; line = line }) (take (seen - begin) (drop begin text)) → (next.line < 2 ^ 32) ⊎ (next.line ≡ line + 1) → HasPassed first text next.file next.line (seen + 1) (seen + 1)
  pass_feed next feed is small = record {
    within = omega (arith, within);
    begun = omega arith;
    last = last_line_anew text seen within feed;
    told = ap (λ w. line_behind first (ended_lines w)) (take_more text seen 0 within) ∙ ap (line_behind first) (ended_lines_feed (take seen text) (get_or text seen 0) feed)
        ∙ fold_push next_line (record { file = first; line = 1 }) (ended_lines (take seen text)) (last_line (take seen text))
        ∙ ap (λ here. next_line here (last_line (take seen text))) passed.told ∙ ap (next_line (record { file = file; line = line })) (passed.last ∙ sym sliced) ∙ sym is;
    small = bound small;
  }
    where
      sliced : take (seen - begin) (drop begin text) ≡ drop begin (take seen text)
      sliced = sym (drop-take begin (seen - begin) text) ∙ ap (λ n. drop begin (take n text)) (omega (arith, passed.begun))

      bound : (next.line < 2 ^ 32) ⊎ (next.line ≡ line + 1) → next.line ≤ 2 ^ 32 + (seen + 1)
      bound (inl told) = omega (arith, told)
      bound (inr one) = omega (arith, one, passed.small)

pub none_passed : (file text : List ℕ) → HasPassed file text file 1 0 0
none_passed file text = record { within = omega arith; begun = omega arith; last = refl; told = refl; small = omega arith }

-- lines of which none is a line marker line
counted : (lines : List (List ℕ)) (here : FileLine) → ((line : List ℕ) → Contains lines line → marker_of line ≡ None) → (fold next_line here lines).line ≡ here.line + length lines
counted [] here none = omega arith
counted (line ∷ lines) here none =
    let first : next_line here line ≡ record { file = here.file; line = here.line + 1 } = ap (told_or_next here) (none line (0, omega arith, refl)) in
    let later = counted lines (record { file = here.file; line = here.line + 1 }) (λ other within. none other (suc within.0, omega (arith, within.1), within.2)) in
    ap (λ at. (fold next_line at lines).line) first ∙ later ∙ omega arith

-- the lines that a front of a text ends are lines that the text ends

begun_before : (x : ℕ) (lines more : List (List ℕ)) → (others : List (List ℕ)) × (begun_with x (lines ++ more) ≡ begun_with x lines ++ others)
begun_before x [] more = (begun_with x more, refl)
begun_before x (line ∷ lines) more = (more, refl)

front_lines_at : (x : ℕ) (xs ys : List ℕ) (t : Bool) → is_feed x ≡ t → (more : List (List ℕ)) → ended_lines (xs ++ ys) ≡ ended_lines xs ++ more → (others : List (List ℕ)) × (ended_lines (x ∷ (xs ++ ys)) ≡ ended_lines (x ∷ xs) ++ others)
front_lines_at x xs ys true is more later = (more, rw (is, later) refl)
front_lines_at x xs ys false is more later =
    let others = begun_before x (ended_lines xs) more in
    (others.0, rw (is, later) others.1)

front_lines : (xs ys : List ℕ) → (more : List (List ℕ)) × (ended_lines (xs ++ ys) ≡ ended_lines xs ++ more)
front_lines [] ys = (ended_lines ys, refl)
front_lines (x ∷ xs) ys =
    let later = front_lines xs ys in
    front_lines_at x xs ys (is_feed x) refl later.0 later.1

contains_front : (lines more : List (List ℕ)) (line : List ℕ) → Contains lines line → Contains (lines ++ more) line
contains_front [] more line within = absurd (omega (arith, within.1))
contains_front (first ∷ lines) more line (zero, within, is) = (0, omega arith, is)
contains_front (first ∷ lines) more line (suc k, within, is) =
    let later = contains_front lines more line (k, omega (arith, within), is) in
    (suc later.0, omega (arith, later.1), later.2)

line_of_place : (file text : List ℕ) (p : ℕ) → HasNoMarker text → (located file text p).line ≡ 1 + length (ended_lines (take p text))
line_of_place file text p none =
    let more = front_lines (take p text) (drop p text) in
    let whole : ended_lines text ≡ ended_lines (take p text) ++ more.0 = ap ended_lines (sym (take-append-drop p text)) ∙ more.1 in
    counted (ended_lines (take p text)) (record { file = file; line = 1 })
    (λ line within. none line (subst (λ (lines : List (List ℕ)). Contains lines line) (sym whole) (contains_front (ended_lines (take p text)) more.0 line within)))

-- bytes that end as many lines have a line feed where the others have one
lines_tell : (xs ys : List ℕ) → length (ended_lines xs) ≡ length (ended_lines ys) → list_any is_feed xs ≡ list_any is_feed ys
lines_tell xs ys same = at (list_any is_feed xs) (list_any is_feed ys) refl refl
  where
    at : (t u : Bool) → list_any is_feed xs ≡ t → list_any is_feed ys ≡ u → list_any is_feed xs ≡ list_any is_feed ys
    at true true a b = a ∙ sym b
    at false false a b = a ∙ sym b
    at true false a b =
        let some = some_lines xs a in
        absurd (omega (arith, ap length some.2, ap length (no_lines ys b), same))
    at false true a b =
        let some = some_lines ys b in
        absurd (omega (arith, ap length some.2, ap length (no_lines xs a), same))

length-begun : (x : ℕ) (lines : List (List ℕ)) → length (begun_with x lines) ≡ length lines
length-begun x [] = refl
length-begun x (line ∷ lines) = refl

-- bytes with a line feed behind their first byte, by those behind it
later_lines : (x : ℕ) (xs : List ℕ) (t : Bool) → is_feed x ≡ t → length (ended_lines (x ∷ xs)) ≡ cond t 1 0 + length (ended_lines xs)
later_lines x xs true is = rw is (omega arith)
later_lines x xs false is = rw is (length-begun x (ended_lines xs) ∙ omega arith)

later_last : (x : ℕ) (xs : List ℕ) → list_any is_feed (x ∷ xs) ≡ true → last_line (x ∷ xs) ≡ last_line xs
later_last x xs some = rw some refl

-- the bytes up to two places end as many lines and have as long a last line: then the places are one

abbrev IsOnePlace : List ℕ → ℕ → ℕ → Type 0
IsOnePlace text p q =
    p ≤ length text → q ≤ length text → length (ended_lines (take p text)) ≡ length (ended_lines (take q text))
    → length (last_line (take p text)) ≡ length (last_line (take q text)) → p ≡ q

one_line : (text : List ℕ) (p q : ℕ) → list_any is_feed (take p text) ≡ false → IsOnePlace text p q
one_line text p q none in_p in_q lines last =
    let other : list_any is_feed (take q text) ≡ false = sym (lines_tell (take p text) (take q text) lines) ∙ none in
    let a = ap length (whole_line (take p text) none) ∙ length-take-le p text in_p in
    let b = ap length (whole_line (take q text) other) ∙ length-take-le q text in_q in
    omega (arith, a, b, last)

some_line : (x : ℕ) (text : List ℕ) (p q : ℕ) → list_any is_feed (x ∷ take p text) ≡ true → IsOnePlace text p q → IsOnePlace (x ∷ text) (suc p) (suc q)
some_line x text p q some later in_p in_q lines last =
    let other : list_any is_feed (x ∷ take q text) ≡ true = sym (lines_tell (x ∷ take p text) (x ∷ take q text) lines) ∙ some in
    let a = later_lines x (take p text) (is_feed x) refl in
    let b = later_lines x (take q text) (is_feed x) refl in
    ap suc (later (omega (arith, in_p)) (omega (arith, in_q)) (omega (arith, a, b, lines)) (ap length (sym (later_last x (take p text) some)) ∙ last ∙ ap length (later_last x (take q text) other)))

choose : (x : ℕ) (text : List ℕ) (p q : ℕ) (t : Bool) → list_any is_feed (x ∷ take p text) ≡ t → IsOnePlace text p q → IsOnePlace (x ∷ text) (suc p) (suc q)
choose x text p q true is later = some_line x text p q is later
choose x text p q false is later = one_line (x ∷ text) (suc p) (suc q) is

turned : (text : List ℕ) (p q : ℕ) → IsOnePlace text q p → IsOnePlace text p q
turned text p q one in_p in_q lines last = sym (one in_q in_p (sym lines) (sym last))

same_place : (text : List ℕ) (p q : ℕ) → IsOnePlace text p q
same_place [] p q = λ in_p in_q lines last. omega (arith, in_p, in_q)
same_place (x ∷ text) zero q = one_line (x ∷ text) zero q refl
same_place (x ∷ text) (suc p) zero = turned (x ∷ text) (suc p) zero (one_line (x ∷ text) zero (suc p) refl)
same_place (x ∷ text) (suc p) (suc q) = choose x text p q (list_any is_feed (x ∷ take p text)) refl (same_place text p q)

pub one_place : LocationsArePlaces
one_place file text p q none in_p in_q same =
    same_place text p q in_p in_q
    (let l = ap (λ (location : SourceLocation). location.line) same in omega (arith, line_of_place file text p none, line_of_place file text q none, l))
    (let c = ap (λ (location : SourceLocation). location.column) same in omega (arith, c))
