-- Line marker lines: what their parts are read as, and that each reading is of such a line.
use Rattle.std.proofs.Common.{◌≡◌, ◌⊎◌, ℕ, suc, ◌+◌, ◌<◌, ◌≤◌, ◌^◌, Bool, true, false, ◌&&◌, cond, eqb, leb, ltb, List, [], ◌∷◌, ◌++◌, length, take, drop, get_or, Option, None, Some, IfSome, codes, decimal, refl, sym, ◌∙◌, ap, subst, inl, inr, append_assoc, add-one, arith}
use Rattle.std.specs.List.{list_all, position, position_or_len}
use Rattle.std.specs.Option.{option_and_then}
use Rattle.std.specs.Str.{bytes_eq}
use Rattle.std.specs.Str.Parse.{AllDigits, digits_value}
use Rattle.std.proofs.lemmas.Bool.{and_parts, and_from, or_cases, ltb-true, lt-ltb, eqb-true, ne_eqb, eq-eqb, leb-true}
use Rattle.std.proofs.lemmas.Fmt.{digits_decimal, digits_value-decimal}
use Rattle.std.proofs.lemmas.List.{take-append-drop, take_more, drop_more, at_drop_more, length-take-le, take_at, drop_at, get_or_append_left, get_or_at, length-append}
use Rattle.std.proofs.lemmas.List.Sums.{position_or_len_is}
use Rattle.std.proofs.lemmas.Str.Parse.{digit_at}
use lib.Pointwise.{bytes_decides}
use Rattle.text_places.specs.Markers.{FileLine, is_blank, is_tail, is_flag, flags_text, IsMarkerLine, behind_margin, behind, number_of, later_or_first, last_quote, ends_marker, quoted_line, numbered_line, marker_of, MarkersAreTold}
use Rattle.dm_base.proofs.Decimals.{own}

-- margins

-- a line begins with its margin, and goes on with what stands behind that
pub margin_of : (line : List ℕ) → (margin : List ℕ) × (list_all is_blank margin ≡ true) × (line ≡ margin ++ behind_margin line)
margin_of [] = ([], refl, refl)
margin_of (b ∷ line) =
    let later = margin_of line in
    at (is_blank b) refl later.0 later.1 later.2
  where
    at : (t : Bool) → is_blank b ≡ t → (margin : List ℕ) → list_all is_blank margin ≡ true → line ≡ margin ++ behind_margin line → (front : List ℕ) × (list_all is_blank front ≡ true) × (b ∷ line ≡ front ++ behind_margin (b ∷ line))
    at true is margin blank split = (b ∷ margin, and_from (is_blank b) (list_all is_blank margin) is blank, rw is (ap (λ w. b ∷ w) split))
    at false is margin blank split = ([], refl, rw is refl)

pub margin_passed : (margin : List ℕ) (b : ℕ) (rest : List ℕ) → list_all is_blank margin ≡ true → is_blank b ≡ false → behind_margin (margin ++ b ∷ rest) ≡ b ∷ rest
margin_passed [] b rest blank ink = rw ink refl
margin_passed (x ∷ margin) b rest blank ink =
    let parts = and_parts (is_blank x) (list_all is_blank margin) blank in
    rw parts.0 (margin_passed margin b rest parts.1 ink)

-- one byte more of a margin
pub margin_more : (line : List ℕ) (i : ℕ) → i < length line → is_blank (get_or line i 0) ≡ true → behind_margin (drop (i + 1) line) ≡ behind_margin (drop i line)
margin_more line i within blank =
    sym (at_drop_more behind_margin line i 0 within ∙ ap (λ t. cond t (behind_margin (drop (i + 1) line)) (get_or line i 0 ∷ drop (i + 1) line)) blank)

pub margin_ends : (line : List ℕ) (i : ℕ) → i < length line → is_blank (get_or line i 0) ≡ false → behind_margin (drop i line) ≡ drop i line
margin_ends line i within ink =
    at_drop_more behind_margin line i 0 within ∙ ap (λ t. cond t (behind_margin (drop (i + 1) line)) (get_or line i 0 ∷ drop (i + 1) line)) ink ∙ sym (drop_more line i 0 within)

-- words

pub behind_from : (word bytes rest : List ℕ) → behind word bytes ≡ Some rest → bytes ≡ word ++ rest
behind_from word bytes rest = at (bytes_eq (take (length word) bytes) word) refl
  where
    at : (t : Bool) → bytes_eq (take (length word) bytes) word ≡ t → cond t (Some (drop (length word) bytes)) None ≡ Some rest → bytes ≡ word ++ rest
    at true is told =
        let same : drop (length word) bytes ≡ rest = cc in
        sym (take-append-drop (length word) bytes) ∙ ap (λ w. w ++ drop (length word) bytes) ((bytes_decides (take (length word) bytes) word).0 is) ∙ ap (λ w. word ++ w) same
    at false is told = cc

-- numbers

number_at : (digits : List ℕ) (v n : ℕ) → v ≡ n → decimal n ≡ digits → n < 2 ^ 32 → cond (bytes_eq (decimal v) digits && ltb v 4294967296) (Some v) None ≡ Some n
number_at digits v n is spelt small =
    let both : (bytes_eq (decimal v) digits && ltb v 4294967296) ≡ true = and_from (bytes_eq (decimal v) digits) (ltb v 4294967296) ((bytes_decides (decimal v) digits).1 (ap decimal is ∙ spelt)) (lt-ltb v 4294967296 (omega (arith, is, small))) in
    ap (λ t. cond t (Some v) None) both ∙ ap Some is

pub number_of_decimal : (digits : List ℕ) (n : ℕ) → n < 2 ^ 32 → digits ≡ decimal n → number_of digits ≡ Some n
number_of_decimal digits n small is =
    number_at digits (digits_value 10 digits) n (ap (digits_value 10) is ∙ digits_value-decimal own n (omega (arith, small))) (sym is) small

number_from_at : (digits : List ℕ) (v n : ℕ) (t : Bool) → (bytes_eq (decimal v) digits && ltb v 4294967296) ≡ t → cond t (Some v) None ≡ Some n → (digits ≡ decimal n) × (n < 2 ^ 32)
number_from_at digits v n true is told =
    let same : v ≡ n = cc in
    let parts = and_parts (bytes_eq (decimal v) digits) (ltb v 4294967296) is in
    (sym ((bytes_decides (decimal v) digits).0 parts.0) ∙ ap decimal same, omega (arith, same, ltb-true v 4294967296 parts.1))
number_from_at digits v n false is told = cc

pub number_from : (digits : List ℕ) (n : ℕ) → number_of digits ≡ Some n → (digits ≡ decimal n) × (n < 2 ^ 32)
number_from digits n told = number_from_at digits (digits_value 10 digits) n (bytes_eq (decimal (digits_value 10 digits)) digits && ltb (digits_value 10 digits) 4294967296) refl told

pub number_unread : (digits : List ℕ) → ((n : ℕ) → n < 2 ^ 32 → digits ≡ decimal n → ⊥) → number_of digits ≡ None
number_unread digits none = at (number_of digits) refl
  where
    at : (told : Option ℕ) → number_of digits ≡ told → told ≡ None
    at None is = refl
    at (Some n) is = absurd (none n (number_from digits n is).1 (number_from digits n is).0)

-- the last double quote

pub last_quote_push : (xs : List ℕ) (b : ℕ) → last_quote (xs ++ b ∷ []) ≡ cond (eqb b 34) (Some (length xs)) (last_quote xs)
last_quote_push [] b = refl
last_quote_push (x ∷ xs) b = ap (later_or_first x) (last_quote_push xs b) ∙ at (eqb b 34)
  where
    at : (t : Bool) → later_or_first x (cond t (Some (length xs)) (last_quote xs)) ≡ cond t (Some (length (x ∷ xs))) (last_quote (x ∷ xs))
    at true = ap Some (omega arith)
    at false = refl

pub last_quote_more : (bytes : List ℕ) (i : ℕ) → i < length bytes → last_quote (take (i + 1) bytes) ≡ cond (eqb (get_or bytes i 0) 34) (Some i) (last_quote (take i bytes))
last_quote_more bytes i within =
    ap last_quote (take_more bytes i 0 within) ∙ last_quote_push (take i bytes) (get_or bytes i 0)
    ∙ ap (λ n. cond (eqb (get_or bytes i 0) 34) (Some n) (last_quote (take i bytes))) (length-take-le i bytes (omega (arith, within)))

pub quote_within : (bytes : List ℕ) → IfSome (last_quote bytes) (λ i. i < length bytes)
quote_within [] = tt
quote_within (b ∷ bytes) = later_within b bytes (last_quote bytes) (quote_within bytes)
  where
    later_within : (c : ℕ) (rest : List ℕ) (later : Option ℕ) → IfSome later (λ i. i < length rest) → IfSome (later_or_first c later) (λ i. i < length (c ∷ rest))
    later_within c rest (Some i) within = omega (arith, within)
    later_within c rest None within = first_within (eqb c 34)
      where
        first_within : (t : Bool) → IfSome (cond t (Some 0) None) (λ i. i < length (c ∷ rest))
        first_within true = omega arith
        first_within false = tt

last_quote_at : (name ends : List ℕ) → last_quote ends ≡ None → last_quote (name ++ 34 ∷ ends) ≡ Some (length name)
last_quote_at [] ends none = ap (later_or_first 34) none
last_quote_at (x ∷ name) ends none = ap (later_or_first x) (last_quote_at name ends none) ∙ ap Some (omega arith)

last_quote_step : (b : ℕ) (bytes : List ℕ) (i : ℕ) (later : Option ℕ) → ((j : ℕ) → later ≡ Some j → bytes ≡ take j bytes ++ 34 ∷ drop (j + 1) bytes) → later_or_first b later ≡ Some i → b ∷ bytes ≡ take i (b ∷ bytes) ++ 34 ∷ drop (i + 1) (b ∷ bytes)
last_quote_step b bytes i (Some j) splits told =
    let same : suc j ≡ i = (let h : j + 1 ≡ i = cc in omega (arith, h)) in
    subst (λ (k : ℕ). b ∷ bytes ≡ take k (b ∷ bytes) ++ 34 ∷ drop (k + 1) (b ∷ bytes)) same (ap (λ w. b ∷ w) (rw add-one at (splits j refl)) ∙ rw add-one refl)
last_quote_step b bytes i None splits told = at (eqb b 34) refl told
  where
    at : (t : Bool) → eqb b 34 ≡ t → cond t (Some 0) None ≡ Some i → b ∷ bytes ≡ take i (b ∷ bytes) ++ 34 ∷ drop (i + 1) (b ∷ bytes)
    at true is first =
        let zero_is : 0 ≡ i = cc in
        subst (λ (k : ℕ). b ∷ bytes ≡ take k (b ∷ bytes) ++ 34 ∷ drop (k + 1) (b ∷ bytes)) zero_is (ap (λ x. x ∷ bytes) (eqb-true b 34 is))
    at false is first = cc

last_quote_from : (bytes : List ℕ) (i : ℕ) → last_quote bytes ≡ Some i → bytes ≡ take i bytes ++ 34 ∷ drop (i + 1) bytes
last_quote_from [] i told = cc
last_quote_from (b ∷ bytes) i told = last_quote_step b bytes i (last_quote bytes) (last_quote_from bytes) told

-- what ends a line marker line

tail_is : (b : ℕ) → is_tail b ≡ true → (b ≡ 32) ⊎ ((b ≡ 9) ⊎ (b ≡ 13))
tail_is b is = at (or_cases (is_blank b) (eqb b 13) is)
  where
    blank_is : (eqb b 32 ≡ true) ⊎ (eqb b 9 ≡ true) → (b ≡ 32) ⊎ ((b ≡ 9) ⊎ (b ≡ 13))
    blank_is (inl same) = inl (eqb-true b 32 same)
    blank_is (inr same) = inr (inl (eqb-true b 9 same))

    at : (is_blank b ≡ true) ⊎ (eqb b 13 ≡ true) → (b ≡ 32) ⊎ ((b ≡ 9) ⊎ (b ≡ 13))
    at (inl blank) = blank_is (or_cases (eqb b 32) (eqb b 9) blank)
    at (inr same) = inr (inr (eqb-true b 13 same))

tail_no_quote : (b : ℕ) → is_tail b ≡ true → eqb b 34 ≡ false
tail_no_quote b is = at (tail_is b is)
  where
    at : (b ≡ 32) ⊎ ((b ≡ 9) ⊎ (b ≡ 13)) → eqb b 34 ≡ false
    at (inl same) = ap (λ x. eqb x 34) same
    at (inr (inl same)) = ap (λ x. eqb x 34) same
    at (inr (inr same)) = ap (λ x. eqb x 34) same

tail_no_flag : (b : ℕ) → is_tail b ≡ true → is_flag b ≡ false
tail_no_flag b is = at (tail_is b is)
  where
    at : (b ≡ 32) ⊎ ((b ≡ 9) ⊎ (b ≡ 13)) → is_flag b ≡ false
    at (inl same) = ap is_flag same
    at (inr (inl same)) = ap is_flag same
    at (inr (inr same)) = ap is_flag same

flag_no_quote : (b : ℕ) → is_flag b ≡ true → eqb b 34 ≡ false
flag_no_quote b is = ne_eqb b 34 (λ same. omega (arith, same, leb-true 49 b (and_parts (leb 49 b) (leb b 52) is).0))

no_quote_in_tail : (tail : List ℕ) → list_all is_tail tail ≡ true → last_quote tail ≡ None
no_quote_in_tail [] ends = refl
no_quote_in_tail (b ∷ tail) ends =
    let parts = and_parts (is_tail b) (list_all is_tail tail) ends in
    ap (later_or_first b) (no_quote_in_tail tail parts.1) ∙ ap (λ t. cond t (Some 0) None) (tail_no_quote b parts.0)

no_quote_at_end : (flags tail : List ℕ) → list_all is_flag flags ≡ true → list_all is_tail tail ≡ true → last_quote (flags_text flags ++ tail) ≡ None
no_quote_at_end [] tail are ends = no_quote_in_tail tail ends
no_quote_at_end (flag ∷ flags) tail are ends =
    let parts = and_parts (is_flag flag) (list_all is_flag flags) are in
    ap (λ o. later_or_first 32 (later_or_first flag o)) (no_quote_at_end flags tail parts.1 ends) ∙ ap (λ t. later_or_first 32 (cond t (Some 0) None)) (flag_no_quote flag parts.0)

tail_ends : (tail : List ℕ) → list_all is_tail tail ≡ true → ends_marker tail ≡ true
tail_ends [] ends = refl
tail_ends (b ∷ []) ends = (and_parts (is_tail b) true ends).0
tail_ends (b ∷ c ∷ tail) ends =
    let parts = and_parts (is_tail b) (list_all is_tail (c ∷ tail)) ends in
    let no = tail_no_flag c (and_parts (is_tail c) (list_all is_tail tail) parts.1).0 in
    ap (λ t. cond (eqb b 32 && t) (ends_marker tail) (list_all is_tail (b ∷ c ∷ tail))) no ∙ at (eqb b 32) ∙ ends
  where
    at : (t : Bool) → cond (t && false) (ends_marker tail) (list_all is_tail (b ∷ c ∷ tail)) ≡ list_all is_tail (b ∷ c ∷ tail)
    at true = refl
    at false = refl

marker_ends : (flags tail : List ℕ) → list_all is_flag flags ≡ true → list_all is_tail tail ≡ true → ends_marker (flags_text flags ++ tail) ≡ true
marker_ends [] tail are ends = tail_ends tail ends
marker_ends (flag ∷ flags) tail are ends =
    let parts = and_parts (is_flag flag) (list_all is_flag flags) are in
    ap (λ t. cond t (ends_marker (flags_text flags ++ tail)) (list_all is_tail (32 ∷ flag ∷ (flags_text flags ++ tail)))) parts.0 ∙ marker_ends flags tail parts.1 ends

and-true : (t : Bool) → t ≡ (t && true)
and-true true = refl
and-true false = refl

-- bytes that don't begin with a flag behind a blank, and bytes that do

pub short_end : (bytes : List ℕ) → length bytes < 2 → ends_marker bytes ≡ list_all is_tail bytes
short_end [] short = refl
short_end (b ∷ []) short = and-true (is_tail b)
short_end (b ∷ c ∷ bytes) short = absurd (omega (arith, short))

pub no_blank_end : (bytes : List ℕ) → 2 ≤ length bytes → (get_or bytes 0 0 ≡ 32 → ⊥) → ends_marker bytes ≡ list_all is_tail bytes
no_blank_end [] long other = absurd (omega (arith, long))
no_blank_end (b ∷ []) long other = absurd (omega (arith, long))
no_blank_end (b ∷ c ∷ bytes) long other = ap (λ t. cond (t && is_flag c) (ends_marker bytes) (list_all is_tail (b ∷ c ∷ bytes))) (ne_eqb b 32 other)

pub no_flag_end : (bytes : List ℕ) → 2 ≤ length bytes → is_flag (get_or bytes 1 0) ≡ false → ends_marker bytes ≡ list_all is_tail bytes
no_flag_end [] long other = absurd (omega (arith, long))
no_flag_end (b ∷ []) long other = absurd (omega (arith, long))
no_flag_end (b ∷ c ∷ bytes) long other = ap (λ t. cond (eqb b 32 && t) (ends_marker bytes) (list_all is_tail (b ∷ c ∷ bytes))) other ∙ at (eqb b 32)
  where
    at : (t : Bool) → cond (t && false) (ends_marker bytes) (list_all is_tail (b ∷ c ∷ bytes)) ≡ list_all is_tail (b ∷ c ∷ bytes)
    at true = refl
    at false = refl

pub flag_end : (bytes : List ℕ) → 2 ≤ length bytes → get_or bytes 0 0 ≡ 32 → is_flag (get_or bytes 1 0) ≡ true → ends_marker bytes ≡ ends_marker (drop 2 bytes)
flag_end [] long blank flag = absurd (omega (arith, long))
flag_end (b ∷ []) long blank flag = absurd (omega (arith, long))
flag_end (b ∷ c ∷ bytes) long blank flag =
    ap (λ t. cond (t && is_flag c) (ends_marker bytes) (list_all is_tail (b ∷ c ∷ bytes))) (eq-eqb b 32 blank)
    ∙ ap (λ t. cond t (ends_marker bytes) (list_all is_tail (b ∷ c ∷ bytes))) flag

-- the bytes are flags, each behind one blank, and a tail
record EndsMarker (bytes : List ℕ) : Type 0 where
  flags : List ℕ
  tail : List ℕ
  is : bytes ≡ flags_text flags ++ tail
  are_flags : list_all is_flag flags ≡ true
  ends : list_all is_tail tail ≡ true

ends_step : (b flag : ℕ) (bytes : List ℕ) (t : Bool) → (eqb b 32 && is_flag flag) ≡ t → (ends_marker bytes ≡ true → EndsMarker bytes) → cond t (ends_marker bytes) (list_all is_tail (b ∷ flag ∷ bytes)) ≡ true → EndsMarker (b ∷ flag ∷ bytes)
ends_step b flag bytes true is later told =
    let parts = and_parts (eqb b 32) (is_flag flag) is in
    let more = later told in
    record { flags = flag ∷ more.flags; tail = more.tail; is = λ i. eqb-true b 32 parts.0 i ∷ flag ∷ more.is i; are_flags = and_from (is_flag flag) (list_all is_flag more.flags) parts.1 more.are_flags; ends = more.ends }
ends_step b flag bytes false is later told = record { flags = []; tail = b ∷ flag ∷ bytes; is = refl; are_flags = refl; ends = told }

ends_from : (bytes : List ℕ) → ends_marker bytes ≡ true → EndsMarker bytes
ends_from [] told = record { flags = []; tail = []; is = refl; are_flags = refl; ends = refl }
ends_from (b ∷ []) told = record { flags = []; tail = b ∷ []; is = refl; are_flags = refl; ends = and_from (is_tail b) true told refl }
ends_from (b ∷ flag ∷ bytes) told = ends_step b flag bytes (eqb b 32 && is_flag flag) refl (ends_from bytes) told

-- a line marker line is told

quoted_at : (number : ℕ) (name ends : List ℕ) → last_quote ends ≡ None → ends_marker ends ≡ true → quoted_line number (name ++ 34 ∷ ends) ≡ Some (record { file = name; line = number })
quoted_at number name ends none closes =
    let back : drop (length name + 1) (name ++ 34 ∷ ends) ≡ ends = ap (drop (length name + 1)) (sym (append_assoc name (34 ∷ []) ends)) ∙ drop_at (name ++ 34 ∷ []) ends (length name + 1) (length-append name (34 ∷ [])) in
    ap (option_and_then (λ i. cond (ends_marker (drop (i + 1) (name ++ 34 ∷ ends))) (Some (record { file = take i (name ++ 34 ∷ ends); line = number })) None)) (last_quote_at name ends none)
    ∙ ap (λ w. cond (ends_marker w) (Some (record { file = take (length name) (name ++ 34 ∷ ends); line = number })) None) back
    ∙ ap (λ t. cond t (Some (record { file = take (length name) (name ++ 34 ∷ ends); line = number })) None) closes
    ∙ ap (λ w. Some (record { file = w; line = number })) (take_at name (34 ∷ ends) (length name) refl)

blank_behind : (digits rest : List ℕ) → AllDigits 10 digits → position (λ b. eqb b 32) (digits ++ 32 ∷ rest) ≡ Some (length digits)
blank_behind digits rest are =
    let long = length-append digits (32 ∷ rest) in
    let first : position_or_len (λ b. eqb b 32) (digits ++ 32 ∷ rest) ≡ length digits =
    position_or_len_is (λ b. eqb b 32) (digits ++ 32 ∷ rest) (length digits) 0 (omega (arith, long))
    (λ k within. ne_eqb (get_or (digits ++ 32 ∷ rest) k 0) 32 (λ same. omega (arith, get_or_append_left digits (32 ∷ rest) 0 k within, digit_at digits k are within, same)))
    (λ within. ap (λ b. eqb b 32) (get_or_at digits 32 rest 0 (length digits) refl)) in
    ap (λ i. cond (ltb i (length (digits ++ 32 ∷ rest))) (Some i) None) first ∙ ap (λ t. cond t (Some (length digits)) None) (lt-ltb (length digits) (length (digits ++ 32 ∷ rest)) (omega (arith, long)))

numbered_at : (number : ℕ) (quoted : List ℕ) → number < 2 ^ 32 → numbered_line (decimal number ++ 32 ∷ 34 ∷ quoted) ≡ quoted_line number quoted
numbered_at number quoted small =
    let digits = decimal number in
    let bytes = digits ++ 32 ∷ 34 ∷ quoted in
    let wide : number < 2 ^ 64 = omega (arith, small) in
    ap (option_and_then (λ i. option_and_then (λ n. option_and_then (λ rest. quoted_line n rest) (behind (codes " \"") (drop i bytes))) (number_of (take i bytes)))) (blank_behind digits (34 ∷ quoted) (digits_decimal own number wide))
    ∙ ap (option_and_then (λ n. option_and_then (λ rest. quoted_line n rest) (behind (codes " \"") (drop (length digits) bytes)))) (number_of_decimal (take (length digits) bytes) number small (take_at digits (32 ∷ 34 ∷ quoted) (length digits) refl))
    ∙ ap (λ w. option_and_then (λ rest. quoted_line number rest) (behind (codes " \"") w)) (drop_at digits (32 ∷ 34 ∷ quoted) (length digits) refl)

-- the parts of a line marker line, one behind another
parts_joined : (margin digits name flags tail : List ℕ) → margin ++ codes "# " ++ digits ++ codes " \"" ++ name ++ codes "\"" ++ flags ++ tail ≡ margin ++ 35 ∷ 32 ∷ (digits ++ 32 ∷ 34 ∷ (name ++ 34 ∷ (flags ++ tail)))
parts_joined margin digits name flags tail = simp append_assoc

marker_told : (line : List ℕ) (next : FileLine) → IsMarkerLine line next → marker_of line ≡ Some next
marker_told line next is =
    let ends = flags_text is.flags ++ is.tail in
    ap marker_of (is.is ∙ parts_joined is.margin (decimal next.line) next.file (flags_text is.flags) is.tail)
    ∙ ap (λ w. option_and_then (λ bytes. numbered_line bytes) (behind (codes "# ") w)) (margin_passed is.margin 35 (32 ∷ (decimal next.line ++ 32 ∷ 34 ∷ (next.file ++ 34 ∷ ends))) is.blank refl)
    ∙ numbered_at next.line (next.file ++ 34 ∷ ends) is.small
    ∙ quoted_at next.line next.file ends (no_quote_at_end is.flags is.tail is.are_flags is.ends) (marker_ends is.flags is.tail is.are_flags is.ends)

-- what is told is a line marker line

-- the bytes behind the first double quote end a line marker
record Quotes (number : ℕ) (bytes : List ℕ) (next : FileLine) : Type 0 where
  number_is : next.line ≡ number
  ends : List ℕ
  is : bytes ≡ next.file ++ 34 ∷ ends
  closes : ends_marker ends ≡ true

quoted_from_at : (number : ℕ) (bytes : List ℕ) (i : ℕ) (next : FileLine) (t : Bool) → ends_marker (drop (i + 1) bytes) ≡ t → bytes ≡ take i bytes ++ 34 ∷ drop (i + 1) bytes → cond t (Some (record { file = take i bytes; line = number })) None ≡ Some next → Quotes number bytes next
quoted_from_at number bytes i next true closes splits told =
    let same : record { file = take i bytes; line = number } ≡ next = cc in
    record { number_is = sym (ap (λ (at : FileLine). at.line) same); ends = drop (i + 1) bytes; is = splits ∙ ap (λ (at : FileLine). at.file ++ 34 ∷ drop (i + 1) bytes) same; closes = closes }
quoted_from_at number bytes i next false closes splits told = cc

quoted_from : (number : ℕ) (bytes : List ℕ) (next : FileLine) (quote : Option ℕ) → last_quote bytes ≡ quote → option_and_then (λ i. cond (ends_marker (drop (i + 1) bytes)) (Some (record { file = take i bytes; line = number })) None) quote ≡ Some next → Quotes number bytes next
quoted_from number bytes next (Some i) is told = quoted_from_at number bytes i next (ends_marker (drop (i + 1) bytes)) refl (last_quote_from bytes i is) told
quoted_from number bytes next None is told = cc

-- the bytes behind the `# `
record Numbers (bytes : List ℕ) (next : FileLine) : Type 0 where
  number : ℕ
  quoted : List ℕ
  is : bytes ≡ decimal number ++ 32 ∷ 34 ∷ quoted
  small : number < 2 ^ 32
  quotes : Quotes number quoted next

word_from : (bytes : List ℕ) (i number : ℕ) (next : FileLine) (found : Option (List ℕ)) → behind (codes " \"") (drop i bytes) ≡ found → number_of (take i bytes) ≡ Some number → option_and_then (λ rest. quoted_line number rest) found ≡ Some next → Numbers bytes next
word_from bytes i number next (Some quoted) is digits told =
    let spelt = number_from (take i bytes) number digits in
    record {
      number = number;
      quoted = quoted;
      is = sym (take-append-drop i bytes) ∙ ap (λ w. w ++ drop i bytes) spelt.0 ∙ ap (λ w. decimal number ++ w) (behind_from (codes " \"") (drop i bytes) quoted is);
      small = spelt.1;
      quotes = quoted_from number quoted next (last_quote quoted) refl told;
    }
word_from bytes i number next None is digits told = cc

number_then : (bytes : List ℕ) (i : ℕ) (next : FileLine) (found : Option ℕ) → number_of (take i bytes) ≡ found → option_and_then (λ n. option_and_then (λ rest. quoted_line n rest) (behind (codes " \"") (drop i bytes))) found ≡ Some next → Numbers bytes next
number_then bytes i next (Some number) is told = word_from bytes i number next (behind (codes " \"") (drop i bytes)) refl is told
number_then bytes i next None is told = cc

numbered_from : (bytes : List ℕ) (next : FileLine) (found : Option ℕ) → option_and_then (λ i. option_and_then (λ n. option_and_then (λ rest. quoted_line n rest) (behind (codes " \"") (drop i bytes))) (number_of (take i bytes))) found ≡ Some next → Numbers bytes next
numbered_from bytes next (Some i) told = number_then bytes i next (number_of (take i bytes)) refl told
numbered_from bytes next None told = cc

marker_from_at : (line : List ℕ) (next : FileLine) (found : Option (List ℕ)) → behind (codes "# ") (behind_margin line) ≡ found → option_and_then (λ bytes. numbered_line bytes) found ≡ Some next → IsMarkerLine line next
marker_from_at line next None is told = cc
marker_from_at line next (Some bytes) is told =
    let front = margin_of line in
    let more : Numbers bytes next = numbered_from bytes next (position (λ b. eqb b 32) bytes) told in
    let quotes = more.quotes in
    let end = ends_from quotes.ends quotes.closes in
    record {
      margin = front.0;
      flags = end.flags;
      tail = end.tail;
      is = front.2 ∙ ap (λ w. front.0 ++ w) (behind_from (codes "# ") (behind_margin line) bytes is)
          ∙ ap (λ w. front.0 ++ 35 ∷ 32 ∷ w) (more.is ∙ ap (λ w. decimal more.number ++ 32 ∷ 34 ∷ w) (quotes.is ∙ ap (λ w. next.file ++ 34 ∷ w) end.is)
          ∙ ap (λ n. decimal n ++ 32 ∷ 34 ∷ (next.file ++ 34 ∷ (flags_text end.flags ++ end.tail))) (sym quotes.number_is))
          ∙ sym (parts_joined front.0 (decimal next.line) next.file (flags_text end.flags) end.tail);
      blank = front.1;
      small = (let s = more.small in let n = quotes.number_is in omega (arith, s, n));
      are_flags = end.are_flags;
      ends = end.ends;
    }

pub markers_are_told : MarkersAreTold
markers_are_told line next = (λ told. marker_from_at line next (behind (codes "# ") (behind_margin line)) refl told, marker_told line next)
