-- What the reader of white space answers, at each of its returns.
use Rattle.std.proofs.Common.{◌≡◌, ◌⊎◌, ◌≢◌, ℕ, ◌+◌, ◌<◌, ◌≤◌, List, [], ◌∷◌, ◌++◌, length, get_or, take, drop, zero, suc, refl, sym, ap, ◌∙◌, subst, inl, inr, arith, append_assoc, length-append, Some, Ok, Err}
use Rattle.std.specs.Prelude.{All}
use Rattle.std.proofs.Math.Seq.{take-add}
use Rattle.std.proofs.lemmas.List.{take_at, drop-drop, length-take-le, length-drop}
use Rattle.std.proofs.lemmas.List.Elements.{All-head, All-tail}
use Rattle.dm_base.specs.Name.{IsDigit, IsLetter}
use Rattle.c_lexer.specs.declared.token.TokenKind.{TokenKind}
use Rattle.c_lexer.specs.declared.token.TokenKind.TheVariants.{Punct}
use Rattle.c_lexer.specs.declared.error.Cause.{Cause}
use Rattle.c_lexer.specs.declared.error.Cause.TheVariants.{ForeignByte, OpenComment, Malformed, TooLarge, NoLineMarker}
use Rattle.c_lexer.specs.Codes.{code_of}
use Rattle.c_lexer.specs.Words.{punctuators, IsWordByte, IsNumberByte}
use Rattle.c_lexer.specs.TokenSpelling.{IsBlank, IsInLine, IsLineEnd, BeginsBlockComment, HasEndAfter, EndsInMargin, blank, line_comment, block_comment, line_marker, IsToken}
use Rattle.c_lexer.specs.Refusals.{BeginsNoToken, Holds}
use Rattle.c_lexer.specs.Reading.{HasNoWhite, ReadsWhite}
use Rattle.c_lexer.specs.WhiteParts.{IsLine, IsCommentEnd, IsMarkerHead, BeginsMarker}
use Rattle.c_lexer.specs.Elements.{IsQuote}
use Rattle.c_lexer.proofs.KindsBegin.{first_byte, same_first, letter_no_mark, spelled_first, first_no_marker}
use Rattle.c_lexer.proofs.KindsRuns.{whole_first, large_begins}
use Rattle.c_lexer.proofs.OneTokenWhite.{blank_low}

pub blank_reads : (front i : List ℕ) → 0 < length i → IsBlank (get_or i 0 0) → ReadsWhite front i (Ok (Some 1))
blank_reads front [] some is_blank = absurd (omega arith)
blank_reads front (b ∷ rest) some is_blank = (omega arith, omega arith, blank is_blank)

-- a text of two bytes and more
pub two_and_more : (i : List ℕ) (b c : ℕ) → 2 ≤ length i → get_or i 0 0 ≡ b → get_or i 1 0 ≡ c → i ≡ b ∷ c ∷ drop 2 i
two_and_more (x ∷ y ∷ i) b c long e f = cc
two_and_more i b c long e f = absurd (omega arith)

in_line_cons : (b : ℕ) (w : List ℕ) → b ≢ 10 → IsInLine w → IsInLine (b ∷ w)
in_line_cons b w other in_line (zero, below, is) = other is
in_line_cons b w other in_line (suc k, below, is) = in_line (k, omega arith, is)

-- a comment to the line's end
line_comment_at : (front r : List ℕ) (m : ℕ) → IsLine r m → ReadsWhite front (47 ∷ 47 ∷ r) (Ok (Some (suc (suc m))))
line_comment_at front r m line = (
  omega arith,
  omega (arith, line.within),
  line_comment ((take m r, refl), in_line_cons 47 (47 ∷ take m r) (λ e. omega arith) (in_line_cons 47 (take m r) (λ e. omega arith) line.in_line), line.ended),
)

pub line_comment_reads : (front i : List ℕ) (m : ℕ) → 2 ≤ length i → get_or i 0 0 ≡ 47 → get_or i 1 0 ≡ 47 → IsLine (drop 2 i) m → ReadsWhite front i (Ok (Some (2 + m)))
line_comment_reads front i m long e f line =
    let whole : i ≡ 47 ∷ 47 ∷ drop 2 i = two_and_more i 47 47 long e f in
    let count : 2 + m ≡ suc (suc m) = omega arith in
    subst (λ v. ReadsWhite front v (Ok (Some (2 + m)))) (sym whole)
    (subst (λ n. ReadsWhite front (47 ∷ 47 ∷ drop 2 i) (Ok (Some n))) (sym count) (line_comment_at front (drop 2 i) m line))

-- a comment to the first */
end_stays : (front inner rest : List ℕ) → HasEndAfter front inner → HasEndAfter front (inner ++ rest)
end_stays front inner rest (after, is) = (after ++ rest, ap (λ v. v ++ rest) is ∙ append_assoc front (42 ∷ 47 ∷ after) rest)

module _ (r : List ℕ) (n : ℕ) (ends : IsCommentEnd r n) where
  comment_rest : r ≡ (take n r ++ 42 ∷ 47 ∷ []) ++ ends.is.0
  comment_rest = ends.is.1 ∙ sym (append_assoc (take n r) (42 ∷ 47 ∷ []) ends.is.0)

  inner_length : length (take n r) ≡ n
  inner_length = length-take-le n r (omega (arith, ends.within))

  inner_whole : length (take n r ++ 42 ∷ 47 ∷ []) ≡ suc (suc n)
  inner_whole = let e = inner_length in omega (arith, length-append (take n r) (42 ∷ 47 ∷ []))

  comment_text : take (suc (suc n)) r ≡ take n r ++ 42 ∷ 47 ∷ []
  comment_text = ap (λ v. take (suc (suc n)) v) comment_rest ∙ take_at (take n r ++ 42 ∷ 47 ∷ []) ends.is.0 (suc (suc n)) inner_whole

  comment_first : (before : List ℕ) → HasEndAfter before (take n r ++ 42 ∷ 47 ∷ []) → length (take n r) ≤ length before
  comment_first before has =
      let e = inner_length in
      omega (arith, ends.first before (subst (HasEndAfter before) (sym comment_rest) (end_stays before (take n r ++ 42 ∷ 47 ∷ []) ends.is.0 has)))

  block_comment_at : (front : List ℕ) → ReadsWhite front (47 ∷ 42 ∷ r) (Ok (Some (suc (suc (suc (suc n))))))
  block_comment_at front = (
    omega arith,
    omega (arith, ends.within),
    block_comment (record {
      inner = take n r;
      is = ap (λ v. 47 ∷ 42 ∷ v) comment_text;
      first = comment_first;
    }),
  )

pub block_comment_reads : (front i : List ℕ) (n : ℕ) → 2 ≤ length i → get_or i 0 0 ≡ 47 → get_or i 1 0 ≡ 42 → IsCommentEnd (drop 2 i) n → ReadsWhite front i (Ok (Some (n + 4)))
block_comment_reads front i n long e f ends =
    let whole : i ≡ 47 ∷ 42 ∷ drop 2 i = two_and_more i 47 42 long e f in
    let count : n + 4 ≡ suc (suc (suc (suc n))) = omega arith in
    subst (λ v. ReadsWhite front v (Ok (Some (n + 4)))) (sym whole)
    (subst (λ m. ReadsWhite front (47 ∷ 42 ∷ drop 2 i) (Ok (Some m))) (sym count) (block_comment_at (drop 2 i) n ends front))

-- a comment without an end
slash_begins_a_token : BeginsNoToken 47 → ⊥
unfolding punctuators
slash_begins_a_token none = none (Punct 16) [] refl

no_lower_than_open : (i : List ℕ) → BeginsBlockComment i → (other : Cause) → code_of other < 2 → Holds other i → ⊥
no_lower_than_open i begins ForeignByte low (b, rest, is, no_hash, none) =
    let e = begins.1 in
    let same : b ≡ 47 = cc in
    slash_begins_a_token (subst BeginsNoToken same none)
no_lower_than_open i begins other low holds = omega arith

-- the bytes that stand first are one's own
first_apart : (i r s : List ℕ) (a b : ℕ) → a ≢ b → i ≡ a ∷ r → i ≡ b ∷ s → ⊥
first_apart i r s a b other e f = other (first_byte i r s a b e f)

no_white_in_open : (front i : List ℕ) → BeginsBlockComment i → ((before : List ℕ) → HasEndAfter before (drop 2 i) → ⊥) → HasNoWhite front i
no_white_in_open front i begins none w rest is (blank {b} h) = blank_low b h (omega (arith, first_byte i _ _ b 47 is begins.1))
no_white_in_open front i begins none w rest is (line_comment h) = absurd (let second : 42 ≡ 47 = ap (λ v. get_or v 1 0) (sym begins.1 ∙ is ∙ ap (λ v. v ++ rest) h.0.1) in omega arith)
no_white_in_open front i begins none w rest is (block_comment h) =
    let e : drop 2 i ≡ (h.inner ++ 42 ∷ 47 ∷ []) ++ rest = ap (drop 2) (is ∙ ap (λ v. v ++ rest) h.is) in
    none h.inner (rest, e ∙ append_assoc h.inner (42 ∷ 47 ∷ []) rest)
no_white_in_open front i begins none w rest is (line_marker h) = first_apart i _ _ 35 47 (omega arith) (is ∙ ap (λ v. v ++ rest) h.is) begins.1

pub open_reads : (front i : List ℕ) → 2 ≤ length i → get_or i 0 0 ≡ 47 → get_or i 1 0 ≡ 42 → ((before : List ℕ) → HasEndAfter before (drop 2 i) → ⊥) → ReadsWhite front i (Err OpenComment)
open_reads front i long e f none =
    let begins : BeginsBlockComment i = (drop 2 i, two_and_more i 47 42 long e f) in (
      no_white_in_open front i begins none,
      record {
        holds = (begins, none);
        least = no_lower_than_open i begins;
        no_token = λ kind w rest is token. token.no_block_comment (subst BeginsBlockComment is begins);
      },
    )

-- a line marker
marker_front : (w : List ℕ) → IsMarkerHead w → (line : List ℕ) (digits : List ℕ) → w ≡ 35 ∷ 32 ∷ digits ++ 32 ∷ 34 ∷ [] → w ++ line ≡ 35 ∷ 32 ∷ digits ++ 32 ∷ 34 ∷ line
marker_front w head line digits is = ap (λ v. v ++ line) is ∙ ap (λ v. 35 ∷ 32 ∷ v) (append_assoc digits (32 ∷ 34 ∷ []) line)

digits_in_line : (digits : List ℕ) → All IsDigit digits → (rest : List ℕ) → IsInLine rest → IsInLine (digits ++ rest)
digits_in_line [] all rest in_line = in_line
digits_in_line (b ∷ digits) all rest in_line =
    let digit : IsDigit b = All-head IsDigit b digits all in
    in_line_cons b (digits ++ rest) (λ e. omega arith) (digits_in_line digits (All-tail IsDigit b digits all) rest in_line)

marker_in_line : (w line : List ℕ) → IsMarkerHead w → IsInLine line → IsInLine (w ++ line)
marker_in_line w line head in_line =
    subst IsInLine (sym (marker_front w head line head.digits head.is))
    (in_line_cons 35 (32 ∷ head.digits ++ 32 ∷ 34 ∷ line) (λ e. omega arith) (in_line_cons 32 (head.digits ++ 32 ∷ 34 ∷ line) (λ e. omega arith) (digits_in_line head.digits head.are_digits (32 ∷ 34 ∷ line) (in_line_cons 32 (34 ∷ line) (λ e. omega arith) (in_line_cons 34 line (λ e. omega arith) in_line)))))

pub marker_reads : (front i : List ℕ) (n m : ℕ) → EndsInMargin front → n ≤ length i → IsMarkerHead (take n i) → IsLine (drop n i) m → ReadsWhite front i (Ok (Some (n + m)))
marker_reads front i n m margin within head line =
    let long : length (take n i) ≡ n = length-take-le n i within in
    let size : length (take n i) ≡ length (35 ∷ 32 ∷ head.digits ++ 32 ∷ 34 ∷ []) = ap length head.is in (
      omega arith,
      omega (arith, line.within, length-drop n i),
      line_marker (record {
        margin = margin;
        digits = head.digits;
        name = take m (drop n i);
        is = take-add n m i ∙ marker_front (take n i) head (take m (drop n i)) head.digits head.is;
        some = head.some;
        are_digits = head.are_digits;
        in_line = subst IsInLine (sym (take-add n m i)) (marker_in_line (take n i) (take m (drop n i)) head line.in_line);
        ended = subst IsLineEnd (drop-drop m n i) line.ended;
      }),
    )

-- a # that begins no line marker
no_white_at_hash : (front i r : List ℕ) → i ≡ 35 ∷ r → (EndsInMargin front → BeginsMarker i → ⊥) → HasNoWhite front i
no_white_at_hash front i r begins none w rest is (blank {b} h) = blank_low b h (omega (arith, first_byte i _ r b 35 is begins))
no_white_at_hash front i r begins none w rest is (line_comment h) = first_apart i r _ 35 47 (omega arith) begins (is ∙ ap (λ v. v ++ rest) h.0.1)
no_white_at_hash front i r begins none w rest is (block_comment h) = first_apart i r _ 35 47 (omega arith) begins (is ∙ ap (λ v. v ++ rest) h.is)
no_white_at_hash front i r begins none w rest is (line_marker h) = none h.margin (
  35 ∷ 32 ∷ h.digits ++ 32 ∷ 34 ∷ [],
  h.name ++ rest,
  is ∙ ap (λ v. v ++ rest) h.is ∙ ap (λ v. 35 ∷ 32 ∷ v) (append_assoc h.digits (32 ∷ 34 ∷ h.name) rest ∙ sym (append_assoc h.digits (32 ∷ 34 ∷ []) (h.name ++ rest))),
  record { digits = h.digits; is = refl; some = h.some; are_digits = h.are_digits },
)

no_lower_than_marker : (r : List ℕ) (other : Cause) → code_of other < 5 → Holds other (35 ∷ r) → ⊥
no_lower_than_marker r ForeignByte low (b, rest, is, no_hash, none) = no_hash (cc)
no_lower_than_marker r OpenComment low holds = first_apart (35 ∷ r) r _ 35 47 (omega arith) refl holds.0.1
no_lower_than_marker r Malformed low (inl (w, whole, none)) = let digit = same_first IsDigit (35 ∷ r) 35 r (whole_first IsDigit IsNumberByte w (35 ∷ r) whole) refl in omega arith
no_lower_than_marker r Malformed low (inr (inl (rest, is, none))) = first_apart (35 ∷ r) r rest 35 39 (omega arith) refl is
no_lower_than_marker r Malformed low (inr (inr (inl (rest, is, none)))) = first_apart (35 ∷ r) r rest 35 34 (omega arith) refl is
no_lower_than_marker r Malformed low (inr (inr (inr (w, whole, long)))) = letter_no_mark 35 35 (omega arith) (same_first IsLetter (35 ∷ r) 35 r (whole_first IsLetter IsWordByte w (35 ∷ r) whole) refl) refl
no_lower_than_marker r TooLarge low h = let first = same_first (λ b. IsDigit b ⊎ IsQuote b) (35 ∷ r) 35 r (large_begins (35 ∷ r) h) refl in grind arith
no_lower_than_marker r other low holds = omega arith

no_token_at_hash : (i r : List ℕ) → i ≡ 35 ∷ r → (kind : TokenKind) (w rest : List ℕ) → i ≡ w ++ rest → IsToken kind w rest → ⊥
no_token_at_hash i r begins kind w rest is token = first_no_marker kind (spelled_first kind w rest r 35 token.spells (sym is ∙ begins))

pub no_marker_reads : (front i r : List ℕ) → i ≡ 35 ∷ r → (EndsInMargin front → BeginsMarker i → ⊥) → ReadsWhite front i (Err NoLineMarker)
no_marker_reads front i r begins none = (
  no_white_at_hash front i r begins none,
  record {
    holds = (r, begins);
    least = λ other low holds. no_lower_than_marker r other low (subst (Holds other) begins holds);
    no_token = no_token_at_hash i r begins;
  },
)
