-- Runs of bytes that are taken whole, and the causes that may hold by the first byte of a text.
use Rattle.std.proofs.Common.{◌≡◌, ◌⊎◌, ◌≤◌, ◌<◌, ◌+◌, ◌^◌, ℕ, zero, suc, true, false, cond, Some, None, List, [], ◌∷◌, ◌++◌, length, get_or, take, drop, All, refl, ap, sym, ◌∙◌, subst, inl, inr, ⊎_elim, arith}
use Rattle.std.specs.Char.{digit_value}
use Rattle.std.specs.Str.Parse.{digits_value}
use Rattle.std.proofs.lemmas.Bool.{cases_lt, lt-ltb}
use Rattle.std.proofs.lemmas.Bool.Decides.{nat_tests}
use Rattle.std.proofs.lemmas.Int.Digits.{digits_value-lt}
use Rattle.std.proofs.lemmas.List.{drop_all, take_all, drop_more, length-take-le, take-append-drop, get_or_append_left, length-append}
use Rattle.std.proofs.lemmas.List.Elements.{All-nil, All-cons, All-same, All-tail}
use Rattle.dm_base.specs.Name.{IsName, IsLetter, IsDigit}
use Rattle.c_lexer.specs.declared.token.TokenKind.TheVariants.{Name, Int}
use Rattle.c_lexer.specs.declared.error.Cause.{Cause}
use Rattle.c_lexer.specs.Codes.{code_of}
use Rattle.c_lexer.specs.declared.error.Cause.TheVariants.{ForeignByte, OpenComment, Malformed, TooLarge, NoLineMarker}
use Rattle.c_lexer.specs.Words.{IsWord, IsNumber, IsRun, IsWordByte, IsNumberByte}
use Rattle.c_lexer.specs.Literals.{IsLongest}
use Rattle.c_lexer.specs.Kinds.{Spells}
use Rattle.c_lexer.specs.Refusals.{Holds, IsWhole, IsMalformedNumber, IsLongWord, HasLargeElement}
use Rattle.c_lexer.specs.Parts.{BeginsWith}
use Rattle.c_lexer.specs.Elements.{IsQuote}
use Rattle.c_lexer.specs.Runs.{IsRunLength}
use Rattle.dm_base.proofs.Names.{IsName-from_parts}
use Rattle.c_lexer.proofs.KindsBegin.{zero_spelled, run_begins, same_first, first_apart, whole_begins, letter_no_digit}
use Rattle.c_lexer.proofs.WordTables.{c99_is_fixed}

-- the front of a text with a first byte is a run
module _ (First Later : ℕ → Type 0) (sub : (b : ℕ) → First b → Later b) where
  front_is_run : (b : ℕ) (rest : List ℕ) (n : ℕ) → First b → IsRunLength Later (b ∷ rest) n → IsRun First Later (take n (b ∷ rest))
  front_is_run b rest zero first front = absurd (front.ends b rest refl (sub b first))
  front_is_run b rest (suc n) first front = (first, All-tail Later b (take n rest) front.each)

  run_is_all : (w : List ℕ) → IsRun First Later w → All Later w
  run_is_all [] h = absurd h
  run_is_all (b ∷ w) h = All-cons Later b w (sub b h.0) h.1

  no_more : (i x y : List ℕ) (n : ℕ) → IsRunLength Later i n → i ≡ x ++ y → All Later x → n < length x → ⊥
  no_more i x y n front stands each more =
      let all : length i ≡ length (x ++ y) = ap length stands in
      let sum : length (x ++ y) ≡ length x + length y = length-append x y in
      let within : n < length i = omega arith in
      let here : get_or i n 0 ≡ get_or x n 0 = ap (λ v. get_or v n 0) stands ∙ get_or_append_left x y 0 n more in
      front.ends (get_or i n 0) (drop (n + 1) i) (drop_more i n 0 within) (subst Later (sym here) (each n 0 more))

  run_longer : (i x y : List ℕ) (n : ℕ) → IsRunLength Later i n → i ≡ x ++ y → IsRun First Later x → length x ≤ n
  run_longer i x y n front stands run =
      ⊎_elim (λ more. absurd (no_more i x y n front stands (run_is_all x run) more)) (λ less. less) (cases_lt n (length x))

  pub front_longest : (i : List ℕ) (n : ℕ) → BeginsWith First i → IsRunLength Later i n → IsLongest (IsRun First Later) (take n i) i (drop n i)
  front_longest i n (b, rest, is, first) front = record {
    is = subst (λ v. IsRun First Later (take n v)) (sym is) (front_is_run b rest n first (subst (λ v. IsRunLength Later v n) is front));
    stands = sym (take-append-drop n i);
    longest = λ x y stands run. subst (λ m. length x ≤ m) (sym (length-take-le n i front.within)) (run_longer i x y n front stands run);
  }

pub word_longest : (i : List ℕ) (n : ℕ) → BeginsWith IsLetter i → IsRunLength IsWordByte i n → IsLongest IsWord (take n i) i (drop n i)
word_longest = front_longest IsLetter IsWordByte (λ b h. inl h)

pub number_longest : (i : List ℕ) (n : ℕ) → BeginsWith IsDigit i → IsRunLength IsNumberByte i n → IsLongest IsNumber (take n i) i (drop n i)
number_longest = front_longest IsDigit IsNumberByte (λ b h. inl (inr h))

-- a letter is a name by itself
letter_is_name : (b : ℕ) → IsLetter b → IsName (b ∷ [])
letter_is_name b h =
    IsName-from_parts (b ∷ []) (omega arith) (omega arith) (letter_no_digit b h) (All-cons IsWordByte b [] (inl h) (All-nil IsWordByte)) (λ among. let fixed = c99_is_fixed (b ∷ []) among in omega (arith, fixed.long))

pub letter_no_foreign : (i : List ℕ) → BeginsWith IsLetter i → Holds ForeignByte i → ⊥
letter_no_foreign i first (b, rest, is, _, none) = none (Name (b ∷ [])) [] (refl, letter_is_name b (same_first IsLetter i b rest first is))

-- a digit is a constant by itself
digit_value_of : (b : ℕ) → IsDigit b → digit_value b < 10
digit_value_of b h = grind (arith, nat_tests)

digit_below : (b : ℕ) → IsDigit b → digits_value 10 (b ∷ []) < 2 ^ 31
digit_below b h = let small : digits_value 10 (b ∷ []) < 10 ^ 1 = digits_value-lt 10 (b ∷ []) (digit_value_of b h, tt) in omega arith

digit_is_spelled : (b : ℕ) → IsDigit b → (n : ℕ) × Spells (Int n false) (b ∷ [])
digit_is_spelled b h =
    ⊎_elim (λ low. let P : ℕ → Type 0 = λ c. (n : ℕ) × Spells (Int n false) (c ∷ []) in let is : 48 ≡ b = omega arith in subst P is (0, zero_spelled))
    (λ high. (
      digits_value 10 (b ∷ []),
      (
        true,
        false,
        record {
          digits = b ∷ [];
          suffix = [];
          is = refl;
          number = (λ e. omega arith, (digit_value_of b h, tt), refl);
          ended = refl;
        },
        ap (λ t. cond t (Some false) None) (lt-ltb (digits_value 10 (b ∷ [])) (2 ^ 31) (digit_below b h)),
      ),
    ))
    (cases_lt b 49)

pub digit_no_foreign : (i : List ℕ) → BeginsWith IsDigit i → Holds ForeignByte i → ⊥
digit_no_foreign i first (b, rest, is, _, none) =
    let spelled = digit_is_spelled b (same_first IsDigit i b rest first is) in none (Int spelled.0 false) [] spelled.1

pub no_comment : (P : ℕ → Type 0) (i : List ℕ) → (P 47 → ⊥) → BeginsWith P i → Holds OpenComment i → ⊥
no_comment P i slash first ((rest, is), _) = slash (same_first P i 47 (42 ∷ rest) first is)

pub no_marker : (P : ℕ → Type 0) (i : List ℕ) → (P 35 → ⊥) → BeginsWith P i → Holds NoLineMarker i → ⊥
no_marker P i sharp first (rest, is) = sharp (same_first P i 35 rest first is)

-- where the first causes don't hold, no cause below another one does
pub below_malformed : (i : List ℕ) → (Holds ForeignByte i → ⊥) → (Holds OpenComment i → ⊥) → (other : Cause) → code_of other < 3 → Holds other i → ⊥
below_malformed i foreign comment ForeignByte low h = foreign h
below_malformed i foreign comment OpenComment low h = comment h
below_malformed i foreign comment other low h = omega arith

pub below_large : (i : List ℕ) → (Holds ForeignByte i → ⊥) → (Holds OpenComment i → ⊥) → (Holds Malformed i → ⊥) → (other : Cause) → code_of other < 4 → Holds other i → ⊥
below_large i foreign comment malformed Malformed low h = malformed h
below_large i foreign comment malformed other low h = below_malformed i foreign comment other (omega arith) h

pub whole_first : (First Later : ℕ → Type 0) (w i : List ℕ) → IsWhole (IsRun First Later) w i → BeginsWith First i
whole_first First Later w i (rest, taken) = whole_begins First i w rest taken.stands (run_begins First Later w taken.is)

pub large_element_begins : (i : List ℕ) → HasLargeElement i → BeginsWith IsQuote i
large_element_begins i (w, after, vs, stands, inl string, _) = whole_begins IsQuote i w after stands (34, string.0, string.1, inr refl)
large_element_begins i (w, after, vs, stands, inr character, _) = let c = character.2 in whole_begins IsQuote i w after stands (39, c.0, c.1, inl refl)

pub letter_no_quote : (b : ℕ) → IsLetter b → IsQuote b → ⊥
letter_no_quote b h quote = grind arith

pub digit_no_quote : (b : ℕ) → IsDigit b → IsQuote b → ⊥
digit_no_quote b h quote = grind arith

-- where a letter stands first no literal is malformed, and none is too large
pub letter_malformed : (i : List ℕ) → BeginsWith IsLetter i → Holds Malformed i → IsLongWord i
letter_malformed i first (inl (w, whole, _)) = absurd (first_apart IsLetter IsDigit i letter_no_digit first (whole_first IsDigit IsNumberByte w i whole))
letter_malformed i first (inr (inl (rest, is, _))) = absurd (first_apart IsLetter IsQuote i letter_no_quote first (39, rest, is, inl refl))
letter_malformed i first (inr (inr (inl (rest, is, _)))) = absurd (first_apart IsLetter IsQuote i letter_no_quote first (34, rest, is, inr refl))
letter_malformed i first (inr (inr (inr long))) = long

pub large_begins : (i : List ℕ) → Holds TooLarge i → BeginsWith (λ b. IsDigit b ⊎ IsQuote b) i
large_begins i (inl (w, n, d, s, whole, _, _)) = let (b, rest, is, h) = whole_first IsDigit IsNumberByte w i whole in (b, rest, is, inl h)
large_begins i (inr large) = let (b, rest, is, h) = large_element_begins i large in (b, rest, is, inr h)

pub letter_no_large : (i : List ℕ) → BeginsWith IsLetter i → Holds TooLarge i → ⊥
letter_no_large i first h = first_apart IsLetter (λ b. IsDigit b ⊎ IsQuote b) i (λ b x y. grind arith) first (large_begins i h)

-- where a digit stands first what is malformed is a number
pub digit_malformed : (i : List ℕ) → BeginsWith IsDigit i → Holds Malformed i → IsMalformedNumber i
digit_malformed i first (inl number) = number
digit_malformed i first (inr (inl (rest, is, _))) = absurd (first_apart IsDigit IsQuote i digit_no_quote first (39, rest, is, inl refl))
digit_malformed i first (inr (inr (inl (rest, is, _)))) = absurd (first_apart IsDigit IsQuote i digit_no_quote first (34, rest, is, inr refl))
digit_malformed i first (inr (inr (inr (w, whole, _)))) = absurd (first_apart IsLetter IsDigit i letter_no_digit (whole_first IsLetter IsWordByte w i whole) first)

pub front_whole : (Later : ℕ → Type 0) (i : List ℕ) (n : ℕ) → length i ≤ n → All Later (take n i) → IsRunLength Later i (length i)
front_whole Later i n long each = record {
  within = omega arith;
  each = All-same Later (take (length i) i) (take n i) (take_all (length i) i (omega arith) ∙ sym (take_all n i long)) each;
  ends = λ b rest is. let none : drop (length i) i ≡ [] = drop_all (length i) i (omega arith) in absurd (let e : [] ≡ b ∷ rest = sym none ∙ is in cc);
}
