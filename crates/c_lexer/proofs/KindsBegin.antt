-- With which byte the text of a token begins, and what stands at the front of a text.
use Rattle.std.proofs.Common.{◌≡◌, ◌⊎◌, ◌≤◌, ◌<◌, ℕ, Bool, true, false, List, [], ◌∷◌, ◌++◌, length, take, drop, All, Contains, refl, ap, sym, ◌∙◌, subst, inl, inr, arith}
use Rattle.std.proofs.Math.Seq.{take-append_seam, drop-append_seam}
use Rattle.std.proofs.lemmas.List.{length-append}
use Rattle.std.specs.Char.{digit_value}
use Rattle.std.specs.Str.Parse.{AllDigits}
use Rattle.std.proofs.lemmas.Str.Parse.{digit_from_value}
use Rattle.std.proofs.lemmas.Bool.Decides.{nat_tests}
use Rattle.std.proofs.lemmas.List.Elements.{All-nil, All-cons, All-append, All-tail}
use Rattle.dm_base.specs.Name.{IsName, IsLetter, IsDigit}
use Rattle.c_lexer.specs.declared.token.TokenKind.{TokenKind}
use Rattle.c_lexer.specs.declared.token.TokenKind.TheVariants.{Name, Keyword, Int, Char, Str, Punct}
use Rattle.c_lexer.specs.Words.{keywords, punctuators, IsWord, IsNumber, IsRun, IsWordByte, IsNumberByte}
use Rattle.c_lexer.specs.Literals.{IsConstant, HasNumber, IsSuffix, IsCharacter, IsString, IsLongest}
use Rattle.c_lexer.specs.Kinds.{Spells, IsLexeme}
use Rattle.c_lexer.specs.TokenSpelling.{IsToken}
use Rattle.c_lexer.specs.Parts.{BeginsWith, IsOther}
use Rattle.c_lexer.proofs.LiteralOne.{same_parts}
use Rattle.c_lexer.proofs.WordTables.{IsMark, punctuator_mark, keyword_is_fixed, punctuator_begins, number_Contains}

pub whole_begins : (P : ℕ → Type 0) (i w j : List ℕ) → i ≡ w ++ j → BeginsWith P w → BeginsWith P i
whole_begins P i w j stands (b, rest, is, h) = (b, rest ++ j, stands ∙ ap (λ v. v ++ j) is, h)

-- the bytes of the digits
pub digit_is_word_byte : (c : ℕ) → digit_value c < 36 → IsWordByte c
digit_is_word_byte c h = grind (arith, nat_tests)

x_is_number_byte : (x : ℕ) → (x ≡ 120) ⊎ (x ≡ 88) → IsNumberByte x
x_is_number_byte x h = grind arith

-- a predicate that digits and x have holds of each byte of a number
module _ (P : ℕ → Type 0) (digit : (b : ℕ) → digit_value b < 16 → P b) (mark : (x : ℕ) → (x ≡ 120) ⊎ (x ≡ 88) → P x) where
  digits_all : (radix : ℕ) (w : List ℕ) → radix ≤ 16 → AllDigits radix w → All P w
  digits_all radix [] small h = All-nil P
  digits_all radix (c ∷ w) small h = All-cons P c w (digit c (omega (arith, h.0))) (digits_all radix w small h.1)

  pub number_all : (w : List ℕ) (n : ℕ) (decimal : Bool) → HasNumber w n decimal → All P w
  number_all [] n true h = absurd h
  number_all (d ∷ w) n true h = digits_all 10 (d ∷ w) (omega arith) h.1
  number_all w n false (inl (digits, is, each, _)) = subst (All P) (sym is) (All-cons P 48 digits (digit 48 (omega arith)) (digits_all 8 digits (omega arith) each))
  number_all w n false (inr (x, digits, is, marks, _, each, _)) =
      subst (All P) (sym is) (All-cons P 48 (x ∷ digits) (digit 48 (omega arith)) (All-cons P x digits (mark x marks) (digits_all 16 digits (omega arith) each)))

number_starts : (w : List ℕ) (n : ℕ) (decimal : Bool) → HasNumber w n decimal → BeginsWith IsDigit w
number_starts [] n true h = absurd h
number_starts (d ∷ w) n true h = (d, w, refl, digit_from_value d h.1.0)
number_starts w n false (inl (digits, is, _, _)) = (48, digits, is, (omega arith, omega arith))
number_starts w n false (inr (x, digits, is, _, _, _, _)) = (48, x ∷ digits, is, (omega arith, omega arith))

suffix_bytes : (v : List ℕ) (suffixed : Bool) → IsSuffix suffixed v → All IsNumberByte v
suffix_bytes v true (inl is) = subst (All IsNumberByte) (sym is) (All-cons IsNumberByte 117 [] (inl (inl (inr (inl (omega arith, omega arith))))) (All-nil IsNumberByte))
suffix_bytes v true (inr is) = subst (All IsNumberByte) (sym is) (All-cons IsNumberByte 85 [] (inl (inl (inl (omega arith, omega arith)))) (All-nil IsNumberByte))
suffix_bytes v false is = subst (All IsNumberByte) (sym is) (All-nil IsNumberByte)

pub constant_is_number : (w : List ℕ) (n : ℕ) (decimal suffixed : Bool) → IsConstant w n decimal suffixed → IsNumber w
constant_is_number w n decimal suffixed c =
    let (b, rest, is, first) = whole_begins IsDigit w c.digits c.suffix c.is (number_starts c.digits n decimal c.number) in
    let digits = number_all IsNumberByte (λ c h. inl (digit_is_word_byte c (omega arith))) x_is_number_byte c.digits n decimal c.number in
    let all = All-append IsNumberByte c.digits c.suffix digits (suffix_bytes c.suffix suffixed c.ended) in
    subst IsNumber (sym is) (first, All-tail IsNumberByte b rest (subst (All IsNumberByte) (sym c.is ∙ is) all))

pub name_is_word : (w : List ℕ) → IsName w → IsWord w
name_is_word [] name = absurd (omega (arith, name.some))
name_is_word (b ∷ w) name = (name.begins b w refl, All-tail IsWordByte b w name.bytes)

-- each text of a token is one that is taken whole
pub spelled_is_lexeme : (kind : TokenKind) (w : List ℕ) → Spells kind w → IsLexeme w
spelled_is_lexeme (Name name) w h = inl (name_is_word w h.1)
spelled_is_lexeme (Keyword k) w h = inl (keyword_is_fixed w (number_Contains keywords k w h)).word
spelled_is_lexeme (Int value unsigned) w h = inr (inl (constant_is_number w value h.0 h.1 h.2))
spelled_is_lexeme (Char c) w h = inr (inr (inl (h.0, h.1)))
spelled_is_lexeme (Str bytes) w h = inr (inr (inr (inl (bytes, h.0))))
spelled_is_lexeme (Punct p) w h = inr (inr (inr (inr (number_Contains punctuators p w h))))

-- the four first bytes, and what else there is
pub run_begins : (First Later : ℕ → Type 0) (w : List ℕ) → IsRun First Later w → BeginsWith First w
run_begins First Later [] h = absurd h
run_begins First Later (b ∷ w) h = (b, w, refl, h.0)

pub same_first : (P : ℕ → Type 0) (i : List ℕ) (b : ℕ) (rest : List ℕ) → BeginsWith P i → i ≡ b ∷ rest → P b
same_first P i b rest (c, more, is, h) e = let same : c ≡ b = cc in subst P same h

pub first_byte : (i r s : List ℕ) (a b : ℕ) → i ≡ a ∷ r → i ≡ b ∷ s → a ≡ b
first_byte i r s a b e f = cc

pub front_has : (P : ℕ → Type 0) (w r i : List ℕ) (b : ℕ) → BeginsWith P w → w ++ r ≡ b ∷ i → P b
front_has P w r i b first e = same_first P (w ++ r) b i (whole_begins P (w ++ r) w r refl first) e

-- first bytes that differ
pub first_apart : (P Q : ℕ → Type 0) (i : List ℕ) → ((b : ℕ) → P b → Q b → ⊥) → BeginsWith P i → BeginsWith Q i → ⊥
first_apart P Q i apart p (b, rest, is, q) = apart b (same_first P i b rest p is) q

pub letter_no_digit : (b : ℕ) → IsLetter b → IsDigit b → ⊥
letter_no_digit b a d = grind arith

pub letter_no_mark : (b n : ℕ) → n < 65 → IsLetter b → b ≡ n → ⊥
letter_no_mark b n low a e = grind arith

pub digit_no_mark : (b n : ℕ) → n < 48 → IsDigit b → b ≡ n → ⊥
digit_no_mark b n low d e = omega arith

pub character_begins : (w : List ℕ) (v : ℕ) → IsCharacter w v → BeginsWith (λ b. b ≡ 39) w
character_begins w v (i, is, _) = (39, i, is, refl)

pub string_begins : (w vs : List ℕ) → IsString w vs → BeginsWith (λ b. b ≡ 34) w
string_begins w vs (i, is, _) = (34, i, is, refl)

pub letter_lexeme : (w : List ℕ) → IsLexeme w → BeginsWith IsLetter w → IsWord w
letter_lexeme w (inl h) first = h
letter_lexeme w (inr (inl h)) first = absurd (first_apart IsLetter IsDigit w letter_no_digit first (run_begins IsDigit IsNumberByte w h))
letter_lexeme w (inr (inr (inl (v, h)))) first = absurd (first_apart IsLetter (λ b. b ≡ 39) w (λ b. letter_no_mark b 39 (omega arith)) first (character_begins w v h))
letter_lexeme w (inr (inr (inr (inl (vs, h))))) first = absurd (first_apart IsLetter (λ b. b ≡ 34) w (λ b. letter_no_mark b 34 (omega arith)) first (string_begins w vs h))
letter_lexeme w (inr (inr (inr (inr h)))) first = absurd (first_apart IsLetter IsOther w (λ b letter other. other.no_letter letter) first (punctuator_begins w h))

pub digit_lexeme : (w : List ℕ) → IsLexeme w → BeginsWith IsDigit w → IsNumber w
digit_lexeme w (inl h) first = absurd (first_apart IsLetter IsDigit w letter_no_digit (run_begins IsLetter IsWordByte w h) first)
digit_lexeme w (inr (inl h)) first = h
digit_lexeme w (inr (inr (inl (v, h)))) first = absurd (first_apart IsDigit (λ b. b ≡ 39) w (λ b. digit_no_mark b 39 (omega arith)) first (character_begins w v h))
digit_lexeme w (inr (inr (inr (inl (vs, h))))) first = absurd (first_apart IsDigit (λ b. b ≡ 34) w (λ b. digit_no_mark b 34 (omega arith)) first (string_begins w vs h))
digit_lexeme w (inr (inr (inr (inr h)))) first = absurd (first_apart IsDigit IsOther w (λ b digit other. other.no_digit digit) first (punctuator_begins w h))

pub other_lexeme : (w : List ℕ) → IsLexeme w → BeginsWith IsOther w → Contains punctuators w
other_lexeme w (inl h) first = absurd (first_apart IsLetter IsOther w (λ b letter other. other.no_letter letter) (run_begins IsLetter IsWordByte w h) first)
other_lexeme w (inr (inl h)) first = absurd (first_apart IsDigit IsOther w (λ b digit other. other.no_digit digit) (run_begins IsDigit IsNumberByte w h) first)
other_lexeme w (inr (inr (inl (v, h)))) first = absurd (first_apart IsOther (λ b. b ≡ 39) w (λ b other is. other.no_single is) first (character_begins w v h))
other_lexeme w (inr (inr (inr (inl (vs, h))))) first = absurd (first_apart IsOther (λ b. b ≡ 34) w (λ b other is. other.no_double is) first (string_begins w vs h))
other_lexeme w (inr (inr (inr (inr h)))) first = h

begins_some : (P : ℕ → Type 0) (w : List ℕ) → BeginsWith P w → (b : ℕ) × (rest : List ℕ) × (w ≡ b ∷ rest)
begins_some P w (b, rest, is, _) = (b, rest, is)

pub lexeme_some : (w : List ℕ) → IsLexeme w → (b : ℕ) × (rest : List ℕ) × (w ≡ b ∷ rest)
lexeme_some w (inl h) = begins_some _ w (run_begins IsLetter IsWordByte w h)
lexeme_some w (inr (inl h)) = begins_some _ w (run_begins IsDigit IsNumberByte w h)
lexeme_some w (inr (inr (inl (v, h)))) = begins_some _ w (character_begins w v h)
lexeme_some w (inr (inr (inr (inl (vs, h))))) = begins_some _ w (string_begins w vs h)
lexeme_some w (inr (inr (inr (inr h)))) = begins_some _ w (punctuator_begins w h)

-- the first byte of a front is that of the text
pub front_begins : (P : ℕ → Type 0) (i w j : List ℕ) (b : ℕ) (rest : List ℕ) → i ≡ w ++ j → w ≡ b ∷ rest → BeginsWith P i → BeginsWith P w
front_begins P i w j b rest stands is first =
    (b, rest, is, same_first P i b (rest ++ j) first (stands ∙ ap (λ v. v ++ j) is))

-- which bytes begin a text of the kind
abbrev pub FirstOf : TokenKind → ℕ → Type 0
FirstOf (Int value unsigned) b = IsDigit b
FirstOf (Char c) b = b ≡ 39
FirstOf (Str bytes) b = b ≡ 34
FirstOf (Punct p) b = IsMark b
FirstOf a b = IsLetter b

-- the first byte of a token's text
pub begins : (kind : TokenKind) (w : List ℕ) → Spells kind w → BeginsWith (FirstOf kind) w
begins (Name name) w h = run_begins IsLetter IsWordByte w (name_is_word w h.1)
begins (Keyword k) w h = run_begins IsLetter IsWordByte w (keyword_is_fixed w (number_Contains keywords k w h)).word
begins (Int value unsigned) w h = run_begins IsDigit IsNumberByte w (constant_is_number w value h.0 h.1 h.2)
begins (Char c) w h = character_begins w h.0 h.1
begins (Str bytes) w h = string_begins w bytes h.0
begins (Punct p) w h = punctuator_mark w (number_Contains punctuators p w h)

-- the first byte of what follows a front that spells a token
pub spelled_first : (kind : TokenKind) (w r i : List ℕ) (b : ℕ) → Spells kind w → w ++ r ≡ b ∷ i → FirstOf kind b
spelled_first kind w r i b spells = front_has (FirstOf kind) w r i b (begins kind w spells)

-- the bytes that begin a token are neither white space nor a #
pub first_no_marker : (kind : TokenKind) → FirstOf kind 35 → ⊥
first_no_marker (Punct p) h = h.no_marker refl
first_no_marker kind h = grind arith

pub first_no_blank : (kind : TokenKind) (b : ℕ) → FirstOf kind b → b ≤ 32 → ⊥
first_no_blank (Punct p) b h low = omega (arith, h.above)
first_no_blank kind b h low = grind arith

-- A kind of text that is taken whole: what is taken whole and begins with such a byte is of this kind, and no comment begins so.
pub record IsClass (First : ℕ → Type 0) (P : List ℕ → Type 0) : Type 0 where
  pub only : (w : List ℕ) → IsLexeme w → BeginsWith First w → P w
  pub starts : (w : List ℕ) → P w → BeginsWith First w
  pub whole : (w : List ℕ) → P w → IsLexeme w
  pub no_slash : First 47 → ⊥

module _ {First : ℕ → Type 0} {P : List ℕ → Type 0} (class : IsClass First P) {w i j : List ℕ} (taken : IsLongest P w i j) where
  text_begins : BeginsWith First i
  text_begins = whole_begins First i w j taken.stands (class.starts w taken.is)

  least : (x y : List ℕ) → i ≡ x ++ y → IsLexeme x → length x ≤ length w
  least x y stands lexeme =
      let some = lexeme_some x lexeme in
      taken.longest x y stands (class.only x lexeme (front_begins First i x y some.0 some.1 stands some.2 text_begins))

  pub class_token : (kind : TokenKind) → Spells kind w → IsToken kind w j
  class_token kind spells = record {
    spells = spells;
    longest = λ x y stands lexeme. least x y (taken.stands ∙ stands) lexeme;
    no_line_comment = λ (rest, is). class.no_slash (same_first First i 47 (47 ∷ rest) text_begins (taken.stands ∙ is));
    no_block_comment = λ (rest, is). class.no_slash (same_first First i 47 (42 ∷ rest) text_begins (taken.stands ∙ is));
  }

  pub class_no_token : ((kind : TokenKind) → Spells kind w → ⊥) → (kind : TokenKind) (v rest : List ℕ) → i ≡ v ++ rest → IsToken kind v rest → ⊥
  class_no_token none kind v rest stands token =
      let short : length v ≤ length w = least v rest stands (spelled_is_lexeme kind v token.spells) in
      let long : length w ≤ length v = token.longest w j (sym stands ∙ taken.stands) (class.whole w taken.is) in
      let same : w ≡ v = (same_parts w v j rest (sym taken.stands ∙ stands) (omega arith)).0 in
      none kind (subst (Spells kind) (sym same) token.spells)

pub one_longest : (P : List ℕ → Type 0) (i w j v k : List ℕ) → IsLongest P w i j → IsLongest P v i k → w ≡ v
one_longest P i w j v k one other =
    let short : length w ≤ length v = other.longest w j one.stands one.is in
    let long : length v ≤ length w = one.longest v k other.stands other.is in
    (same_parts w v j k (sym one.stands ∙ other.stands) (omega arith)).0

pub zero_spelled : Spells (Int 0 false) (48 ∷ [])
zero_spelled = (false, false, record { digits = 48 ∷ []; suffix = []; is = refl; number = inl ([], refl, tt, refl); ended = refl }, refl)

-- a token that is a part of the text
pub token_at : (kind : TokenKind) (n : ℕ) (text w after : List ℕ) → text ≡ w ++ after → length w ≡ n → IsToken kind w after → (n ≤ length text) × IsToken kind (take n text) (drop n text)
token_at kind n text w after e size token =
    let all = ap length e in
    let front : take n text ≡ w = ap (λ (x : List ℕ). take n x) e ∙ sym (ap (λ (x : ℕ). take x (w ++ after)) size) ∙ take-append_seam w after in
    let rest : drop n text ≡ after = ap (λ (x : List ℕ). drop n x) e ∙ sym (ap (λ (x : ℕ). drop x (w ++ after)) size) ∙ drop-append_seam w after in
    (omega (arith, all, length-append w after), rw (front, rest) token)
