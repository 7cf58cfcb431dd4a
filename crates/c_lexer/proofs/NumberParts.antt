-- What a number that was taken whole makes of the text.
use Rattle.std.proofs.Common.{◌≡◌, ◌⊎◌, ◌≤◌, ◌<◌, ◌+◌, ◌-◌, ◌^◌, ◌==◌, ℕ, Bool, true, false, List, [], ◌∷◌, ◌++◌, length, get_or, take, All, Some, None, refl, ap, sym, ◌∙◌, subst, inl, inr, ⊎_elim, arith, append-nil}
use Rattle.std.specs.Char.{digit_value}
use Rattle.std.specs.Str.Parse.{IsNumeral, digits_value}
use Rattle.std.proofs.lemmas.Bool.Decides.{nat_tests}
use Rattle.std.proofs.lemmas.List.{same_from_push, get_or_at, take_more, take_all, length_push}
use Rattle.dm_base.specs.Name.{IsDigit}
use Rattle.c_lexer.specs.declared.token.TokenKind.{TokenKind}
use Rattle.c_lexer.specs.declared.token.TokenKind.TheVariants.{Int, Punct}
use Rattle.c_lexer.specs.declared.error.Cause.{Cause}
use Rattle.c_lexer.specs.declared.error.Cause.TheVariants.{OpenComment, Malformed, TooLarge}
use Rattle.c_lexer.specs.Words.{IsNumber, IsNumberByte}
use Rattle.c_lexer.specs.Literals.{IsLongest, IsConstant, HasNumber, IsSuffix, type_of}
use Rattle.c_lexer.specs.Kinds.{Spells}
use Rattle.c_lexer.specs.Refusals.{Holds, IsMalformedNumber}
use Rattle.c_lexer.specs.Reading.{IsMisfit}
use Rattle.c_lexer.specs.Parts.{BeginsWith, IsNumberMisfit, IsUnsuffixed, IsBased}
use Rattle.c_lexer.proofs.KindsBegin.{number_all, IsClass, class_no_token, one_longest, digit_lexeme, digit_no_mark, run_begins, first_apart, FirstOf, begins}
use Rattle.c_lexer.proofs.WordTables.{IsMark}
use Rattle.c_lexer.proofs.KindsRuns.{digit_no_foreign, digit_malformed, no_comment, whole_first, below_malformed, below_large}

-- no byte of a number is a suffix
abbrev IsNoSuffix : ℕ → Type 0
IsNoSuffix b = (b ≡ 117) ⊎ (b ≡ 85) → ⊥

digit_no_suffix : (b : ℕ) → digit_value b < 16 → IsNoSuffix b
digit_no_suffix b h (inl is) = let e : digit_value b ≡ 30 = ap digit_value is in omega arith
digit_no_suffix b h (inr is) = let e : digit_value b ≡ 30 = ap digit_value is in omega arith

x_no_suffix : (x : ℕ) → (x ≡ 120) ⊎ (x ≡ 88) → IsNoSuffix x
x_no_suffix x a u = grind arith

no_suffix_last : (w body : List ℕ) (u : ℕ) → w ≡ body ++ u ∷ [] → All IsNoSuffix w → IsNoSuffix u
no_suffix_last w body u is each =
    let all : length w ≡ length (body ++ u ∷ []) = ap length is in
    let long : length (body ++ u ∷ []) ≡ length body + 1 = length_push body u in
    let here : get_or w (length body) 0 ≡ u = ap (λ v. get_or v (length body) 0) is ∙ get_or_at body u [] 0 (length body) refl in
    subst IsNoSuffix here (each (length body) 0 (omega arith))

-- the two parts of a constant
pub suffixed_parts : (w body : List ℕ) (u n : ℕ) (decimal other : Bool) → w ≡ body ++ u ∷ [] → (u ≡ 117) ⊎ (u ≡ 85) → IsConstant w n decimal other → (other ≡ true) × HasNumber body n decimal
suffixed_parts w body u n decimal true is marks c =
    ⊎_elim (λ e. (refl, let same = same_from_push c.digits body 117 u (ap (λ v. c.digits ++ v) (sym e) ∙ sym c.is ∙ is) in subst (λ v. HasNumber v n decimal) same.0 c.number))
    (λ e. (refl, let same = same_from_push c.digits body 85 u (ap (λ v. c.digits ++ v) (sym e) ∙ sym c.is ∙ is) in subst (λ v. HasNumber v n decimal) same.0 c.number))
    c.ended
suffixed_parts w body u n decimal false is marks c =
    let whole : w ≡ c.digits = c.is ∙ ap (λ v. c.digits ++ v) c.ended ∙ append-nil c.digits in
    absurd (no_suffix_last c.digits body u (sym whole ∙ is) (number_all IsNoSuffix digit_no_suffix x_no_suffix c.digits n decimal c.number) marks)

suffix_at : (u : ℕ) → (u ≡ 117) ⊎ (u ≡ 85) → IsSuffix true (u ∷ [])
suffix_at u (inl is) = inl (ap (λ b. b ∷ []) is)
suffix_at u (inr is) = inr (ap (λ b. b ∷ []) is)

pub unsuffixed_with : (w body : List ℕ) (u : ℕ) → w ≡ body ++ u ∷ [] → (u ≡ 117) ⊎ (u ≡ 85) → IsUnsuffixed w body true
unsuffixed_with w body u is marks = record {
  parts = λ n decimal other c. suffixed_parts w body u n decimal other is marks c;
  whole = λ n decimal number. record { digits = body; suffix = u ∷ []; is = is; number = number; ended = suffix_at u marks };
}

pub last_split : (w : List ℕ) → 1 ≤ length w → w ≡ take (length w - 1) w ++ get_or w (length w - 1) 0 ∷ []
last_split w some =
    let all : length w - 1 + 1 ≡ length w = omega arith in
    sym (take_all (length w) w (omega arith)) ∙ ap (λ n. take n w) (sym all) ∙ take_more w (length w - 1) 0 (omega arith)

pub last_is : (w body : List ℕ) (u : ℕ) → w ≡ body ++ u ∷ [] → get_or w (length w - 1) 0 ≡ u
last_is w body u is =
    let all : length w ≡ length (body ++ u ∷ []) = ap length is in
    let long : length (body ++ u ∷ []) ≡ length body + 1 = length_push body u in
    ap (λ v. get_or v (length w - 1) 0) is ∙ get_or_at body u [] 0 (length w - 1) (omega arith)

-- what a constant without a suffix, with its base and its digits, spells
module _ {w body : List ℕ} {suffixed : Bool} (bare : IsUnsuffixed w body suffixed) {base : ℕ} {digits : List ℕ} (based : IsBased body base digits) where
  is_numeral : (n : ℕ) (decimal other : Bool) → IsConstant w n decimal other → IsNumeral base digits
  is_numeral n decimal other c = (based.parts n decimal (bare.parts n decimal other c).1).1

  constant : IsNumeral base digits → IsConstant w (digits_value base digits) (base == 10) suffixed
  constant numeral = bare.whole (digits_value base digits) (base == 10) (based.whole (digits_value base digits) (base == 10) refl numeral refl)

  one_type : (n : ℕ) (decimal other : Bool) → IsConstant w n decimal other → type_of (base == 10) suffixed (digits_value base digits) ≡ type_of decimal other n
  one_type n decimal other c =
      let p = bare.parts n decimal other c in
      let q = based.parts n decimal p.1 in
      ap (λ s. type_of (base == 10) s (digits_value base digits)) (sym p.0) ∙ ap (λ d. type_of d other (digits_value base digits)) (sym q.0) ∙ ap (λ m. type_of decimal other m) (sym q.2)

  pub number_malformed : (IsNumeral base digits → ⊥) → IsNumberMisfit Malformed w
  number_malformed none n decimal other c = none (is_numeral n decimal other c)

  pub number_untyped : IsNumeral base digits → type_of (base == 10) suffixed (digits_value base digits) ≡ None → IsNumberMisfit TooLarge w
  number_untyped numeral none =
      ((digits_value base digits, base == 10, suffixed, constant numeral, none), λ n decimal other c. sym (one_type n decimal other c) ∙ none)

  pub number_spelled : (n : ℕ) (unsigned : Bool) → IsNumeral base digits → n ≡ digits_value base digits → type_of (base == 10) suffixed n ≡ Some unsigned → Spells (Int n unsigned) w
  number_spelled n unsigned numeral is typed = (base == 10, suffixed, subst (λ m. IsConstant w m (base == 10) suffixed) (sym is) (constant numeral), typed)

pub type_too_large : (decimal suffixed : Bool) (n : ℕ) → (n < 2 ^ 32 → ⊥) → type_of decimal suffixed n ≡ None
type_too_large true true n h = grind (arith, nat_tests)
type_too_large decimal suffixed n h = grind (arith, nat_tests)

pub number_class : IsClass IsDigit IsNumber
number_class = record {
  only = digit_lexeme;
  starts = λ w h. run_begins IsDigit IsNumberByte w h;
  whole = λ w h. inr (inl h);
  no_slash = λ h. digit_no_mark 47 47 (omega arith) h refl;
}

-- a number spells a constant
number_spells : (w : List ℕ) → BeginsWith IsDigit w → ((n : ℕ) (decimal suffixed unsigned : Bool) → IsConstant w n decimal suffixed → type_of decimal suffixed n ≡ Some unsigned → ⊥) → (kind : TokenKind) → Spells kind w → ⊥
number_spells w first none (Int n u) h = none n h.0 h.1 u h.2 h.3
number_spells w first none (Punct p) h = first_apart IsDigit IsMark w (λ b digit mark. mark.other.no_digit digit) first (begins (Punct p) w h)
number_spells w first none kind h = first_apart IsDigit (FirstOf kind) w (λ b digit other. grind arith) first (begins kind w h)

no_malformed : (i w j : List ℕ) (n : ℕ) (decimal suffixed : Bool) → IsLongest IsNumber w i j → IsConstant w n decimal suffixed → IsMalformedNumber i → ⊥
no_malformed i w j n decimal suffixed taken c (v, (k, other), none) = none n decimal suffixed (subst (λ u. IsConstant u n decimal suffixed) (one_longest IsNumber i w j v k taken other) c)

digit_no_comment : (i : List ℕ) → BeginsWith IsDigit i → Holds OpenComment i → ⊥
digit_no_comment i = no_comment IsDigit i (λ b. digit_no_mark 47 47 (omega arith) b refl)

pub number_misfit : (cause : Cause) (i w j : List ℕ) → IsLongest IsNumber w i j → IsNumberMisfit cause w → IsMisfit cause i
number_misfit Malformed i w j taken h = record {
  holds = inl (w, (j, taken), h);
  least = let first = whole_first IsDigit IsNumberByte w i (j, taken) in below_malformed i (digit_no_foreign i first) (digit_no_comment i first);
  no_token = λ kind v rest stands token.
      class_no_token number_class taken (λ other. number_spells w (run_begins IsDigit IsNumberByte w taken.is) (λ n d s u c typed. h n d s c) other) kind v rest stands token;
}
number_misfit TooLarge i w j taken ((n, decimal, suffixed, c, none), each) = record {
  holds = inl (w, n, decimal, suffixed, (j, taken), c, none);
  least =
      let first = whole_first IsDigit IsNumberByte w i (j, taken) in
      below_large i (digit_no_foreign i first) (digit_no_comment i first) (λ h. no_malformed i w j n decimal suffixed taken c (digit_malformed i first h));
  no_token = λ kind v rest stands token.
      class_no_token number_class taken (λ other. number_spells w (run_begins IsDigit IsNumberByte w taken.is) (λ m d s u k typed. let untyped = each m d s k in cc) other) kind v rest stands token;
}
number_misfit cause i w j taken h = absurd h
