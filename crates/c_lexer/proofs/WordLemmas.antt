-- What a word that was taken whole makes of the text.
use Rattle.std.proofs.Common.{◌≡◌, ◌≤◌, ◌<◌, ℕ, List, [], ◌∷◌, length, Contains, Err, refl, ap, inl, inr, ⊎_elim, arith}
use Rattle.std.proofs.lemmas.List.Elements.{All-cons}
use Rattle.dm_base.specs.Name.{IsLetter, IsName}
use Rattle.c_lexer.specs.declared.token.TokenKind.{TokenKind}
use Rattle.c_lexer.specs.declared.token.TokenKind.TheVariants.{Name, Keyword, Punct}
use Rattle.c_lexer.specs.declared.error.Cause.{Cause}
use Rattle.c_lexer.specs.declared.error.Cause.TheVariants.{ForeignByte, OpenComment, Malformed, TooLarge, NoLineMarker, ExcludedKeyword}
use Rattle.c_lexer.specs.declared.misfit.Misfit.{Misfit}
use Rattle.c_lexer.specs.declared.misfit.Misfit.TheVariants.{OutOfMemory, By}
use Rattle.c_lexer.specs.Codes.{code_of}
use Rattle.c_lexer.specs.Words.{keywords, excluded_keywords, IsWord, IsWordByte}
use Rattle.c_lexer.specs.Literals.{IsLongest}
use Rattle.c_lexer.specs.Kinds.{Spells}
use Rattle.c_lexer.specs.Refusals.{Holds, IsLongWord}
use Rattle.c_lexer.specs.Reading.{IsMisfit, ReadsToken}
use Rattle.c_lexer.specs.Parts.{BeginsWith, IsWordMisfit, ReadsWord}
use Rattle.dm_base.proofs.Names.{IsName-from_parts}
use Rattle.c_lexer.proofs.KindsBegin.{letter_no_digit, IsClass, class_no_token, one_longest, letter_lexeme, letter_no_mark, run_begins, first_apart, FirstOf, begins}
use Rattle.c_lexer.proofs.KindsRuns.{letter_no_foreign, letter_malformed, letter_no_large, no_comment, no_marker, whole_first, below_malformed}
use Rattle.c_lexer.proofs.WordTables.{IsMark, c99_keyword, keyword_is_fixed, excluded_is_fixed, excluded_is_c99, excluded_is_no_keyword, number_Contains}

pub word_class : IsClass IsLetter IsWord
word_class = record {
  only = letter_lexeme;
  starts = λ w h. run_begins IsLetter IsWordByte w h;
  whole = λ w h. inl h;
  no_slash = λ h. letter_no_mark 47 47 (omega arith) h refl;
}

-- a word spells a name or a keyword
word_spells : (P : Type 0) (w : List ℕ) → IsWord w → (IsName w → P) → (Contains keywords w → P) → (kind : TokenKind) → Spells kind w → P
word_spells P w word name keyword (Name x) h = name h.1
word_spells P w word name keyword (Keyword k) h = keyword (number_Contains keywords k w h)
word_spells P w word name keyword (Punct p) h = absurd (first_apart IsLetter IsMark w (λ b letter mark. mark.other.no_letter letter) (run_begins IsLetter IsWordByte w word) (begins (Punct p) w h))
word_spells P w word name keyword kind h = absurd (first_apart IsLetter (FirstOf kind) w (λ b letter other. grind arith) (run_begins IsLetter IsWordByte w word) (begins kind w h))

no_long_word : (i w j : List ℕ) → IsLongest IsWord w i j → length w < 64 → IsLongWord i → ⊥
no_long_word i w j taken short (v, (k, other), long) = let same : length w ≡ length v = ap length (one_longest IsWord i w j v k taken other) in omega arith

excluded_least : (i w j : List ℕ) → IsLongest IsWord w i j → length w < 64 → BeginsWith IsLetter i → (other : Cause) → code_of other < 6 → Holds other i → ⊥
excluded_least i w j taken short first ForeignByte low h = letter_no_foreign i first h
excluded_least i w j taken short first OpenComment low h = no_comment IsLetter i (λ b. letter_no_mark 47 47 (omega arith) b refl) first h
excluded_least i w j taken short first Malformed low h = no_long_word i w j taken short (letter_malformed i first h)
excluded_least i w j taken short first TooLarge low h = letter_no_large i first h
excluded_least i w j taken short first NoLineMarker low h = no_marker IsLetter i (λ b. letter_no_mark 35 35 (omega arith) b refl) first h
excluded_least i w j taken short first ExcludedKeyword low h = omega arith

-- why no token stands where a word does
pub word_misfit : (cause : Cause) (i w j : List ℕ) → IsLongest IsWord w i j → IsWordMisfit cause w → IsMisfit cause i
word_misfit Malformed i w j taken h = record {
  holds = inr (inr (inr (w, (j, taken), h)));
  least =
      let first = whole_first IsLetter IsWordByte w i (j, taken) in
      below_malformed i (letter_no_foreign i first) (no_comment IsLetter i (λ b. letter_no_mark 47 47 (omega arith) b refl) first);
  no_token = λ kind v rest stands token.
      class_no_token word_class taken (λ other. word_spells ⊥ w taken.is (λ name. omega (arith, name.short)) (λ among. let fixed = keyword_is_fixed w among in omega (arith, fixed.short)) other) kind v rest stands token;
}
word_misfit ExcludedKeyword i w j taken h = record {
  holds = (w, (j, taken), h);
  least = λ other low holds. excluded_least i w j taken (excluded_is_fixed w h).short (whole_first IsLetter IsWordByte w i (j, taken)) other low holds;
  no_token = λ kind v rest stands token.
      class_no_token word_class taken (λ other. word_spells ⊥ w taken.is (λ name. name.free (excluded_is_c99 w h)) (λ among. excluded_is_no_keyword w h among) other) kind v rest stands token;
}
word_misfit cause i w j taken h = absurd h

pub word_refused : (e : Misfit) (i w j : List ℕ) → IsLongest IsWord w i j → ReadsWord w (Err e) → ReadsToken i (Err e)
word_refused OutOfMemory i w j taken h = tt
word_refused (By cause) i w j taken h = word_misfit cause i w j taken h

pub word_is_name : (w name : List ℕ) → IsWord w → length w ≤ 63 → (Contains keywords w → ⊥) → (Contains excluded_keywords w → ⊥) → name ≡ w → Spells (Name name) w
word_is_name [] name word short free kept is = absurd word
word_is_name (b ∷ w) name word short free kept is =
    (is, IsName-from_parts (b ∷ w) (omega arith) short (letter_no_digit b word.0) (All-cons IsWordByte b w (inl word.0) word.1) (λ among. ⊎_elim free kept (c99_keyword (b ∷ w) among)))
