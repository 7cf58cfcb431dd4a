-- Words that end with a space or a line feed: what stands first, what is cut, what is neither.
use Rattle.std.proofs.Common.{◌≡◌, ◌≢◌, ℕ, zero, suc, ◌+◌, ◌<◌, Bool, true, false, not, ◌&&◌, nat_eq, List, [], ◌∷◌, ◌++◌, length, take, drop, get_or, refl, sym, ◌∙◌, ap, subst, inl, inr, append_assoc, arith}
use Rattle.std.specs.Prelude.{Contains, Result, Ok, Err}
use Rattle.std.specs.Borrow.{Bor}
use Rattle.std.specs.List.{starts_with}
use Rattle.std.specs.Cmp.Lexicographic.{same_text, other_text}
use Rattle.std.proofs.lemmas.Bool.{and_parts, true≢false}
use Rattle.std.proofs.lemmas.List.{append-nil, take-append-drop, take_at, take_more, drop_more}
use lib.Pointwise.{pointwise}
use Rattle.line_text.specs.Reading.{Agree, StandsFirst, IsCutShort, Reads}
use Rattle.line_text.specs.Spelling.{BeginsOne, Spells}
use Rattle.line_text.specs.declared.miss.Miss.{Miss}
use Rattle.line_text.specs.declared.miss.Miss.TheVariants.{OutOfMemory, Short, Wrong}
use Rattle.line_text.specs.Words.{IsEnd, IsPlain, ended_word, is_in_line}

pub IsPlain-append : (a b : List ℕ) → IsPlain a → IsPlain b → IsPlain (a ++ b)
IsPlain-append [] b in_a in_b = in_b
IsPlain-append (x ∷ a) b in_a in_b = (in_a.0, IsPlain-append a b in_a.1 in_b)

pub IsPlain-no_feed : (a : List ℕ) → IsPlain a → Contains a 10 → ⊥
IsPlain-no_feed [] plain has = omega (arith, has.1)
IsPlain-no_feed (x ∷ a) plain (zero, within, is) = plain.0 (inr is)
IsPlain-no_feed (x ∷ a) plain (suc k, within, is) = IsPlain-no_feed a plain.1 (k, omega (arith, within), is)

-- a plain word has no byte that ends a word
no_end_within : (a : List ℕ) (e : ℕ) (r : List ℕ) → IsEnd e → IsPlain (a ++ e ∷ r) → ⊥
no_end_within [] e r ends plain = plain.0 ends
no_end_within (x ∷ a) e r ends plain = no_end_within a e r ends plain.1

-- two plain words with an end after each are one word in one text
pub same_word : (a b : List ℕ) (d e : ℕ) (r s : List ℕ) → IsPlain a → IsPlain b → IsEnd d → IsEnd e → a ++ d ∷ r ≡ b ++ e ∷ s → (a ≡ b) × (d ≡ e)
same_word [] [] d e r s in_a in_b ends_a ends_b is = (refl, cc)
same_word [] (y ∷ b) d e r s in_a in_b ends_a ends_b is =
    let first : d ≡ y = cc in
    absurd (in_b.0 (subst IsEnd first ends_a))
same_word (x ∷ a) [] d e r s in_a in_b ends_a ends_b is =
    let first : e ≡ x = cc in
    absurd (in_a.0 (subst IsEnd first ends_b))
same_word (x ∷ a) (y ∷ b) d e r s in_a in_b ends_a ends_b is =
    let first : x ≡ y = cc in
    let later : a ++ d ∷ r ≡ b ++ e ∷ s = cc in
    let more = same_word a b d e r s in_a.1 in_b.1 ends_a ends_b later in
    let same : a ≡ b = more.0 in
    (cc, more.1)

-- a word that agrees with a text in which a word is ended is that word
pub agreed_word : (a b : List ℕ) (d e : ℕ) (s : List ℕ) → IsPlain a → IsPlain b → IsEnd d → IsEnd e → Agree (ended_word d a) (b ++ e ∷ s) → (a ≡ b) × (d ≡ e)
agreed_word a b d e s in_a in_b ends_a ends_b (rest, inl is) =
    same_word a b d e rest s in_a in_b ends_a ends_b (sym (append_assoc a (d ∷ []) rest) ∙ is)
agreed_word a b d e s in_a in_b ends_a ends_b (rest, inr is) =
    same_word a b d e [] (s ++ rest) in_a in_b ends_a ends_b (is ∙ append_assoc b (e ∷ s) rest)

-- the front of a word with its end, where it has no end itself, is a front of the word
front_within : (a b : List ℕ) (e : ℕ) (rest : List ℕ) → IsPlain b → IsEnd e → a ++ e ∷ [] ≡ b ++ rest → (more : List ℕ) × (a ≡ b ++ more)
front_within a [] e rest plain ends is = (a, refl)
front_within [] (y ∷ b) e rest plain ends is =
    let first : e ≡ y = cc in
    absurd (plain.0 (subst IsEnd first ends))
front_within (x ∷ a) (y ∷ b) e rest plain ends is =
    let first : x ≡ y = cc in
    let later : a ++ e ∷ [] ≡ b ++ rest = cc in
    let found = front_within a b e rest plain.1 ends later in
    let more : a ≡ b ++ found.0 = found.1 in
    (found.0, cc)

-- a word that agrees with bytes that have no end goes on from them
pub agreed_front : (a b : List ℕ) (e : ℕ) → IsPlain b → IsEnd e → Agree (ended_word e a) b → (more : List ℕ) × (a ≡ b ++ more)
agreed_front a b e plain ends (rest, inl is) =
    absurd (no_end_within a e rest ends (subst IsPlain (sym is ∙ append_assoc a (e ∷ []) rest) plain))
agreed_front a b e plain ends (rest, inr is) = front_within a b e rest plain ends is

cut_within : (a b : List ℕ) (e : ℕ) (rest : List ℕ) → IsPlain a → rest ≢ [] → a ++ e ∷ [] ≡ b ++ rest → IsPlain b
cut_within a [] e rest plain more is = tt
cut_within [] (y ∷ []) e rest plain more is = absurd (more cc)
cut_within [] (y ∷ z ∷ b) e rest plain more is = cc
cut_within (x ∷ a) (y ∷ b) e rest plain more is =
    let first : x ≡ y = cc in
    let later : a ++ e ∷ [] ≡ b ++ rest = cc in
    (λ ends. plain.0 (subst IsEnd (sym first) ends), cut_within a b e rest plain.1 more later)

-- the bytes before the text of a word is whole have no end
pub cut_is_plain : (e : ℕ) (old : List ℕ) → IsCutShort IsPlain (ended_word e) old → IsPlain old
cut_is_plain e old cut = cut_within cut.value old e cut.rest cut.fits cut.more cut.goes_on

-- the readers of words

pub word_stands : (end : ℕ) (old new word : List ℕ) → IsEnd end → IsPlain word → old ≡ word ++ end ∷ new → StandsFirst IsPlain (ended_word end) old new word
word_stands end old new word ends plain is = record {
  fits = plain;
  stands = is ∙ sym (append_assoc word (end ∷ []) new);
  only = λ w in_w agree. (agreed_word w word end end new in_w plain ends ends (subst (Agree (ended_word end w)) is agree)).0;
}

pub word_is_cut : (end : ℕ) (old : List ℕ) → IsPlain old → IsCutShort IsPlain (ended_word end) old
word_is_cut end old plain = record {
  value = old;
  rest = end ∷ [];
  fits = plain;
  more = λ is. cc;
  goes_on = refl;
  unended = IsPlain-no_feed old plain;
}

pub other_end : (end : ℕ) (old front rest : List ℕ) (e : ℕ) → IsEnd end → IsEnd e → end ≢ e → IsPlain front → old ≡ front ++ e ∷ rest → (w : List ℕ) → IsPlain w → Agree (ended_word end w) old → ⊥
other_end end old front rest e ends ends_e other plain is w in_w agree =
    other (agreed_word w front end e rest in_w plain ends ends_e (subst (Agree (ended_word end w)) is agree)).1

-- the readers of values whose texts are plain words

pub value_stands : {V : Type 0} (Fits : V → Type 0) (text : V → List ℕ) (end : ℕ) (old new word : List ℕ) (v : V) → ((w : V) → Fits w → IsPlain (text w)) → StandsFirst IsPlain (ended_word end) old new word → Fits v → word ≡ text v → ((w : V) → Fits w → text w ≡ text v → w ≡ v) → StandsFirst Fits (λ w. ended_word end (text w)) old new v
value_stands Fits text end old new word v plain first fits is one = record {
  fits = fits;
  stands = first.stands ∙ ap (λ w. ended_word end w ++ new) is;
  only = λ w fits_w agree. one w fits_w (first.only (text w) (plain w fits_w) agree ∙ is);
}

pub no_value_stands : {V : Type 0} (Fits : V → Type 0) (text : V → List ℕ) (end : ℕ) (old new word : List ℕ) → ((w : V) → Fits w → IsPlain (text w)) → StandsFirst IsPlain (ended_word end) old new word → ((w : V) → Fits w → word ≡ text w → ⊥) → (w : V) → Fits w → Agree (ended_word end (text w)) old → ⊥
no_value_stands Fits text end old new word plain first none w fits agree = none w fits (sym (first.only (text w) (plain w fits) agree))

pub value_is_cut : {V : Type 0} (Fits : V → Type 0) (text : V → List ℕ) (end : ℕ) (old : List ℕ) → IsCutShort IsPlain (ended_word end) old → BeginsOne Fits text old → IsCutShort Fits (λ w. ended_word end (text w)) old
value_is_cut Fits text end old cut (v, rest, fits, is) = record {
  value = v;
  rest = rest ++ end ∷ [];
  fits = fits;
  more = nonempty rest;
  goes_on = ap (ended_word end) is ∙ append_assoc old rest (end ∷ []);
  unended = cut.unended;
} where
  nonempty : (r : List ℕ) → r ++ end ∷ [] ≢ []
  nonempty [] is = cc
  nonempty (b ∷ r) is = cc

pub no_value_begun : {V : Type 0} (Fits : V → Type 0) (text : V → List ℕ) (end : ℕ) (old : List ℕ) → IsEnd end → IsCutShort IsPlain (ended_word end) old → (BeginsOne Fits text old → ⊥) → (w : V) → Fits w → Agree (ended_word end (text w)) old → ⊥
no_value_begun Fits text end old ends cut none w fits agree =
    let found = agreed_front (text w) old end (cut_is_plain end old cut) ends agree in
    none (w, found.0, fits, found.1)

-- one more byte
pub IsPlain-more : (text : List ℕ) (i : ℕ) → i < length text → IsPlain (take i text) → (get_or text i 0 ≡ 32 → ⊥) → (get_or text i 0 ≡ 10 → ⊥) → IsPlain (take (i + 1) text)
IsPlain-more text i within plain space feed =
    let one : IsPlain (get_or text i 0 ∷ []) = (ends space feed, tt) in
    subst IsPlain (sym (take_more text i 0 within)) (IsPlain-append (take i text) (get_or text i 0 ∷ []) plain one)
  where
    ends : (get_or text i 0 ≡ 32 → ⊥) → (get_or text i 0 ≡ 10 → ⊥) → IsEnd (get_or text i 0) → ⊥
    ends space feed (inl is) = space is
    ends space feed (inr is) = feed is

-- a text is its first bytes, the byte after them, and the rest
pub split_at : (text : List ℕ) (i : ℕ) → i < length text → text ≡ take i text ++ get_or text i 0 ∷ drop (i + 1) text
split_at text i within = sym (take-append-drop i text) ∙ ap (λ w. take i text ++ w) (drop_more text i 0 within)

-- a fixed word

pub begins_from_test : (word text : List ℕ) → starts_with nat_eq text word ≡ true → text ≡ word ++ drop (length word) text
begins_from_test word text same =
    sym (take-append-drop (length word) text) ∙ ap (λ w. w ++ drop (length word) text) (sym (same_text word (take (length word) text) (sym same)))

pub no_begin_from_test : (word text rest : List ℕ) → starts_with nat_eq text word ≡ false → text ≡ word ++ rest → ⊥
no_begin_from_test word text rest other is =
    let front : take (length word) text ≡ word = ap (take (length word)) is ∙ take_at word rest _ refl in
    other_text word (take (length word) text) (sym other) (sym front)

no_word : (word text rest : List ℕ) → pointwise nat_eq (take (length word) text) word ≡ false → text ≡ word ++ rest → ⊥
no_word word text rest other is = other_text _ _ (sym other) (ap (take (length word)) is ∙ take_at word rest _ refl)

pub fixed_stands : (word text : List ℕ) → pointwise nat_eq (take (length word) text) word ≡ true → StandsFirst {V = Unit {0}} (λ w. Unit {0}) (λ w. word) text (drop (length word) text) (tt {0})
fixed_stands word text same =
    let front : take (length word) text ≡ word = same_text _ _ (sym same) in
    record {
      fits = tt;
      stands = sym (take-append-drop (length word) text) ∙ ap (λ w. w ++ drop (length word) text) front;
      only = λ w fits agree. refl;
    }

plain_first : (x : ℕ) (later : Bool) → (not (nat_eq x 10) && later) ≡ true → x ≡ 10 → ⊥
plain_first x later both is =
    let first = (and_parts (not (nat_eq x 10)) later both).0 in
    true≢false (sym first ∙ ap (λ n. not (nat_eq n 10)) is)

-- a front of a word with a line feed at its end alone has none
front_in_line : (a b : List ℕ) → is_in_line (a ++ b) ≡ true → b ≢ [] → Contains a 10 → ⊥
front_in_line [] b in_line more has = omega (arith, has.1)
front_in_line (x ∷ []) [] in_line more has = more refl
front_in_line (x ∷ []) (y ∷ b) in_line more (zero, within, is) = plain_first x (is_in_line (y ∷ b)) in_line is
front_in_line (x ∷ []) (y ∷ b) in_line more (suc k, within, is) = omega (arith, within)
front_in_line (x ∷ z ∷ a) b in_line more (zero, within, is) = plain_first x (is_in_line (z ∷ (a ++ b))) in_line is
front_in_line (x ∷ z ∷ a) b in_line more (suc k, within, is) =
    front_in_line (z ∷ a) b (and_parts (not (nat_eq x 10)) (is_in_line (z ∷ (a ++ b))) in_line).1 more (k, omega (arith, within), is)

pub fixed_is_cut : (word text : List ℕ) → is_in_line word ≡ true → pointwise nat_eq (take (length word) text) word ≡ false → starts_with nat_eq word text ≡ true → IsCutShort {V = Unit {0}} (λ w. Unit {0}) (λ w. word) text
fixed_is_cut word text in_line other begins =
    let is : word ≡ text ++ drop (length text) word = begins_from_test text word begins in
    let more : drop (length text) word ≢ [] = λ none. no_word word text [] other (sym (is ∙ ap (λ w. text ++ w) none ∙ append-nil text) ∙ sym (append-nil word)) in
    record {
      value = tt;
      rest = drop (length text) word;
      fits = tt;
      more = more;
      goes_on = is;
      unended = front_in_line text (drop (length text) word) (sym (ap is_in_line is) ∙ in_line) more;
    }

pub no_fixed : (word text : List ℕ) → pointwise nat_eq (take (length word) text) word ≡ false → starts_with nat_eq word text ≡ false → Agree word text → ⊥
no_fixed word text other begins (rest, inl is) = no_word word text rest other (sym is)
no_fixed word text other begins (rest, inr is) = no_begin_from_test text word rest begins is

-- where no word stands first: the bytes are a front of a value's text, or none has its text here

pub value_is_missed : {V : Type 0} (Fits : V → Type 0) (text : V → List ℕ) (end : ℕ) (old new : List ℕ) (miss : Miss) → ((w : V) → Fits w → IsPlain (text w)) → Reads IsPlain (ended_word end) old new (Err miss) → BeginsOne Fits text old → Reads Fits (λ w. ended_word end (text w)) old new (Err miss)
value_is_missed Fits text end old new OutOfMemory plain reads begins = tt
value_is_missed Fits text end old new Short plain reads begins = value_is_cut Fits text end old reads begins
value_is_missed Fits text end old new Wrong plain reads begins = λ w fits agree. reads (text w) (plain w fits) agree

pub no_value_missed : {V : Type 0} (Fits : V → Type 0) (text : V → List ℕ) (end : ℕ) (old new : List ℕ) (miss : Miss) → IsEnd end → ((w : V) → Fits w → IsPlain (text w)) → (◌≡◌ {A = Result (Bor (List ℕ)) Miss} (Err miss) (Err OutOfMemory) → ⊥) → Reads IsPlain (ended_word end) old new (Err miss) → (BeginsOne Fits text old → ⊥) → (w : V) → Fits w → Agree (ended_word end (text w)) old → ⊥
no_value_missed Fits text end old new OutOfMemory ends plain memory reads none w fits agree = absurd (memory refl)
no_value_missed Fits text end old new Short ends plain memory reads none w fits agree = no_value_begun Fits text end old ends reads none w fits agree
no_value_missed Fits text end old new Wrong ends plain memory reads none w fits agree = reads (text w) (plain w fits) agree

-- the value that a word spells stands first
pub spelt_value : {V : Type 0} (Fits : V → Type 0) (text : V → List ℕ) (end : ℕ) (old new word : List ℕ) (found : Result V Miss) → ((w : V) → Fits w → IsPlain (text w)) → ((v w : V) → Fits v → Fits w → text w ≡ text v → w ≡ v) → StandsFirst IsPlain (ended_word end) old new word → Spells Fits text word found → Reads Fits (λ w. ended_word end (text w)) old new found
spelt_value Fits text end old new word (Ok v) plain one first spells = value_stands Fits text end old new word v plain first spells.0 spells.1 (λ w fits is. one v w spells.0 fits is)
spelt_value Fits text end old new word (Err OutOfMemory) plain one first spells = tt
spelt_value Fits text end old new word (Err Short) plain one first spells = absurd spells
spelt_value Fits text end old new word (Err Wrong) plain one first spells = no_value_stands Fits text end old new word plain first spells
