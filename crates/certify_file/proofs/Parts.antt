-- How readers of parts are put together, and texts of which none begins another.
use Rattle.std.proofs.Common.{◌≡◌, ◌≢◌, ℕ, zero, suc, ◌<◌, true, not, nat_eq, List, [], ◌∷◌, ◌++◌, length, get_or, refl, sym, ◌∙◌, ap, subst, inl, inr, append_assoc, arith}
use Rattle.std.specs.Prelude.{Contains, Result, Ok, Err}
use Rattle.std.proofs.lemmas.Bool.{and_parts, true≢false}
use Rattle.std.proofs.lemmas.List.{append_cancel_left, append-nil}
use Rattle.std.proofs.lemmas.List.Elements.{Contains-append_cases, Contains-append_left, Contains-append_right}
use Rattle.line_text.specs.declared.miss.Miss.{Miss}
use Rattle.line_text.specs.declared.miss.Miss.TheVariants.{OutOfMemory, Short, Wrong}
use Rattle.line_text.specs.OneLine.{IsLine}
use Rattle.line_text.specs.Reading.{Agree, StandsFirst, Reads}
use Rattle.line_text.specs.Words.{is_in_line}
use Rattle.line_text.proofs.FilesLemmas.{ends_line}
use Rattle.line_text.proofs.Splits.{IsSplit, IsCase, err_next, ok_both, agree_head, agree_front, agree_next, prefixes_agree}
use Rattle.certify_file.specs.Lines.{has_no_feed}
use Rattle.line_text.proofs.Cases.{agree_back}
pub use Rattle.line_text.proofs.Cases.{first_agrees, cut_at_start, read_case, IsPrefixFree, one_free}

-- words

pub no_feed_within : (word : List ℕ) → has_no_feed word ≡ true → Contains word 10 → ⊥
no_feed_within [] plain has = omega (arith, has.1)
no_feed_within (b ∷ word) plain (zero, within, is) =
    true≢false (sym (and_parts (not (nat_eq b 10)) (has_no_feed word) plain).0 ∙ ap (λ n. not (nat_eq n 10)) is)
no_feed_within (b ∷ word) plain (suc k, within, is) =
    no_feed_within word (and_parts (not (nat_eq b 10)) (has_no_feed word) plain).1 (k, omega (arith, within), is)

pub is_in_line-plain : (word : List ℕ) → has_no_feed word ≡ true → is_in_line word ≡ true
is_in_line-plain [] plain = refl
is_in_line-plain (b ∷ []) plain = refl
is_in_line-plain (b ∷ c ∷ word) plain =
    let both = and_parts (not (nat_eq b 10)) (has_no_feed (c ∷ word)) plain in
    rw (both.0, is_in_line-plain (c ∷ word) both.1) refl

-- the same values, told in another way

module _ {V : Type 0} (F G : V → Type 0) (text : V → List ℕ) (on : (v : V) → F v → G v) (back : (v : V) → G v → F v) where
  pub stands_same : (old new : List ℕ) (v : V) → StandsFirst F text old new v → StandsFirst G text old new v
  stands_same old new v taken = record { fits = on v taken.fits; stands = taken.stands; only = λ w fits agree. taken.only w (back w fits) agree }

  pub missed_same : (old new : List ℕ) (e : Miss) → Reads F text old new (Err e) → Reads G text old new (Err e)
  missed_same old new OutOfMemory reads = tt
  missed_same old new Short reads = record { value = reads.value; rest = reads.rest; fits = on reads.value reads.fits; more = reads.more; goes_on = reads.goes_on; unended = reads.unended }
  missed_same old new Wrong reads = λ w fits agree. reads w (back w fits) agree

-- a fixed word stands before the rest of the text
pub word_split : {V : Type 0} (Fits : V → Type 0) (text next : V → List ℕ) (word : List ℕ) → has_no_feed word ≡ true → ((v : V) → Fits v → text v ≡ word ++ next v) → (v : V) → Fits v → IsSplit {V = V} {A = Unit {0}} {B = V} Fits text (λ u. Unit {0}) (λ u. word) (λ u. Fits) (λ u. next) (λ u w. w)
word_split Fits text next word plain is v fits = record {
  apart = λ w fits_w. (tt, w, tt, fits_w, refl);
  joined = λ u w one fits_w. (fits_w, is w fits_w);
  goes_on = λ u one. (v, fits);
  plain = λ u one has. no_feed_within word plain has;
}

module _ {V A : Type 0} {Fits : V → Type 0} {text : V → List ℕ} {First : A → Type 0} {first : A → List ℕ} {Next : A → V → Type 0} {next : A → V → List ℕ} where
  -- where the first part was read, and a whole is its next part, the whole is read as that part is
  pub then_next : IsSplit Fits text First first Next next (λ a v. v) → (old mid new : List ℕ) (a : A) → StandsFirst First first old mid a → (r : Result V Miss) → Reads (Next a) (next a) mid new r → Reads Fits text old new r
  then_next split old mid new a taken (Ok v) reads = ok_both split old mid new a v taken reads
  then_next split old mid new a taken (Err e) reads = err_next split old mid new a taken e reads

-- the second byte of a text that agrees
pub second_agrees : (b c : ℕ) (x old : List ℕ) → Agree (b ∷ c ∷ x) old → 1 < length old → get_or old 1 0 ≡ c
second_agrees b c x [] agree some = absurd (omega (arith, some))
second_agrees b c x (d ∷ []) agree some = absurd (omega (arith, some))
second_agrees b c x (d ∷ e ∷ y) agree some = sym (agree_head c e x y (tails agree)) where
  tails : Agree (b ∷ c ∷ x) (d ∷ e ∷ y) → Agree (c ∷ x) (e ∷ y)
  tails (rest, inl is) = (rest, inl (drop_first (c ∷ (x ++ rest)) (e ∷ y) b d is))
    where
      drop_first : (s t : List ℕ) (b d : ℕ) → b ∷ s ≡ d ∷ t → s ≡ t
      drop_first s t b d is = cc
  tails (rest, inr is) = (rest, inr (drop_first (c ∷ x) (e ∷ (y ++ rest)) b d is))
    where
      drop_first : (s t : List ℕ) (b d : ℕ) → b ∷ s ≡ d ∷ t → s ≡ t
      drop_first s t b d is = cc

-- the line has one line feed, at its end
abbrev pub IsEnded : List ℕ → Type 0
IsEnded line = (front : List ℕ) × (Contains front 10 → ⊥) × (line ≡ front ++ 10 ∷ [])

pub no_feed_append : (a b : List ℕ) → (Contains a 10 → ⊥) → (Contains b 10 → ⊥) → Contains (a ++ b) 10 → ⊥
no_feed_append a b none_a none_b has = elim (Contains-append_cases a b 10 has) [ inl front ↦ none_a front | inr back ↦ none_b back ]

pub ended_after : (a b : List ℕ) → (Contains a 10 → ⊥) → IsEnded b → IsEnded (a ++ b)
ended_after a b none (front, none_front, is) = (a ++ front, no_feed_append a front none none_front, ap (λ (t : List ℕ). a ++ t) is ∙ sym (append_assoc a front (10 ∷ [])))

pub has_feed : (line after : List ℕ) → IsEnded line → Contains (line ++ after) 10
has_feed line after (front, none, is) =
    Contains-append_left line after 10 (subst (λ (t : List ℕ). Contains t 10) (sym is) (Contains-append_right front (10 ∷ []) 10 (0, omega arith, refl)))

-- where each text ends with its line feed, nothing of a line is left after it
pub whole_line : {V : Type 0} (Fits : V → Type 0) (text : V → List ℕ) (line new : List ℕ) → ((v : V) → Fits v → IsEnded (text v)) → IsLine line → (r : Result V Miss) → Reads Fits text line new r → Reads Fits text line [] r
whole_line {V} Fits text line new ended first (Ok v) reads =
    let front = ended v reads.fits in
    let none : new ≡ [] = ends_line (text v) front.0 first.0 line new (line ++ first.0) front.2 reads.stands first.1 in
    subst (λ (w : List ℕ). StandsFirst Fits text line w v) none reads
whole_line Fits text line new ended first (Err OutOfMemory) reads = tt
whole_line Fits text line new ended first (Err Short) reads = reads
whole_line Fits text line new ended first (Err Wrong) reads = reads

module _ {V A B : Type 0} {Fits : V → Type 0} {text : V → List ℕ} {First : A → Type 0} {first : A → List ℕ} {Next : A → B → Type 0} {next : A → B → List ℕ} {join : A → B → V} where
  pub split_free : IsSplit Fits text First first Next next join → IsPrefixFree First first → ((a : A) → First a → IsPrefixFree (Next a) (next a)) → IsPrefixFree Fits text
  split_free split first_free next_free v w fits_v fits_w agree =
      let p = split.apart v fits_v in
      let q = split.apart w fits_w in
      let v_is : text v ≡ first p.0 ++ next p.0 p.1 = ap text p.4 ∙ (split.joined p.0 p.1 p.2 p.3).1 in
      let w_is : text w ≡ first q.0 ++ next q.0 q.1 = ap text q.4 ∙ (split.joined q.0 q.1 q.2 q.3).1 in
      let both : Agree (first q.0 ++ next q.0 q.1) (first p.0 ++ next p.0 p.1) =
      subst (λ (t : List ℕ). Agree t (first p.0 ++ next p.0 p.1)) w_is (subst (Agree (text w)) v_is agree) in
      let same : q.0 ≡ p.0 = first_free p.0 q.0 p.2 q.2 (agree_back (first q.0) (first p.0) (next p.0 p.1) (agree_front (first q.0) (next q.0 q.1) (first p.0 ++ next p.0 p.1) both)) in
      let both' : Agree (first p.0 ++ next p.0 q.1) (first p.0 ++ next p.0 p.1) = subst (λ (a : A). Agree (first a ++ next a q.1) (first p.0 ++ next p.0 p.1)) same both in
      let fits' : Next p.0 q.1 = subst (λ (a : A). Next a q.1) same q.3 in
      let last : q.1 ≡ p.1 = next_free p.0 p.2 p.1 q.1 p.3 fits' (agree_next (first p.0) (next p.0 q.1) (next p.0 p.1) both') in
      q.4 ∙ ap (λ (a : A). join a q.1) same ∙ ap (join p.0) last ∙ sym p.4

module _ {V A : Type 0} {Fits : V → Type 0} {text : V → List ℕ} {Part : A → Type 0} {part : A → List ℕ} {make : A → V} where
  pub case_free : (a : A) → Part a → IsCase Fits text Part part make (text (make a)) → IsPrefixFree Part part → (w : V) → Fits w → Agree (text w) (text (make a)) → w ≡ make a
  case_free a fits one free w fits_w agree =
      let p = one.only w fits_w agree in
      let w_is : text w ≡ part p.0 = ap text p.2 ∙ (one.made p.0 p.1).1 in
      let both : Agree (part p.0) (part a) = subst (λ (t : List ℕ). Agree t (part a)) w_is (subst (Agree (text w)) (one.made a fits).1 agree) in
      p.2 ∙ ap make (free a p.0 fits p.1 both)

-- of such values one alone stands first in its own text
pub free_stands : {V : Type 0} (Fits : V → Type 0) (text : V → List ℕ) → IsPrefixFree Fits text → (v : V) → Fits v → StandsFirst Fits text (text v) [] v
free_stands Fits text free v fits = record { fits = fits; stands = sym (append-nil (text v)); only = λ w fits_w agree. free v w fits fits_w agree }

-- two of them that begin one text are the same, and so is what follows
pub free_same : {V : Type 0} (Fits : V → Type 0) (text : V → List ℕ) → IsPrefixFree Fits text → (v w : V) → Fits v → Fits w → (x y : List ℕ) → text v ++ x ≡ text w ++ y → (w ≡ v) × (x ≡ y)
free_same {V} Fits text free v w fits_v fits_w x y is =
    let same : w ≡ v = free v w fits_v fits_w (prefixes_agree (text w) (text v) y x (sym is)) in
    (same, append_cancel_left (text v) x y (is ∙ ap (λ (u : V). text u ++ y) same))
