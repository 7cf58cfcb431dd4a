-- How readers of parts are put together.
use Rattle.std.proofs.Common.{◌≡◌, ℕ, zero, suc, true, not, nat_eq, List, [], ◌∷◌, ◌++◌, refl, sym, ◌∙◌, ap, arith}
use Rattle.std.specs.Prelude.{Contains, Result, Ok, Err}
use Rattle.std.specs.Result.{IsErrAnd}
use Rattle.std.proofs.lemmas.Result.{err_from_is_err_and}
use Rattle.std.proofs.lemmas.Bool.{and_parts, true≢false}
use Rattle.line_text.specs.declared.miss.Miss.{Miss}
use Rattle.line_text.specs.declared.miss.Miss.TheVariants.{OutOfMemory, Short, Wrong}
use Rattle.line_text.specs.Reading.{StandsFirst, Reads}
use Rattle.line_text.specs.Words.{is_in_line}
use Rattle.line_text.proofs.Splits.{IsSplit, IsCase, err_next, ok_both, err_case}
use Rattle.trace_file.specs.LineParts.{has_no_feed}
pub use Rattle.line_text.proofs.Cases.{first_agrees, cut_at_start, read_case}

-- words

pub no_feed_within : (word : List ℕ) → has_no_feed word ≡ true → Contains word 10 → ⊥
no_feed_within [] plain has = omega (arith, has.1)
no_feed_within (b ∷ word) plain (zero, within, is) =
    true≢false (sym (and_parts (not (nat_eq b 10)) (has_no_feed word) plain).0 ∙ ap (λ n. not (nat_eq n 10)) is)
no_feed_within (b ∷ word) plain (suc k, within, is) =
    no_feed_within word (and_parts (not (nat_eq b 10)) (has_no_feed word) plain).1 (k, omega (arith, within), is)

pub is_in_line-plain : (word : List ℕ) → has_no_feed word ≡ true → is_in_line word ≡ true
is_in_line-plain (b ∷ c ∷ word) plain =
    let both = and_parts (not (nat_eq b 10)) (has_no_feed (c ∷ word)) plain in
    rw (both.0, is_in_line-plain (c ∷ word) both.1) refl
is_in_line-plain word plain = refl

-- the same values, told in another way

module _ {V : Type 0} (F G : V → Type 0) (text : V → List ℕ) (on : (v : V) → F v → G v) (back : (v : V) → G v → F v) where
  pub stands_same : (old new : List ℕ) (v : V) → StandsFirst F text old new v → StandsFirst G text old new v
  stands_same old new v taken = record { fits = on v taken.fits; stands = taken.stands; only = λ w fits agree. taken.only w (back w fits) agree }

  pub missed_same : (old new : List ℕ) (e : Miss) → Reads F text old new (Err e) → Reads G text old new (Err e)
  missed_same old new OutOfMemory reads = tt
  missed_same old new Short reads = record { value = reads.value; rest = reads.rest; fits = on reads.value reads.fits; more = reads.more; goes_on = reads.goes_on; unended = reads.unended }
  missed_same old new Wrong reads = λ w fits agree. reads w (back w fits) agree

  pub reads_same : (old new : List ℕ) (r : Result V Miss) → Reads F text old new r → Reads G text old new r
  reads_same old new (Ok v) reads = stands_same old new v reads
  reads_same old new (Err e) reads = missed_same old new e reads

-- the exit of a `?`
pub reads_err : {V : Type 0} (Fits : V → Type 0) (text : V → List ℕ) (old new : List ℕ) (miss : Miss) (r : Result V Miss) → IsErrAnd r (λ e. e ≡ miss) → Reads Fits text old new (Err miss) → Reads Fits text old new r
reads_err Fits text old new miss r is reads = let p = err_from_is_err_and r is in rw (p.1, p.2) reads

pub case_err : {V A : Type 0} {Fits : V → Type 0} {text : V → List ℕ} {Part : A → Type 0} {part : A → List ℕ} {make : A → V} {old : List ℕ} (new : List ℕ) (miss : Miss) → IsCase Fits text Part part make old → (r : Result V Miss) → IsErrAnd r (λ e. e ≡ miss) → Reads Part part old new (Err miss) → Reads Fits text old new r
case_err {Fits = Fits} {text = text} {old = old} new miss one r is reads = reads_err Fits text old new miss r is (err_case old new new one miss reads)

-- a fixed word stands before the rest of the text
pub word_split : {V : Type 0} (Fits : V → Type 0) (text next : V → List ℕ) (word : List ℕ) → has_no_feed word ≡ true → ((v : V) → Fits v → text v ≡ word ++ next v) → (v : V) → Fits v → IsSplit {V = V} {A = Unit {0}} {B = V} Fits text (λ u. Unit {0}) (λ u. word) (λ u. Fits) (λ u. next) (λ u w. w)
word_split Fits text next word plain is v fits = record {
  apart = λ w fits_w. (tt, w, tt, fits_w, refl);
  joined = λ u w one fits_w. (fits_w, is w fits_w);
  goes_on = λ u one. (v, fits);
  plain = λ u one has. no_feed_within word plain has;
}

module _ {V A : Type 0} {Fits : V → Type 0} {text : V → List ℕ} {First : A → Type 0} {first : A → List ℕ} {Next : A → V → Type 0} {next : A → V → List ℕ} where
  -- where the first part was read, and a whole is its next part, the whole is read as that part is
  pub then_next : IsSplit Fits text First first Next next (λ a v. v) → (old mid new : List ℕ) (a : A) → StandsFirst First first old mid a → (r : Result V Miss) → Reads (Next a) (next a) mid new r → Reads Fits text old new r
  then_next split old mid new a taken (Ok v) reads = ok_both split old mid new a v taken reads
  then_next split old mid new a taken (Err e) reads = err_next split old mid new a taken e reads
