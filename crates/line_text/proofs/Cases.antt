-- Lemmas that several crates above use.
use Rattle.std.proofs.Common.{List, [], append_assoc, arith, get_or, inl, inr, length, refl, sym, ℕ, ◌++◌, ◌<◌, ◌∙◌, ◌∷◌, ◌≡◌, ◌≢◌}
use Rattle.std.specs.Prelude.{Err, Ok, Result}
use Rattle.line_text.proofs.Splits.{IsCase, agree_head, err_case, nothing_left, ok_case, prefixes_agree}
use Rattle.line_text.specs.Reading.{Agree, IsCutShort, Reads}
use Rattle.line_text.specs.declared.miss.Miss.{Miss}

-- the first byte of a text that agrees
pub first_agrees : (b : ℕ) (x old : List ℕ) → Agree (b ∷ x) old → 0 < length old → get_or old 0 0 ≡ b
first_agrees b x [] agree some = absurd (omega (arith, some))
first_agrees b x (c ∷ y) agree some = sym (agree_head b c x y agree)

-- where no byte is left, a line that ends with its line feed is cut short
pub cut_at_start : {V : Type 0} (Fits : V → Type 0) (text : V → List ℕ) (old : List ℕ) → length old ≡ 0 → (v : V) → Fits v → text v ≢ [] → IsCutShort Fits text old
cut_at_start Fits text [] none v fits some = nothing_left v fits some
cut_at_start Fits text (b ∷ old) none v fits some = cc

-- where a value is its part, it is read as that is
pub read_case : {V : Type 0} {Fits : V → Type 0} {text : V → List ℕ} (F : V → Type 0) (old new : List ℕ) → IsCase Fits text F text (λ v. v) old → (r : Result V Miss) → Reads F text old new r → Reads Fits text old new r
read_case F old new one (Ok v) reads = ok_case old new one v reads
read_case F old new one (Err e) reads = err_case old new new one e reads

-- of two values that fit, the text of neither begins that of the other
abbrev pub IsPrefixFree : {V : Type 0} → (V → Type 0) → (V → List ℕ) → Type 0
IsPrefixFree {V} Fits text = (v w : V) → Fits v → Fits w → Agree (text w) (text v) → w ≡ v

pub agree_back : (a b c : List ℕ) → Agree a (b ++ c) → Agree a b
agree_back a b c (rest, inl is) = prefixes_agree a b rest c is
agree_back a b c (rest, inr is) = (c ++ rest, inr (is ∙ append_assoc b c rest))

pub one_free : (word : List ℕ) → IsPrefixFree {V = Unit {0}} (λ u. Unit {0}) (λ u. word)
one_free word v w fits_v fits_w agree = refl
