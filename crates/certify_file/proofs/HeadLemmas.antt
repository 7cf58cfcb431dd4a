-- The first line of a certificate, and what a whole text is refused for.
use Rattle.std.proofs.Common.{◌≡◌, ℕ, ◌<◌, ◌≤◌, ◌^◌, true, not, nat_eq, List, [], ◌∷◌, ◌++◌, length, Result, Ok, Err, decimal, refl, sym, ◌∙◌, ap, subst, inl, inr, append_assoc, Contains, arith}
use Rattle.std.specs.Prelude.{IfErr, IfOk, MatchResult, ◌↔◌, codes}
use Rattle.std.proofs.lemmas.Bool.{both_ways, not-true, not-false, eq-eqb, eqb-true, true_from_ne_false}
use Rattle.std.proofs.lemmas.Fmt.{decimal_digit, decimal_injective}
use Rattle.std.proofs.lemmas.List.{append_cancel_left, append_cancel_right, append-nil}
use Rattle.std.proofs.lemmas.List.Elements.{Contains-append_right}
use Rattle.line_text.specs.declared.miss.Miss.{Miss}
use Rattle.line_text.specs.declared.miss.Miss.TheVariants.{OutOfMemory as NoMemory, Short, Wrong}
use Rattle.line_text.specs.Files.{IsFirstLine, IsProperPrefix, IsBadLine, IsVersionLine}
use Rattle.line_text.specs.Files.IsFirstLine.{ended}
use Rattle.line_text.specs.OneLine.{IsLine}
use Rattle.line_text.specs.Reading.{Reads}
use Rattle.line_text.proofs.FilesLemmas.{first_line_whole, nothing_read, bad_line, ends_line}
use Rattle.line_text.proofs.Splits.{prefixes_agree}
use Rattle.line_text.proofs.VersionLemmas.{decimal-no_feed}
use Rattle.certify_facts.specs.Told.{Told}
use Rattle.certify_file.specs.declared.error.CertificateError.{CertificateError}
use Rattle.certify_file.specs.declared.error.CertificateError.TheVariants.{OutOfMemory, BadLine, NoEnd, TooLong, Version}
use Rattle.certify_file.specs.CertificateText.{which_line, verdict_line, certificate_head, certificate_text, IsCertificate, IsFormedCertificate, IsCertificateWithin, HasOtherCertificateVersion, IsCertificateRefusal, longest, most}
use Rattle.certify_file.specs.Lines.{HasOtherNumber, IsHeadRefusal, IsLinesRefusal, refusal_of}
use Rattle.certify_file.proofs.FreeLemmas.{end_line, lines_of, texts_same, same_certificate}
use Rattle.certify_file.proofs.FileLemmas.{head_ended, some_judged, judged_formed, many_not_bad, many_not_cut, many_not_within, unended_is}
use Rattle.line_text.proofs.FirstLines.{line_alone, nonempty_rest, through_begins}

abbrev word : List ℕ
word = codes "dyckmon-certificate "

-- the number of a version

version_alone : (word line : List ℕ) (m n : ℕ) → m < 2 ^ 32 → n < 2 ^ 32 → IsVersionLine word m line → IsVersionLine word n line → m ≡ n
version_alone word line m n small_m small_n (inl is_m) (inl is_n) =
    decimal_injective m n (omega arith) (omega arith) (append_cancel_left word (decimal m) (decimal n) (sym is_m ∙ is_n))
version_alone word line m n small_m small_n (inl is_m) (inr is_n) =
    absurd (decimal-no_feed m (omega arith) (ends_so m n (append_cancel_left word (decimal m) (decimal n ++ 10 ∷ []) (sym is_m ∙ is_n ∙ append_assoc word (decimal n) (10 ∷ [])))))
  where
    ends_so : (m n : ℕ) → decimal m ≡ decimal n ++ 10 ∷ [] → Contains (decimal m) 10
    ends_so m n is = subst (λ (t : List ℕ). Contains t 10) (sym is) (Contains-append_right (decimal n) (10 ∷ []) 10 (0, omega arith, refl))
version_alone word line m n small_m small_n (inr is_m) (inl is_n) =
    absurd (decimal-no_feed n (omega arith) (ends_so n m (append_cancel_left word (decimal n) (decimal m ++ 10 ∷ []) (sym is_n ∙ is_m ∙ append_assoc word (decimal m) (10 ∷ [])))))
  where
    ends_so : (m n : ℕ) → decimal m ≡ decimal n ++ 10 ∷ [] → Contains (decimal m) 10
    ends_so m n is = subst (λ (t : List ℕ). Contains t 10) (sym is) (Contains-append_right (decimal n) (10 ∷ []) 10 (0, omega arith, refl))
version_alone word line m n small_m small_n (inr is_m) (inr is_n) =
    let same : decimal m ++ 10 ∷ [] ≡ decimal n ++ 10 ∷ [] = append_cancel_left word (decimal m ++ 10 ∷ []) (decimal n ++ 10 ∷ []) (sym (append_assoc word (decimal m) (10 ∷ [])) ∙ sym is_m ∙ is_n ∙ append_assoc word (decimal n) (10 ∷ [])) in
    decimal_injective m n (omega arith) (omega arith) (append_cancel_right (decimal m) (decimal n) (10 ∷ []) same)

-- whether the number that the first line has is another
pub other_number : (line : List ℕ) (n : ℕ) → n < 2 ^ 32 → IsVersionLine word n line → (HasOtherNumber line → n ≡ 1 → ⊥)
other_number line n small stands (m, small_m, other, stands_m) one = other (version_alone word line m n small_m small stands_m stands ∙ one)

head_version : IsVersionLine word 1 certificate_head
head_version = inr (ap (λ (t : List ℕ). word ++ t ++ 10 ∷ []) (sym (decimal_digit 1 (omega arith))))

-- the right first line has no other number
pub head_no_other : HasOtherNumber certificate_head → ⊥
head_no_other other = other_number certificate_head 1 (omega arith) head_version other refl

version_of_text : (text line rest : List ℕ) → IsFirstLine text line rest → HasOtherNumber line → HasOtherCertificateVersion text
version_of_text text line rest first (n, small, other, stands) = record { line = line; rest = rest; first = first; number = n; small = small; other = other; stands = stands }

no_version_of_text : (text line rest : List ℕ) → IsFirstLine text line rest → (HasOtherNumber line → ⊥) → HasOtherCertificateVersion text → ⊥
no_version_of_text text line rest first none has =
    none (has.number, has.small, has.other, subst (IsVersionLine word has.number) (line_alone text line rest has.line has.rest first has.first) has.stands)

pub number_tells : (line : List ℕ) (n : ℕ) → n < 2 ^ 32 → IsVersionLine word n line → (not (nat_eq n 1) ≡ true) ↔ HasOtherNumber line
number_tells line n small stands = (
  λ holds. (n, small, (λ one. both_ways (nat_eq n 1) (not-true (nat_eq n 1) holds) (eq-eqb n 1 one)), stands),
  λ other. true_from_ne_false (not (nat_eq n 1)) (λ same. other_number line n small stands other (eqb-true n 1 (not-false (nat_eq n 1) same))),
)

-- the first line where it was read, or was not

pub head_whole : (line new : List ℕ) → IsLine line → line ≡ certificate_head ++ new → line ≡ certificate_head
head_whole line new (rest, first) stands =
    let none : new ≡ [] = ends_line certificate_head head_ended.0 rest line new (line ++ rest) head_ended.2 stands first in
    stands ∙ ap (λ (t : List ℕ). certificate_head ++ t) none ∙ append-nil certificate_head

pub head_refused : (line new : List ℕ) (miss : Miss) → (HasOtherNumber line → ⊥) → (◌≡◌ {A = Result (Unit {0}) Miss} (Err miss) (Err NoMemory) → ⊥) → Reads {V = Unit {0}} (λ u. Unit {0}) (λ u. certificate_head) line new (Err miss) → IsHeadRefusal (refusal_of miss 0) line
head_refused line new NoMemory none memory reads = absurd (memory refl)
head_refused line new Short none memory reads = (none, reads)
head_refused line new Wrong none memory reads = (refl, none, reads tt tt)

-- the whole text

-- why a text is refused whose first line is refused
pub refused_at_head : (error : CertificateError) (text line rest : List ℕ) → length text ≤ longest → IsFirstLine text line rest → IsHeadRefusal error line → IsCertificateRefusal error text
refused_at_head OutOfMemory text line rest short first refused = tt
refused_at_head TooLong text line rest short first refused = absurd refused
refused_at_head Version text line rest short first refused = (short, version_of_text text line rest first refused)
refused_at_head (BadLine k) text line rest short first (one, none, wrong) =
    let some = some_judged in
    let bad = bad_line IsFormedCertificate IsFormedCertificate 0 [] text line rest (nothing_read IsFormedCertificate (certificate_head ++ some.0) (judged_formed some.0 some.1)) first (λ w formed. wrong (prefixes_agree certificate_head line (which_line formed.0.judge ++ (verdict_line formed.0.verdict ++ (lines_of formed.0.lines ++ end_line))) w (sym formed.1.is))) in (
      short,
      no_version_of_text text line rest first none,
      many_not_bad text 1 (omega arith) bad,
      subst (λ (n : ℕ). IsBadLine IsFormedCertificate text n) (sym one) bad,
    )
refused_at_head NoEnd text line rest short first (none, cut) =
    let is : text ≡ line = unended_is text line rest first cut.unended in
    let some = some_judged in
    let whole : certificate_head ≡ text ++ cut.rest = cut.goes_on ∙ ap (λ (t : List ℕ). t ++ cut.rest) (sym is) in (
      short,
      no_version_of_text text line rest first none,
      many_not_cut text [] text 0 (omega arith) refl refl (λ has. cut.unended (subst (λ (t : List ℕ). Contains t 10) is has)),
      (cut.rest ++ some.0, nonempty_rest cut.rest some.0 cut.more, subst IsFormedCertificate (ap (λ (t : List ℕ). t ++ some.0) whole ∙ append_assoc text cut.rest some.0) (judged_formed some.0 some.1)),
    )

no_version_after_head : (text line rest : List ℕ) → IsFirstLine text line rest → line ≡ certificate_head → HasOtherCertificateVersion text → ⊥
no_version_after_head text line rest first is = no_version_of_text text line rest first (λ other. head_no_other (subst HasOtherNumber is other))

-- why a text is refused whose first line is right
refused_after_head : (error : CertificateError) (text line rest : List ℕ) → length text ≤ longest → IsFirstLine text line rest → line ≡ certificate_head → IsLinesRefusal error (certificate_head ++ rest) → IsCertificateRefusal error text
refused_after_head error text line rest short first is refused = by_error error (subst (IsLinesRefusal error) (sym whole) refused) where
  whole : text ≡ certificate_head ++ rest
  whole = first_line_whole text line rest first ∙ ap (λ (t : List ℕ). t ++ rest) is

  by_error : (error : CertificateError) → IsLinesRefusal error text → IsCertificateRefusal error text
  by_error OutOfMemory refused = tt
  by_error TooLong refused = inr refused
  by_error Version refused = absurd refused
  by_error (BadLine k) refused = (short, no_version_after_head text line rest first is, refused.0, refused.1)
  by_error NoEnd refused = (short, no_version_after_head text line rest first is, refused.0, refused.1)

-- a text within the limits is refused for want of memory alone

no_version_in : (text : List ℕ) (c : Told) → IsCertificate text c → HasOtherCertificateVersion text → ⊥
no_version_in text c read has =
    no_version_after_head text certificate_head (which_line c.judge ++ (verdict_line c.verdict ++ (lines_of c.lines ++ end_line))) (ended head_ended.0 head_ended.1 head_ended.2 read.is) refl has

no_longer : (text : List ℕ) (c : Told) → IsCertificate text c → IsProperPrefix IsFormedCertificate text → ⊥
no_longer text c read (rest, some, (d, formed)) =
    let is : certificate_text c ++ rest ≡ certificate_text d ++ [] = ap (λ (t : List ℕ). t ++ rest) (sym read.is) ∙ formed.is ∙ sym (append-nil (certificate_text d)) in
    some (texts_same c d rest [] read.counted formed.counted read.right formed.right is).1

pub not_refused : (error : CertificateError) (text : List ℕ) (c : Told) → IsCertificateWithin text c → IsCertificateRefusal error text → error ≡ OutOfMemory
not_refused OutOfMemory text c read refused = refl
not_refused TooLong text c read (inl long) = absurd (omega (arith, read.short))
not_refused TooLong text c read (inr many) = absurd (many_not_within text c read.certificate read.few many)
not_refused Version text c read refused = absurd (no_version_in text c read.certificate refused.1)
not_refused (BadLine k) text c read refused =
    let front = through_begins k text in
    absurd (refused.3.bad (front.0, subst IsFormedCertificate front.1 (c, read.certificate)))
not_refused NoEnd text c read refused = absurd (no_longer text c read.certificate refused.3)

-- what was read of a text whose first line is right

-- what the reader of the lines after the first gives
abbrev pub IsReadAfter : List ℕ → Result Told CertificateError → Type 0
IsReadAfter rest found = MatchResult found (λ c. IsCertificate (certificate_head ++ rest) c × (length c.lines ≤ most)) (λ error. IsLinesRefusal error (certificate_head ++ rest))

pub found_read : (found : Result Told CertificateError) (text line rest : List ℕ) → length text ≤ longest → IsFirstLine text line rest → line ≡ certificate_head → IsReadAfter rest found → IfOk found (λ c. IsCertificateWithin text c)
found_read (Ok c) text line rest short first is read = record {
  certificate = subst (λ (t : List ℕ). IsCertificate t c) (sym (first_line_whole text line rest first ∙ ap (λ (t : List ℕ). t ++ rest) is)) read.0;
  few = read.1;
  short = short;
}
found_read (Err e) text line rest short first is refused = tt

pub found_refused : (found : Result Told CertificateError) (text line rest : List ℕ) → length text ≤ longest → IsFirstLine text line rest → line ≡ certificate_head → IsReadAfter rest found → IfErr found (λ error. IsCertificateRefusal error text)
found_refused (Ok c) text line rest short first is read = tt
found_refused (Err e) text line rest short first is refused = refused_after_head e text line rest short first is refused

pub found_complete : (found : Result Told CertificateError) (text : List ℕ) (c : Told) → IsCertificateWithin text c → IfErr found (λ error. IsCertificateRefusal error text) → IfErr found (λ error. error ≡ OutOfMemory)
found_complete (Ok d) text c within refused = tt
found_complete (Err e) text c within refused = not_refused e text c within refused

pub found_same : (found : Result Told CertificateError) (text : List ℕ) (c : Told) → IsCertificateWithin text c → IfOk found (λ d. IsCertificateWithin text d) → IfOk found (λ d. d ≡ c)
found_same (Ok d) text c within read = same_certificate text c d within.certificate read.certificate
found_same (Err e) text c within read = tt
