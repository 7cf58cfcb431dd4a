-- How the lines of a file of results are read.
use Rattle.std.proofs.Common.{◌≡◌, ◌≢◌, ℕ, zero, suc, ◌≤◌, ℤ, pos, negsuc, ◌≤ℤ◌, List, [], ◌∷◌, ◌++◌, length, get_or, Result, Ok, Err, refl, sym, ◌∙◌, ap, subst, inl, inr, append_assoc, Contains, arith}
use Rattle.std.specs.Prelude.{◌⊎◌, FitsSigned, codes}
use Rattle.std.specs.Int.{w64}
use Rattle.std.specs.Fmt.{signed_decimal}
use Rattle.std.proofs.lemmas.Int.{ints}
use Rattle.std.proofs.lemmas.List.Elements.{Contains-append_cases}
use Rattle.hex.specs.Hex.{IsBytes, encode_lower}
use Rattle.line_text.specs.declared.miss.Miss.{Miss}
use Rattle.line_text.specs.declared.miss.Miss.TheVariants.{OutOfMemory, Short, Wrong}
use Rattle.line_text.specs.OneLine.{IsLine}
use Rattle.line_text.specs.Reading.{Agree, StandsFirst, IsCutShort, Reads}
use Rattle.line_text.specs.Words.{IsEnd, IsPlain, EndsWith, integer_word, hexadecimal_word}
use Rattle.line_text.proofs.Splits.{IsSplit, IsCase, agree_front, agree_head, ok_case, err_case, ok_both, err_first, err_next, nothing_left}
use Rattle.line_text.proofs.FilesLemmas.{ends_line}
use Rattle.line_text.proofs.WordLemmas.{IsPlain-no_feed, agreed_word, agreed_front}
use Rattle.line_text.proofs.IntegerLemmas.{signed-IsPlain}
use Rattle.sys_table.specs.declared.sys_result.SysResult.{SysResult}
use Rattle.sys_table.specs.declared.results_line.ResultsLine.{ResultsLine}
use Rattle.sys_table.specs.declared.results_line.ResultsLine.TheVariants.{Record, End}
use Rattle.sys_table.specs.ResultsLines.{HasData, HasNoData, IsResultsLine, results_line}
use Rattle.sys_table.specs.ResultsText.{IsRightResult, data_text, result_text, result_line}
use Rattle.line_text.proofs.Separators.{space, feed}

-- the values of records
abbrev pub IsValue : ℤ → Type 0
IsValue z = (negsuc 2147483647 ≤ℤ z) × (z ≤ℤ pos 4294967295)

pub value_fits : (z : ℤ) → IsValue z → FitsSigned w64 z
value_fits z within = let low = within.0 in let high = within.1 in omega (arith, ints)

pub value_plain : (r : SysResult) → IsRightResult r → IsPlain (signed_decimal r.value)
value_plain r right = signed-IsPlain r.value (value_fits r.value (right.low, right.high))

-- the record with this value and these data
abbrev pub record_of : ℤ → List ℕ → SysResult
record_of z bytes = record { value = z; bytes = bytes }

no_bytes : IsBytes []
no_bytes i = omega arith

one_byte : IsBytes (0 ∷ [])
one_byte zero = omega arith
one_byte (suc i) = omega arith

some-data_text : (bytes : List ℕ) → bytes ≢ [] → data_text bytes ≡ 32 ∷ encode_lower bytes
some-data_text [] some = absurd (some refl)
some-data_text (b ∷ bytes) some = refl

-- a record with data

data_parts : (z : ℤ) (bytes : List ℕ) → bytes ≢ [] → result_text (record_of z bytes) ≡ integer_word 32 z ++ hexadecimal_word 10 bytes
data_parts z bytes some =
    ap (λ (t : List ℕ). signed_decimal z ++ (t ++ 10 ∷ [])) (some-data_text bytes some)
    ∙ sym (append_assoc (signed_decimal z) (32 ∷ []) (hexadecimal_word 10 bytes))

pub with_data : IsSplit HasData result_text IsValue (integer_word 32) (λ z bytes. IsBytes bytes × (bytes ≢ [])) (λ z bytes. hexadecimal_word 10 bytes) record_of
with_data = record {
  apart = λ v fits. (v.value, v.bytes, (fits.0.low, fits.0.high), (fits.0.are_bytes, fits.1), refl);
  joined = λ z bytes within some. ((record { low = within.0; high = within.1; are_bytes = some.0 }, some.1), data_parts z bytes some.1);
  goes_on = λ z within. (0 ∷ [], (one_byte, λ none. cc));
  plain = λ z within has.
      elim (Contains-append_cases (signed_decimal z) (32 ∷ []) 10 has) [
        | inl front ↦ IsPlain-no_feed (signed_decimal z) (signed-IsPlain z (value_fits z within)) front
        | inr back ↦ other back
      ];
} where
  other : Contains {X = ℕ} (32 ∷ []) 10 → ⊥
  other (zero, within, is) = absurd (omega (arith, is))
  other (suc k, within, is) = omega (arith, within)

-- a record without data

no_data_is : (v : SysResult) → v.bytes ≡ [] → v ≡ record_of v.value []
no_data_is v none = λ i. record { value = v.value; bytes = none i }

pub without_data : (old : List ℕ) → IsCase HasNoData result_text IsValue (integer_word 10) (λ z. record_of z []) old
without_data old = record {
  made = λ z within. ((record { low = within.0; high = within.1; are_bytes = no_bytes }, refl), refl);
  only = λ v fits agree. (v.value, (fits.0.low, fits.0.high), no_data_is v fits.1);
}

-- which of both

-- the value and the space before data agree where the record does
value_agrees : (z : ℤ) (bytes : List ℕ) (old : List ℕ) → bytes ≢ [] → Agree (result_text (record_of z bytes)) old → Agree (integer_word 32 z) old
value_agrees z bytes old some agree = agree_front (integer_word 32 z) (hexadecimal_word 10 bytes) old (subst (λ (t : List ℕ). Agree t old) (data_parts z bytes some) agree)

data_or_none : (v : SysResult) → (v.bytes ≡ []) ⊎ (v.bytes ≢ [])
data_or_none v = by_cases v.bytes where
  by_cases : (bytes : List ℕ) → (bytes ≡ []) ⊎ (bytes ≢ [])
  by_cases [] = inl refl
  by_cases (b ∷ bytes) = inr (λ none. cc)

not_space : (z : ℤ) (old : List ℕ) → IsValue z → EndsWith 10 old → Agree (integer_word 32 z) old → ⊥
not_space z old within (word, rest, plain, is) agree =
    let same = agreed_word (signed_decimal z) word 32 10 rest (signed-IsPlain z (value_fits z within)) plain space feed (subst (Agree (integer_word 32 z)) is agree) in
    omega (arith, same.1)

not_feed : (z : ℤ) (old : List ℕ) → IsValue z → EndsWith 32 old → Agree (integer_word 10 z) old → ⊥
not_feed z old within (word, rest, plain, is) agree =
    let same = agreed_word (signed_decimal z) word 10 32 rest (signed-IsPlain z (value_fits z within)) plain feed space (subst (Agree (integer_word 10 z)) is agree) in
    omega (arith, same.1)

is_data : (old : List ℕ) → EndsWith 32 old → IsCase IsRightResult result_text HasData result_text (λ r. r) old
is_data old ends = record {
  made = λ r fits. (fits.0, refl);
  only = λ v right agree.
      elim (data_or_none v) [
        | inl none ↦ absurd (not_feed v.value old (right.low, right.high) ends (subst (λ (w : SysResult). Agree (result_text w) old) (no_data_is v none) agree))
        | inr some ↦ (v, (right, some), refl)
      ];
}

-- a text of one kind, read as that kind
within_case : {Fits Part : SysResult → Type 0} {text : SysResult → List ℕ} (old new : List ℕ) (found : Result SysResult Miss) → IsCase Fits text Part text (λ r. r) old → Reads Part text old new found → Reads Fits text old new found
within_case old new (Ok r) one reads = ok_case old new one r reads
within_case old new (Err e) one reads = err_case old new new one e reads

pub data_read : (old new : List ℕ) (found : Result SysResult Miss) → EndsWith 32 old → Reads HasData result_text old new found → Reads IsRightResult result_text old new found
data_read old new found ends reads = within_case old new found (is_data old ends) reads

pub no_data_read : (old new : List ℕ) (found : Result SysResult Miss) → IsPlain old ⊎ EndsWith 10 old → Reads HasNoData result_text old new found → Reads IsRightResult result_text old new found
no_data_read old new (Ok r) ends reads = record {
  fits = reads.fits.0;
  stands = reads.stands;
  only = λ v right agree.
      elim (data_or_none v) [
        | inl none ↦ reads.only v (right, none) agree
        | inr some ↦
            let text : result_text r ≡ integer_word 10 r.value = ap result_text (no_data_is r reads.fits.1) in
            let is : old ≡ signed_decimal r.value ++ 10 ∷ new = reads.stands ∙ ap (λ (t : List ℕ). t ++ new) text ∙ append_assoc (signed_decimal r.value) (10 ∷ []) new in
            absurd (not_space v.value old (right.low, right.high) (signed_decimal r.value, new, value_plain r reads.fits.0, is) (value_agrees v.value v.bytes old some agree))
      ];
}
no_data_read old new (Err OutOfMemory) ends reads = tt
no_data_read old new (Err Short) ends reads = record { value = reads.value; rest = reads.rest; fits = reads.fits.0; more = reads.more; goes_on = reads.goes_on; unended = reads.unended }
no_data_read old new (Err Wrong) ends none = λ v right agree.
    elim (data_or_none v) [
      | inl empty ↦ none v (right, empty) agree
      | inr some ↦
          let within : IsValue v.value = (right.low, right.high) in
          let agree' : Agree (integer_word 32 v.value) old = value_agrees v.value v.bytes old some agree in
          elim ends [
            | inl plain ↦
                let front = agreed_front (signed_decimal v.value) old 32 plain space agree' in
                none (record_of v.value []) (record { low = right.low; high = right.high; are_bytes = no_bytes }, refl)
                (front.0 ++ 10 ∷ [], inr (ap (λ (t : List ℕ). t ++ 10 ∷ []) front.1 ∙ append_assoc old front.0 (10 ∷ [])))
            | inr feeds ↦ not_space v.value old within feeds agree'
          ]
    ]

-- the whole line of a record

pub after_word : IsSplit IsRightResult result_line (λ (u : Unit {0}). Unit {0}) (λ u. codes "R ") (λ u r. IsRightResult r) (λ u r. result_text r) (λ u r. r)
after_word = record {
  apart = λ r right. (tt, r, tt, right, refl);
  joined = λ u r fits right. (right, refl);
  goes_on = λ u fits. (record_of (pos 0) [], record { low = omega (arith, ints); high = omega (arith, ints); are_bytes = no_bytes });
  plain = λ u fits. no_feed;
} where
  no_feed : Contains (codes "R ") 10 → ⊥
  no_feed (zero, within, is) = absurd (omega (arith, is))
  no_feed (suc zero, within, is) = absurd (omega (arith, is))
  no_feed (suc (suc k), within, is) = omega (arith, within)

-- the line without its line feed
abbrev pub line_front : SysResult → List ℕ
line_front r = codes "R " ++ (signed_decimal r.value ++ data_text r.bytes)

pub line_is : (r : SysResult) → result_line r ≡ line_front r ++ 10 ∷ []
line_is r =
    ap (λ (t : List ℕ). codes "R " ++ t) (sym (append_assoc (signed_decimal r.value) (data_text r.bytes) (10 ∷ [])))
    ∙ sym (append_assoc (codes "R ") (signed_decimal r.value ++ data_text r.bytes) (10 ∷ []))

-- what stands first in a line and ends with a line feed is the line
pub whole_line : {V : Type 0} (Fits : V → Type 0) (text : V → List ℕ) (line new : List ℕ) (found : Result V Miss) → ((v : V) → (front : List ℕ) × (text v ≡ front ++ 10 ∷ [])) → IsLine line → Reads Fits text line new found → Reads Fits text line [] found
whole_line Fits text line new (Ok v) ends (rest, first) reads =
    let none : new ≡ [] = ends_line (text v) (ends v).0 rest line new (line ++ rest) (ends v).1 reads.stands first in
    subst (λ (t : List ℕ). StandsFirst Fits text line t v) none reads
whole_line Fits text line new (Err OutOfMemory) ends is_line reads = tt
whole_line Fits text line new (Err Short) ends is_line reads = reads
whole_line Fits text line new (Err Wrong) ends is_line reads = reads

pub record_read : (line mid new : List ℕ) (found : Result SysResult Miss) → IsLine line → StandsFirst {V = Unit {0}} (λ u. Unit {0}) (λ u. codes "R ") line mid (tt {0}) → Reads IsRightResult result_text mid new found → Reads IsRightResult result_line line [] found
record_read line mid new (Ok r) is_line taken reads = whole_line IsRightResult result_line line new (Ok r) (λ v. (line_front v, line_is v)) is_line (ok_both after_word line mid new tt r taken reads)
record_read line mid new (Err e) is_line taken reads = whole_line IsRightResult result_line line new (Err e) (λ v. (line_front v, line_is v)) is_line (err_next after_word line mid new tt taken e reads)

pub record_missed : (line mid : List ℕ) (e : Miss) → Reads {V = Unit {0}} (λ u. Unit {0}) (λ u. codes "R ") line mid (Err e) → Reads IsRightResult result_line line [] (Err e)
record_missed line mid e none = err_first after_word line mid [] e none

-- a line

pub is_record : (line : List ℕ) → IsCase IsResultsLine results_line IsRightResult result_line Record (82 ∷ line)
is_record line = record {
  made = λ r right. (right, refl);
  only = record_alone;
} where
  record_alone : (v : ResultsLine) → IsResultsLine v → Agree (results_line v) (82 ∷ line) → (r : SysResult) × IsRightResult r × (v ≡ Record r)
  record_alone (Record r) right agree = (r, right, refl)
  record_alone End fits agree = absurd (omega (arith, agree_head 101 82 (codes "nd\n") line agree))

pub is_end : (b : ℕ) (line : List ℕ) → b ≢ 82 → IsCase IsResultsLine results_line (λ (u : Unit {0}). Unit {0}) (λ u. codes "end\n") (λ u. End) (b ∷ line)
is_end b line other = record {
  made = λ u fits. (tt, refl);
  only = end_alone;
} where
  end_alone : (v : ResultsLine) → IsResultsLine v → Agree (results_line v) (b ∷ line) → (u : Unit {0}) × Unit {0} × (v ≡ End)
  end_alone (Record r) right agree = absurd (other (sym (agree_head 82 b (32 ∷ result_text r) line agree)))
  end_alone End fits agree = (tt, tt, refl)

pub end_ends : (v : ResultsLine) → (front : List ℕ) × (results_line v ≡ front ++ 10 ∷ [])
end_ends (Record r) = (line_front r, line_is r)
end_ends End = (codes "end", refl)

pub empty_line : IsCutShort IsResultsLine results_line []
empty_line = nothing_left End tt (λ none. cc)

pub is_record_at : (line : List ℕ) → 1 ≤ length line → get_or line 0 0 ≡ 82 → IsCase IsResultsLine results_line IsRightResult result_line Record line
is_record_at [] some first = absurd (omega arith)
is_record_at (b ∷ line) some first = subst (λ (c : ℕ). IsCase IsResultsLine results_line IsRightResult result_line Record (c ∷ line)) (sym first) (is_record line)

pub is_end_at : (line : List ℕ) → 1 ≤ length line → get_or line 0 0 ≢ 82 → IsCase IsResultsLine results_line (λ (u : Unit {0}). Unit {0}) (λ u. codes "end\n") (λ u. End) line
is_end_at [] some other = absurd (omega arith)
is_end_at (b ∷ line) some other = is_end b line other
