-- How a file of results is read line by line.
use Rattle.std.proofs.Common.{◌≡◌, ◌≢◌, ℕ, zero, suc, ◌+◌, ◌<◌, ◌≤◌, ◌^◌, Bool, true, false, not, ◌&&◌, nat_eq, List, [], ◌∷◌, ◌++◌, length, get_or, Result, Ok, Err, decimal, refl, sym, ◌∙◌, ap, subst, inl, inr, append_assoc, length-append, Contains, All, arith}
use Rattle.std.specs.Prelude.{IfErr, IfOk, MatchResult, ◌↔◌, if◌then◌else◌, codes, flat_map}
use Rattle.std.specs.Fmt.{signed_decimal}
use Rattle.std.proofs.lemmas.Bool.{cases_eq, both_ways, not-true, not-false, and_parts, eq-eqb, eqb-true, true_from_ne_false}
use Rattle.std.proofs.lemmas.Fmt.{decimal_digit, decimal_injective}
use Rattle.std.proofs.lemmas.List.{append_cancel_left, append_cancel_right, append-nil, flat_map_more}
use Rattle.std.proofs.lemmas.List.Elements.{Contains-append_cases, Contains-append_left, Contains-append_right, All-push, All-nil, All-cons, All-head, All-tail}
use Rattle.hex.specs.Hex.{IsBytes, encode_lower}
use Rattle.line_text.specs.declared.miss.Miss.{Miss}
use Rattle.line_text.specs.declared.miss.Miss.TheVariants.{OutOfMemory as NoMemory, Short, Wrong}
use Rattle.line_text.specs.Files.{through, IsFirstLine, IsProperPrefix, IsBadLine, IsVersionLine}
use Rattle.line_text.specs.OneLine.{IsLine}
use Rattle.line_text.specs.Files.IsFirstLine.{ended, unended}
use Rattle.line_text.specs.Reading.{Agree, StandsFirst, IsCutShort, Reads}
use Rattle.line_text.specs.Words.{IsEnd}
use Rattle.line_text.proofs.Splits.{prefixes_agree}
use Rattle.line_text.proofs.FilesLemmas.{ends_line, through_first, first_line_whole, HasRead, nothing_read, one_more, bad_line, proper_prefix}
use Rattle.line_text.proofs.VersionLemmas.{decimal-no_feed}
use Rattle.line_text.proofs.WordLemmas.{IsPlain-no_feed, same_word}
use Rattle.line_text.proofs.IntegerLemmas.{signed_injective}
use Rattle.line_text.proofs.HexadecimalLemmas.{hexadecimal-IsPlain, encode-injective}
use Rattle.sys_table.specs.declared.sys_result.SysResult.{SysResult}
use Rattle.sys_table.specs.declared.results_line.ResultsLine.{ResultsLine}
use Rattle.sys_table.specs.declared.results_line.ResultsLine.TheVariants.{Record, End}
use Rattle.sys_table.specs.declared.results_error.ResultsError.{ResultsError}
use Rattle.sys_table.specs.declared.results_error.ResultsError.TheVariants.{OutOfMemory, BadLine, NoEnd, TooLong, Version}
use Rattle.sys_table.specs.ResultsLines.{HasOtherNumber, IsHeadRefusal, IsLinesRefusal, IsResultsLine, head_refusal_of, refusal_of, results_line}
use Rattle.sys_table.specs.ResultsText.{IsRightResult, data_text, result_text, result_line, results_head, AreResults, AreFormedResults, AreResultsWithin, HasTooManyResults, HasOtherResultsVersion, IsResultsRefusal, longest, most}
use Rattle.sys_table.proofs.ResultsLineLemmas.{value_fits, value_plain, line_front, line_is}
use Rattle.line_text.proofs.FirstLines.{first_of, nonempty_first, nil_front, end_line, line_alone, nonempty_rest, through_begins, lacks, unended_is}
pub use Rattle.line_text.proofs.FirstLines.{first_is_line}

-- the lines of the records
abbrev lines : List SysResult → List ℕ
lines records = flat_map result_line records

-- two lines in one text

data_same : (a b x y : List ℕ) → IsBytes a → IsBytes b → data_text a ++ 10 ∷ x ≡ data_text b ++ 10 ∷ y → (a ≡ b) × (x ≡ y)
data_same [] [] x y in_a in_b is = (refl, cc)
data_same [] (c ∷ b) x y in_a in_b is = let first : ◌≡◌ {A = ℕ} 10 32 = cc in absurd (omega arith)
data_same (c ∷ a) [] x y in_a in_b is = let first : ◌≡◌ {A = ℕ} 32 10 = cc in absurd (omega arith)
data_same (c ∷ a) (d ∷ b) x y in_a in_b is =
    let text : encode_lower (c ∷ a) ++ 10 ∷ x ≡ encode_lower (d ∷ b) ++ 10 ∷ y = tail_of (encode_lower (c ∷ a) ++ 10 ∷ x) (encode_lower (d ∷ b) ++ 10 ∷ y) is in
    let same = same_word (encode_lower (c ∷ a)) (encode_lower (d ∷ b)) 10 10 x y (hexadecimal-IsPlain (c ∷ a) in_a) (hexadecimal-IsPlain (d ∷ b) in_b) (inr refl) (inr refl) text in
    let rest : 10 ∷ x ≡ 10 ∷ y = append_cancel_left (encode_lower (c ∷ a)) (10 ∷ x) (10 ∷ y) (text ∙ ap (λ (w : List ℕ). w ++ 10 ∷ y) (sym same.0)) in
    (encode-injective (c ∷ a) (d ∷ b) in_a in_b same.0, tail_of x y (cc))
  where
    tail_of : (s t : List ℕ) → 32 ∷ s ≡ 32 ∷ t → s ≡ t
    tail_of s t is = cc

-- what follows the value of a record, as an end and the rest
data_end : (bytes x : List ℕ) → (e : ℕ) × (rest : List ℕ) × IsEnd e × (data_text bytes ++ 10 ∷ x ≡ e ∷ rest)
data_end [] x = (10, x, inr refl, refl)
data_end (b ∷ bytes) x = (32, encode_lower (b ∷ bytes) ++ 10 ∷ x, inl refl, refl)

regrouped : (r : SysResult) (x : List ℕ) → result_line r ++ x ≡ 82 ∷ 32 ∷ (signed_decimal r.value ++ (data_text r.bytes ++ 10 ∷ x))
regrouped r x = ap (λ (w : List ℕ). 82 ∷ 32 ∷ w) (append_assoc (signed_decimal r.value) (data_text r.bytes ++ 10 ∷ []) x ∙ ap (λ (w : List ℕ). signed_decimal r.value ++ w) (append_assoc (data_text r.bytes) (10 ∷ []) x))

same_record : (r s : SysResult) → r.value ≡ s.value → r.bytes ≡ s.bytes → r ≡ s
same_record r s values bytes = λ i. record { value = values i; bytes = bytes i }

after_two : (s t : List ℕ) → 82 ∷ 32 ∷ s ≡ 82 ∷ 32 ∷ t → s ≡ t
after_two s t is = cc

pub line_same : (r s : SysResult) (x y : List ℕ) → IsRightResult r → IsRightResult s → result_line r ++ x ≡ result_line s ++ y → (r ≡ s) × (x ≡ y)
line_same r s x y right_r right_s is =
    let u : List ℕ = signed_decimal r.value ++ (data_text r.bytes ++ 10 ∷ x) in
    let v : List ℕ = signed_decimal s.value ++ (data_text s.bytes ++ 10 ∷ y) in
    let after : u ≡ v = after_two u v (sym (regrouped r x) ∙ is ∙ regrouped s y) in
    let end_r = data_end r.bytes x in
    let end_s = data_end s.bytes y in
    let parts : signed_decimal r.value ++ end_r.0 ∷ end_r.1 ≡ signed_decimal s.value ++ end_s.0 ∷ end_s.1 =
    ap (λ (w : List ℕ). signed_decimal r.value ++ w) (sym end_r.3) ∙ after ∙ ap (λ (w : List ℕ). signed_decimal s.value ++ w) end_s.3 in
    let values = same_word (signed_decimal r.value) (signed_decimal s.value) end_r.0 end_s.0 end_r.1 end_s.1 (value_plain r right_r) (value_plain s right_s) end_r.2 end_s.2 parts in
    let bytes : data_text r.bytes ++ 10 ∷ x ≡ data_text s.bytes ++ 10 ∷ y =
    append_cancel_left (signed_decimal r.value) (data_text r.bytes ++ 10 ∷ x) (data_text s.bytes ++ 10 ∷ y) (after ∙ ap (λ (w : List ℕ). w ++ (data_text s.bytes ++ 10 ∷ y)) (sym values.0)) in
    let same = data_same r.bytes s.bytes x y right_r.are_bytes right_s.are_bytes bytes in
    (same_record r s (signed_injective r.value s.value (value_fits r.value (right_r.low, right_r.high)) (value_fits s.value (right_s.low, right_s.high)) values.0) same.0, same.1)

pub line_not_end : (r : SysResult) (x y : List ℕ) → result_line r ++ x ≡ end_line ++ y → ⊥
line_not_end r x y is =
    let first : ◌≡◌ {A = ℕ} 82 101 = ap (λ (w : List ℕ). get_or w 0 0) is in
    omega arith

-- the lines of records in one text

pub records_same : (rs others : List SysResult) (u v : List ℕ) → All IsRightResult rs → All IsRightResult others → lines rs ++ (end_line ++ u) ≡ lines others ++ (end_line ++ v) → (rs ≡ others) × (u ≡ v)
records_same [] [] u v in_rs in_others is = (refl, append_cancel_left end_line u v is)
records_same [] (o ∷ others) u v in_rs in_others is = absurd (line_not_end o (lines others ++ (end_line ++ v)) u (sym (append_assoc (result_line o) (lines others) (end_line ++ v)) ∙ sym is))
records_same (r ∷ rs) [] u v in_rs in_others is = absurd (line_not_end r (lines rs ++ (end_line ++ u)) v (sym (append_assoc (result_line r) (lines rs) (end_line ++ u)) ∙ is))
records_same (r ∷ rs) (o ∷ others) u v in_rs in_others is =
    let first = line_same r o (lines rs ++ (end_line ++ u)) (lines others ++ (end_line ++ v)) (All-head IsRightResult r rs in_rs) (All-head IsRightResult o others in_others) (sym (append_assoc (result_line r) (lines rs) (end_line ++ u)) ∙ is ∙ append_assoc (result_line o) (lines others) (end_line ++ v)) in
    let more = records_same rs others u v (All-tail IsRightResult r rs in_rs) (All-tail IsRightResult o others in_others) first.1 in
    (ap (λ (x : SysResult). x ∷ rs) first.0 ∙ ap (λ (xs : List SysResult). o ∷ xs) more.0, more.1)

-- where more records stand first than were read, one stands first in what is left
pub record_left : (rs others : List SysResult) (rest tail : List ℕ) → All IsRightResult rs → All IsRightResult others → length rs < length others → lines rs ++ rest ≡ lines others ++ tail → (r : SysResult) × (after : List ℕ) × IsRightResult r × (rest ≡ result_line r ++ after)
record_left [] [] rest tail in_rs in_others less is = absurd (omega arith)
record_left [] (o ∷ others) rest tail in_rs in_others less is = (o, lines others ++ tail, All-head IsRightResult o others in_others, is ∙ append_assoc (result_line o) (lines others) tail)
record_left (r ∷ rs) [] rest tail in_rs in_others less is = absurd (omega arith)
record_left (r ∷ rs) (o ∷ others) rest tail in_rs in_others less is =
    let first = line_same r o (lines rs ++ rest) (lines others ++ tail) (All-head IsRightResult r rs in_rs) (All-head IsRightResult o others in_others) (sym (append_assoc (result_line r) (lines rs) rest) ∙ is ∙ append_assoc (result_line o) (lines others) tail) in
    record_left rs others rest tail (All-tail IsRightResult r rs in_rs) (All-tail IsRightResult o others in_others) (omega arith) first.1

pub record_after_limit : (rs : List SysResult) (rest : List ℕ) → All IsRightResult rs → length rs ≤ most → HasTooManyResults (results_head ++ (lines rs ++ rest)) → (r : SysResult) × (after : List ℕ) × IsRightResult r × (rest ≡ result_line r ++ after)
record_after_limit rs rest right few many =
    record_left rs many.records rest many.rest right many.right (omega (arith, many.many)) (append_cancel_left results_head (lines rs ++ rest) (lines many.records ++ many.rest) many.is)

-- what may follow

-- the lines of right records, and the end line
abbrev pub IsRest : List ℕ → Type 0
IsRest w = (more : List SysResult) × All IsRightResult more × (w ≡ lines more ++ end_line)

line_lacks_feed : (r : SysResult) → IsRightResult r → Contains (line_front r) 10 → ⊥
line_lacks_feed r right has =
    elim (Contains-append_cases (codes "R ") (signed_decimal r.value ++ data_text r.bytes) 10 has) [
      | inl word ↦ not_in_word word
      | inr later ↦
          elim (Contains-append_cases (signed_decimal r.value) (data_text r.bytes) 10 later) [
            | inl value ↦ IsPlain-no_feed (signed_decimal r.value) (value_plain r right) value
            | inr bytes ↦ data_lacks_feed r.bytes right.are_bytes bytes
          ]
    ]
  where
    not_in_word : Contains (codes "R ") 10 → ⊥
    not_in_word (zero, within, is) = absurd (omega (arith, is))
    not_in_word (suc zero, within, is) = absurd (omega (arith, is))
    not_in_word (suc (suc k), within, is) = omega (arith, within)

    data_lacks_feed : (bytes : List ℕ) → IsBytes bytes → Contains (data_text bytes) 10 → ⊥
    data_lacks_feed [] are (k, within, is) = omega (arith, within)
    data_lacks_feed (b ∷ bytes) are (zero, within, is) = absurd (omega (arith, is))
    data_lacks_feed (b ∷ bytes) are (suc k, within, is) = IsPlain-no_feed (encode_lower (b ∷ bytes)) (hexadecimal-IsPlain (b ∷ bytes) are) (k, omega (arith, within), is)

rest_after : (r : SysResult) (w : List ℕ) → IsRightResult r → IsRest (result_line r ++ w) → IsRest w
rest_after r w right ([], all, is) = absurd (line_not_end r w [] (is ∙ sym (append-nil end_line)))
rest_after r w right (o ∷ more, all, is) =
    let same = line_same r o w (lines more ++ end_line) right (All-head IsRightResult o more all) (is ∙ append_assoc (result_line o) (lines more) end_line) in
    (more, All-tail IsRightResult o more all, same.1)

rest_before : (r : SysResult) (w : List ℕ) → IsRightResult r → IsRest w → IsRest (result_line r ++ w)
rest_before r w right (more, all, is) = (r ∷ more, All-cons IsRightResult r more right all, ap (λ (x : List ℕ). result_line r ++ x) is ∙ sym (append_assoc (result_line r) (lines more) end_line))

end_rest : IsRest end_line
end_rest = ([], All-nil IsRightResult, refl)

some_rest : (w : List ℕ) × IsRest w
some_rest = (end_line, end_rest)

head_front : List ℕ
head_front = codes "dyckmon-results 1"

formed_rest : (w : List ℕ) → AreFormedResults (results_head ++ w) → IsRest w
formed_rest w (records, formed) = (records, formed.right, append_cancel_left results_head w (lines records ++ end_line) formed.is)

rest_formed : (w : List ℕ) → IsRest w → AreFormedResults (results_head ++ w)
rest_formed w (records, right, is) = (records, record { right = right; is = ap (λ (x : List ℕ). results_head ++ x) is })

more_read : (k : ℕ) (done : List ℕ) → HasRead AreFormedResults IsRest k done → (rs : List SysResult) → All IsRightResult rs → HasRead AreFormedResults IsRest (k + length rs) (done ++ lines rs)
more_read k done read [] right =
    let count : k ≡ k + 0 = omega arith in
    subst (λ (n : ℕ). HasRead AreFormedResults IsRest n (done ++ [])) count (subst (HasRead AreFormedResults IsRest k) (sym (append-nil done)) read)
more_read k done read (r ∷ rs) right =
    let right_r = All-head IsRightResult r rs right in
    let next = one_more AreFormedResults IsRest IsRest k done (result_line r) (line_front r) read (line_is r) (line_lacks_feed r right_r) (λ w. rest_after r w right_r) (λ w. rest_before r w right_r) some_rest in
    let all = more_read (k + 1) (done ++ result_line r) next rs (All-tail IsRightResult r rs right) in
    let count : k + 1 + length rs ≡ k + suc (length rs) = omega arith in
    subst (λ (n : ℕ). HasRead AreFormedResults IsRest n (done ++ (result_line r ++ lines rs))) count
    (subst (HasRead AreFormedResults IsRest (k + 1 + length rs)) (append_assoc done (result_line r) (lines rs)) all)

-- a line feed in a text, told by a test that computes

lacks_feed : (text : List ℕ) → lacks text ≡ true → Contains text 10 → ⊥
unfolding lacks
lacks_feed [] test has = omega (arith, has.1)
lacks_feed (b ∷ text) test (zero, within, is) = both_ways (nat_eq b 10) (not-true (nat_eq b 10) (and_parts (not (nat_eq b 10)) (lacks text) test).0) (eq-eqb b 10 is)
lacks_feed (b ∷ text) test (suc k, within, is) = lacks_feed text (and_parts (not (nat_eq b 10)) (lacks text) test).1 (k, omega (arith, within), is)

head_lacks_feed : Contains head_front 10 → ⊥
unfolding lacks head_front
head_lacks_feed = lacks_feed (codes "dyckmon-results 1") refl

end_lacks_feed : Contains (codes "end") 10 → ⊥
unfolding lacks
end_lacks_feed = lacks_feed (codes "end") refl

head_is : results_head ≡ head_front ++ 10 ∷ []
unfolding head_front
head_is = refl

-- the first line was read
head_read : HasRead AreFormedResults IsRest 1 results_head
head_read =
    one_more AreFormedResults AreFormedResults IsRest 0 [] results_head head_front
    (nothing_read AreFormedResults (results_head ++ end_line) (rest_formed end_line end_rest)) head_is head_lacks_feed formed_rest rest_formed some_rest

-- the first line and the lines of right records were read
lines_read : (rs : List SysResult) → All IsRightResult rs → HasRead AreFormedResults IsRest (1 + length rs) (results_head ++ lines rs)
lines_read rs right = more_read 1 results_head head_read rs right

whole_is : (rs : List SysResult) (rest : List ℕ) → (results_head ++ lines rs) ++ rest ≡ results_head ++ (lines rs ++ rest)
whole_is rs rest = append_assoc results_head (lines rs) rest

-- some line agrees with a line with which the rest begins
rest_agrees : (line w : List ℕ) → IsRest (line ++ w) → (v : ResultsLine) × IsResultsLine v × Agree (results_line v) line
rest_agrees line w ([], all, is) = (End, tt, prefixes_agree end_line line [] w (append-nil end_line ∙ sym is))
rest_agrees line w (o ∷ more, all, is) =
    (Record o, All-head IsRightResult o more all, prefixes_agree (result_line o) line (lines more ++ end_line) w (sym (is ∙ append_assoc (result_line o) (lines more) end_line)))

-- a line that is none

pub wrong_record_line : (rs : List SysResult) (rest line later : List ℕ) → All IsRightResult rs → length rs ≤ most → IsFirstLine rest line later → Reads IsResultsLine results_line line [] (Err Wrong) → (HasTooManyResults (results_head ++ (lines rs ++ rest)) → ⊥) × IsBadLine AreFormedResults (results_head ++ (lines rs ++ rest)) (length rs + 2)
wrong_record_line rs rest line later right few first none = (
  λ many.
      let found = record_after_limit rs rest right few many in
      none (Record found.0) found.2 (prefixes_agree (result_line found.0) line found.1 later (sym found.3 ∙ first_line_whole rest line later first)),
  let bad = bad_line AreFormedResults IsRest (1 + length rs) (results_head ++ lines rs) rest line later (lines_read rs right) first (λ w on. (let v = rest_agrees line w on in none v.0 v.1 v.2)) in
      let count : 1 + length rs + 1 ≡ length rs + 2 = omega arith in
      subst (λ (n : ℕ). IsBadLine AreFormedResults (results_head ++ (lines rs ++ rest)) n) count
      (subst (λ (t : List ℕ). IsBadLine AreFormedResults t (1 + length rs + 1)) (whole_is rs rest) bad),
)

-- a line that is cut

has_feed : (r : SysResult) (after : List ℕ) → Contains (result_line r ++ after) 10
has_feed r after = Contains-append_left (result_line r) after 10 (subst (λ (t : List ℕ). Contains t 10) (sym (line_is r)) (Contains-append_right (line_front r) (10 ∷ []) 10 (0, omega arith, refl)))

rest_of_cut : (line : List ℕ) → IsCutShort IsResultsLine results_line line → (w : List ℕ) × (w ≢ []) × IsRest (line ++ w)
rest_of_cut line cut = by_value cut.value cut.fits cut.goes_on where
  nonempty : (a b : List ℕ) → a ≢ [] → a ++ b ≢ []
  nonempty [] b some is = some refl
  nonempty (c ∷ a) b some is = cc

  by_value : (v : ResultsLine) → IsResultsLine v → results_line v ≡ line ++ cut.rest → (w : List ℕ) × (w ≢ []) × IsRest (line ++ w)
  by_value (Record r) fits is =
      (cut.rest ++ end_line, nonempty cut.rest end_line cut.more, (r ∷ [], All-cons IsRightResult r [] fits (All-nil IsRightResult), sym (append_assoc line cut.rest end_line) ∙ ap (λ (t : List ℕ). t ++ end_line) (sym is ∙ sym (append-nil (result_line r)))))
  by_value End fits is = (cut.rest, cut.more, ([], All-nil IsRightResult, sym is))

pub cut_record_line : (rs : List SysResult) (rest line later : List ℕ) → All IsRightResult rs → length rs ≤ most → IsFirstLine rest line later → IsCutShort IsResultsLine results_line line → (HasTooManyResults (results_head ++ (lines rs ++ rest)) → ⊥) × IsProperPrefix AreFormedResults (results_head ++ (lines rs ++ rest))
cut_record_line rs rest line later right few first cut =
    let is : rest ≡ line = unended_is rest line later first cut.unended in
    let more = rest_of_cut line cut in
    let prefix = proper_prefix AreFormedResults IsRest (1 + length rs) (results_head ++ lines rs) rest more.0 (lines_read rs right) more.1 (subst (λ (t : List ℕ). IsRest (t ++ more.0)) (sym is) more.2) in (
      λ many.
          let found = record_after_limit rs rest right few many in
          cut.unended (subst (λ (t : List ℕ). Contains t 10) (sym found.3 ∙ is) (has_feed found.0 found.1)),
      subst (IsProperPrefix AreFormedResults) (whole_is rs rest) prefix,
    )

-- the end line

pub finished : (rs : List SysResult) (rest later : List ℕ) → All IsRightResult rs → rest ≡ end_line ++ later → later ≡ [] → AreResults (results_head ++ (lines rs ++ rest)) rs
finished rs rest later right is none = record {
  right = right;
  is = ap (λ (t : List ℕ). results_head ++ (lines rs ++ t)) (is ∙ ap (λ (t : List ℕ). end_line ++ t) none ∙ append-nil end_line);
}

end_after : (w : List ℕ) → IsRest (end_line ++ w) → w ≡ []
end_after w ([], all, is) = append_cancel_left end_line w [] (is ∙ sym (append-nil end_line))
end_after w (o ∷ more, all, is) = absurd (line_not_end o (lines more ++ end_line) w (sym (append_assoc (result_line o) (lines more) end_line) ∙ sym is))

end_before : (w : List ℕ) → w ≡ [] → IsRest (end_line ++ w)
end_before w none = ([], All-nil IsRightResult, ap (λ (t : List ℕ). end_line ++ t) none ∙ append-nil end_line)

pub bytes_after_end : (rs : List SysResult) (rest later : List ℕ) → All IsRightResult rs → length rs ≤ most → rest ≡ end_line ++ later → later ≢ [] → (HasTooManyResults (results_head ++ (lines rs ++ rest)) → ⊥) × IsBadLine AreFormedResults (results_head ++ (lines rs ++ rest)) (length rs + 3)
bytes_after_end rs rest later right few is some =
    let done : List ℕ = results_head ++ lines rs in
    let read = one_more AreFormedResults IsRest (λ w. w ≡ []) (1 + length rs) done end_line (codes "end") (lines_read rs right) refl end_lacks_feed end_after end_before ([], refl) in
    let line = first_of later in
    let bad = bad_line AreFormedResults (λ w. w ≡ []) (1 + length rs + 1) (done ++ end_line) later line.0 line.1 read line.2 (λ w empty. nonempty_first later line.0 line.1 line.2 some (nil_front line.0 w empty)) in
    let count : 1 + length rs + 1 + 1 ≡ length rs + 3 = omega arith in
    let whole : (done ++ end_line) ++ later ≡ results_head ++ (lines rs ++ rest) = append_assoc done end_line later ∙ ap (λ (t : List ℕ). done ++ t) (sym is) ∙ whole_is rs rest in (
      λ many.
          let found = record_after_limit rs rest right few many in
          line_not_end found.0 found.1 later (sym found.3 ∙ is),
      subst (λ (n : ℕ). IsBadLine AreFormedResults (results_head ++ (lines rs ++ rest)) n) count
          (subst (λ (t : List ℕ). IsBadLine AreFormedResults t (1 + length rs + 1 + 1)) whole bad),
    )

-- one record more

lines_push : (rs : List SysResult) (r : SysResult) → lines (rs ++ r ∷ []) ≡ lines rs ++ result_line r
lines_push rs r = sym (flat_map_more result_line [] rs r)

pub record_more : (rs : List SysResult) (r : SysResult) (text rest later : List ℕ) → text ≡ lines rs ++ rest → rest ≡ result_line r ++ later → text ≡ lines (rs ++ r ∷ []) ++ later
record_more rs r text rest later is first =
    is ∙ ap (λ (t : List ℕ). lines rs ++ t) first ∙ sym (append_assoc (lines rs) (result_line r) later) ∙ ap (λ (t : List ℕ). t ++ later) (sym (lines_push rs r))

pub one_too_many : (rs : List SysResult) (r : SysResult) (text rest later : List ℕ) → All IsRightResult rs → IsRightResult r → length rs ≡ most → text ≡ lines rs ++ rest → rest ≡ result_line r ++ later → HasTooManyResults (results_head ++ text)
one_too_many rs r text rest later right right_r full is first = record {
  records = rs ++ r ∷ [];
  rest = later;
  many = length-append rs (r ∷ []) ∙ ap (λ (n : ℕ). n + 1) full;
  right = All-push IsRightResult rs r right right_r;
  is = ap (λ (t : List ℕ). results_head ++ t) (record_more rs r text rest later is first);
}

pub later_shorter : (r : SysResult) (rest later : List ℕ) → rest ≡ result_line r ++ later → length later < length rest
later_shorter r rest later is =
    let len : length rest ≡ length (result_line r) + length later = ap length is ∙ length-append (result_line r) later in
    let some : length (result_line r) ≡ suc (suc (length (result_text r))) = refl in
    omega arith

-- what stands first in the rest
pub line_stands : (v : ResultsLine) (rest line later : List ℕ) → IsFirstLine rest line later → StandsFirst IsResultsLine results_line line [] v → rest ≡ results_line v ++ later
line_stands v rest line later first stands =
    first_line_whole rest line later first ∙ ap (λ (t : List ℕ). t ++ later) (stands.stands ∙ append-nil (results_line v))

-- the first line

version_alone : (word line : List ℕ) (m n : ℕ) → m < 2 ^ 32 → n < 2 ^ 32 → IsVersionLine word m line → IsVersionLine word n line → m ≡ n
version_alone word line m n small_m small_n (inl is_m) (inl is_n) =
    decimal_injective m n (omega arith) (omega arith) (append_cancel_left word (decimal m) (decimal n) (sym is_m ∙ is_n))
version_alone word line m n small_m small_n (inl is_m) (inr is_n) =
    absurd (decimal-no_feed m (omega arith) (ends_so m n (append_cancel_left word (decimal m) (decimal n ++ 10 ∷ []) (sym is_m ∙ is_n ∙ append_assoc word (decimal n) (10 ∷ [])))))
  where
    ends_so : (m n : ℕ) → decimal m ≡ decimal n ++ 10 ∷ [] → Contains (decimal m) 10
    ends_so m n is = subst (λ (t : List ℕ). Contains t 10) (sym is) (Contains-append_right (decimal n) (10 ∷ []) 10 (0, omega arith, refl))
version_alone word line m n small_m small_n (inr is_m) (inl is_n) =
    absurd (decimal-no_feed n (omega arith) (ends_so n m (append_cancel_left word (decimal n) (decimal m ++ 10 ∷ []) (sym is_n ∙ is_m ∙ append_assoc word (decimal m) (10 ∷ [])))))
  where
    ends_so : (m n : ℕ) → decimal m ≡ decimal n ++ 10 ∷ [] → Contains (decimal m) 10
    ends_so m n is = subst (λ (t : List ℕ). Contains t 10) (sym is) (Contains-append_right (decimal n) (10 ∷ []) 10 (0, omega arith, refl))
version_alone word line m n small_m small_n (inr is_m) (inr is_n) =
    let same : decimal m ++ 10 ∷ [] ≡ decimal n ++ 10 ∷ [] = append_cancel_left word (decimal m ++ 10 ∷ []) (decimal n ++ 10 ∷ []) (sym (append_assoc word (decimal m) (10 ∷ [])) ∙ sym is_m ∙ is_n ∙ append_assoc word (decimal n) (10 ∷ [])) in
    decimal_injective m n (omega arith) (omega arith) (append_cancel_right (decimal m) (decimal n) (10 ∷ []) same)

-- whether the number that the first line has is another
pub other_number : (line : List ℕ) (n : ℕ) → n < 2 ^ 32 → IsVersionLine (codes "dyckmon-results ") n line → (HasOtherNumber line → n ≡ 1 → ⊥)
other_number line n small stands (m, small_m, other, stands_m) one = other (version_alone (codes "dyckmon-results ") line m n small_m small stands_m stands ∙ one)

head_version : IsVersionLine (codes "dyckmon-results ") 1 results_head
head_version = inr (ap (λ (t : List ℕ). codes "dyckmon-results " ++ t ++ 10 ∷ []) (sym (decimal_digit 1 (omega arith))))

-- the right first line has no other number
pub head_no_other : HasOtherNumber results_head → ⊥
head_no_other other = other_number results_head 1 (omega arith) head_version other refl

pub version_of_text : (text line rest : List ℕ) → IsFirstLine text line rest → HasOtherNumber line → HasOtherResultsVersion text
version_of_text text line rest first (n, small, other, stands) = record { line = line; rest = rest; first = first; number = n; small = small; other = other; stands = stands }

pub no_version_of_text : (text line rest : List ℕ) → IsFirstLine text line rest → (HasOtherNumber line → ⊥) → HasOtherResultsVersion text → ⊥
no_version_of_text text line rest first none has =
    none (has.number, has.small, has.other, subst (IsVersionLine (codes "dyckmon-results ") has.number) (line_alone text line rest has.line has.rest first has.first) has.stands)

-- the first line where it was read
pub head_whole : (line new : List ℕ) → IsLine line → line ≡ results_head ++ new → line ≡ results_head
head_whole line new (rest, first) stands =
    let none : new ≡ [] = ends_line results_head head_front rest line new (line ++ rest) head_is stands first in
    stands ∙ ap (λ (t : List ℕ). results_head ++ t) none ∙ append-nil results_head

pub head_refused : (line new : List ℕ) (miss : Miss) → (HasOtherNumber line → ⊥) → (◌≡◌ {A = Result (Unit {0}) Miss} (Err miss) (Err NoMemory) → ⊥) → Reads {V = Unit {0}} (λ u. Unit {0}) (λ u. results_head) line new (Err miss) → IsHeadRefusal (head_refusal_of miss) line
head_refused line new NoMemory none memory reads = absurd (memory refl)
head_refused line new Short none memory reads = (none, reads)
head_refused line new Wrong none memory reads = (refl, none, reads tt tt)

-- the whole text

-- why a text is refused whose first line is refused
pub refused_at_head : (error : ResultsError) (text line rest : List ℕ) → length text ≤ longest → IsFirstLine text line rest → IsHeadRefusal error line → IsResultsRefusal error text
refused_at_head OutOfMemory text line rest short first refused = tt
refused_at_head TooLong text line rest short first refused = absurd refused
refused_at_head Version text line rest short first refused = (short, version_of_text text line rest first refused)
refused_at_head (BadLine k) text line rest short first (one, none, wrong) =
    let bad = bad_line AreFormedResults AreFormedResults 0 [] text line rest (nothing_read AreFormedResults (results_head ++ end_line) (rest_formed end_line end_rest)) first (λ w formed. wrong (prefixes_agree results_head line (lines formed.0 ++ end_line) w (sym formed.1.is))) in (
      short,
      no_version_of_text text line rest first none,
      λ many. wrong (prefixes_agree results_head line (lines many.records ++ many.rest) rest (sym many.is ∙ first_line_whole text line rest first)),
      subst (λ (n : ℕ). IsBadLine AreFormedResults text n) (sym one) bad,
    )
refused_at_head NoEnd text line rest short first (none, cut) =
    let is : text ≡ line = unended_is text line rest first cut.unended in
    let whole : results_head ≡ text ++ cut.rest = cut.goes_on ∙ ap (λ (t : List ℕ). t ++ cut.rest) (sym is) in (
      short,
      no_version_of_text text line rest first none,
      λ many. cut.unended (subst (λ (t : List ℕ). Contains t 10) (sym many.is ∙ is) (Contains-append_left results_head (lines many.records ++ many.rest) 10 (subst (λ (t : List ℕ). Contains t 10) (sym head_is) (Contains-append_right head_front (10 ∷ []) 10 (0, omega arith, refl))))),
      (cut.rest ++ end_line, nonempty_rest cut.rest end_line cut.more, subst AreFormedResults (ap (λ (t : List ℕ). t ++ end_line) whole ∙ append_assoc text cut.rest end_line) (rest_formed end_line end_rest)),
    )

no_version_after_head : (text line rest : List ℕ) → IsFirstLine text line rest → line ≡ results_head → HasOtherResultsVersion text → ⊥
no_version_after_head text line rest first is = no_version_of_text text line rest first (λ other. head_no_other (subst HasOtherNumber is other))

-- why a text is refused whose first line is right
pub refused_after_head : (error : ResultsError) (text line rest : List ℕ) → length text ≤ longest → IsFirstLine text line rest → line ≡ results_head → IsLinesRefusal error (results_head ++ rest) → IsResultsRefusal error text
refused_after_head error text line rest short first is refused = by_error error (subst (IsLinesRefusal error) (sym whole) refused) where
  whole : text ≡ results_head ++ rest
  whole = first_line_whole text line rest first ∙ ap (λ (t : List ℕ). t ++ rest) is

  by_error : (error : ResultsError) → IsLinesRefusal error text → IsResultsRefusal error text
  by_error OutOfMemory refused = tt
  by_error TooLong refused = inr refused
  by_error Version refused = absurd refused
  by_error (BadLine k) refused = (short, no_version_after_head text line rest first is, refused.0, refused.1)
  by_error NoEnd refused = (short, no_version_after_head text line rest first is, refused.0, refused.1)

pub read_whole : (text line rest : List ℕ) (records : List SysResult) → length text ≤ longest → IsFirstLine text line rest → line ≡ results_head → AreResults (results_head ++ rest) records → length records ≤ most → AreResultsWithin text records
read_whole text line rest records short first is read few = record {
  results = subst (λ (t : List ℕ). AreResults t records) (sym (first_line_whole text line rest first ∙ ap (λ (t : List ℕ). t ++ rest) is)) read;
  few = few;
  short = short;
}

-- a formed text is refused for want of memory alone

pub same_records : (text : List ℕ) (records others : List SysResult) → AreResults text records → AreResults text others → records ≡ others
same_records text records others read written =
    let is : lines records ++ end_line ≡ lines others ++ end_line = append_cancel_left results_head (lines records ++ end_line) (lines others ++ end_line) (sym read.is ∙ written.is) in
    (records_same records others [] [] read.right written.right (ap (λ (t : List ℕ). lines records ++ t) (append-nil end_line) ∙ is ∙ ap (λ (t : List ℕ). lines others ++ t) (sym (append-nil end_line)))).0

no_version_in_results : (text : List ℕ) (records : List SysResult) → AreResults text records → HasOtherResultsVersion text → ⊥
no_version_in_results text records read has =
    no_version_after_head text results_head (lines records ++ end_line) (ended head_front head_lacks_feed head_is read.is) refl has

pub not_refused : (error : ResultsError) (text : List ℕ) (records : List SysResult) → AreResultsWithin text records → IsResultsRefusal error text → error ≡ OutOfMemory
not_refused OutOfMemory text records read refused = refl
not_refused TooLong text records read (inl long) = absurd (omega (arith, read.short))
not_refused TooLong text records read (inr many) =
    let found = record_after_limit records end_line read.results.right read.few (subst HasTooManyResults read.results.is many) in
    absurd (line_not_end found.0 found.1 [] (sym found.3 ∙ sym (append-nil end_line)))
not_refused Version text records read refused = absurd (no_version_in_results text records read.results refused.1)
not_refused (BadLine k) text records read refused =
    let front = through_begins k text in
    absurd (refused.3.bad (front.0, subst AreFormedResults front.1 (records, read.results)))
not_refused NoEnd text records read refused = absurd (longer refused.3) where
  longer : IsProperPrefix AreFormedResults text → ⊥
  longer (rest, some, (others, formed)) =
      let is : lines records ++ (end_line ++ rest) ≡ lines others ++ (end_line ++ []) =
      append_cancel_left results_head (lines records ++ (end_line ++ rest)) (lines others ++ (end_line ++ []))
      (ap (λ (t : List ℕ). results_head ++ t) (sym (append_assoc (lines records) end_line rest)) ∙ sym (append_assoc results_head (lines records ++ end_line) rest) ∙ ap (λ (t : List ℕ). t ++ rest) (sym read.results.is) ∙ formed.is ∙ ap (λ (t : List ℕ). results_head ++ (lines others ++ t)) (sym (append-nil end_line))) in
      some (records_same records others rest [] read.results.right formed.right is).1

pub number_tells : (line : List ℕ) (n : ℕ) → n < 2 ^ 32 → IsVersionLine (codes "dyckmon-results ") n line → (not (nat_eq n 1) ≡ true) ↔ HasOtherNumber line
number_tells line n small stands = (
  λ holds. (n, small, (λ one. both_ways (nat_eq n 1) (not-true (nat_eq n 1) holds) (eq-eqb n 1 one)), stands),
  λ other. true_from_ne_false (not (nat_eq n 1)) (λ same. other_number line n small stands other (eqb-true n 1 (not-false (nat_eq n 1) same))),
)

-- the line that was read, or was not

pub line_refused : (miss : Miss) (rs : List SysResult) (text rest line later : List ℕ) → All IsRightResult rs → length rs ≤ most → text ≡ lines rs ++ rest → IsFirstLine rest line later → Reads IsResultsLine results_line line [] (Err miss) → IsLinesRefusal (refusal_of miss (length rs)) (results_head ++ text)
line_refused miss rs text rest line later right few is first reads = subst (λ (t : List ℕ). IsLinesRefusal (refusal_of miss (length rs)) (results_head ++ t)) (sym is) (by_miss miss reads) where
  by_miss : (miss : Miss) → Reads IsResultsLine results_line line [] (Err miss) → IsLinesRefusal (refusal_of miss (length rs)) (results_head ++ (lines rs ++ rest))
  by_miss NoMemory reads = tt
  by_miss Short reads = cut_record_line rs rest line later right few first reads
  by_miss Wrong reads = wrong_record_line rs rest line later right few first reads

pub end_refused : (rs : List SysResult) (text rest later : List ℕ) (n : ℕ) → All IsRightResult rs → length rs ≤ most → text ≡ lines rs ++ rest → rest ≡ end_line ++ later → later ≢ [] → n ≡ length rs → (HasTooManyResults (results_head ++ text) → ⊥) × IsBadLine AreFormedResults (results_head ++ text) (n + 3)
end_refused rs text rest later n right few is first some count =
    subst (λ (m : ℕ). (HasTooManyResults (results_head ++ text) → ⊥) × IsBadLine AreFormedResults (results_head ++ text) (m + 3)) (sym count)
    (subst (λ (t : List ℕ). (HasTooManyResults (results_head ++ t) → ⊥) × IsBadLine AreFormedResults (results_head ++ t) (length rs + 3)) (sym is) (bytes_after_end rs rest later right few first some))

-- what was read of a text whose first line is right

pub found_read : {W : Type 0} (items : W → List SysResult) (found : Result W ResultsError) (text line rest : List ℕ) → length text ≤ longest → IsFirstLine text line rest → line ≡ results_head → MatchResult found (λ w. AreResults (results_head ++ rest) (items w) × (length (items w) ≤ most)) (λ error. IsLinesRefusal error (results_head ++ rest)) → IfOk found (λ w. AreResultsWithin text (items w))
found_read items (Ok w) text line rest short first is read = read_whole text line rest (items w) short first is read.0 read.1
found_read items (Err e) text line rest short first is refused = tt

pub found_refused : {W : Type 0} (items : W → List SysResult) (found : Result W ResultsError) (text line rest : List ℕ) → length text ≤ longest → IsFirstLine text line rest → line ≡ results_head → MatchResult found (λ w. AreResults (results_head ++ rest) (items w) × (length (items w) ≤ most)) (λ error. IsLinesRefusal error (results_head ++ rest)) → IfErr found (λ error. IsResultsRefusal error text)
found_refused items (Ok w) text line rest short first is read = tt
found_refused items (Err e) text line rest short first is refused = refused_after_head e text line rest short first is refused

pub found_complete : {W : Type 0} (found : Result W ResultsError) (text : List ℕ) (records : List SysResult) → AreResultsWithin text records → IfErr found (λ error. IsResultsRefusal error text) → IfErr found (λ error. error ≡ OutOfMemory)
found_complete (Ok w) text records within refused = tt
found_complete (Err e) text records within refused = not_refused e text records within refused

pub found_same : {W : Type 0} (items : W → List SysResult) (found : Result W ResultsError) (text : List ℕ) (records : List SysResult) → AreResultsWithin text records → IfOk found (λ w. AreResultsWithin text (items w)) → IfOk found (λ w. items w ≡ records)
found_same items (Ok w) text records within read = same_records text (items w) records read.results within.results
found_same items (Err e) text records within read = tt
