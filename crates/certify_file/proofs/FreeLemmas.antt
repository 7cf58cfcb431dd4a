-- No line of a certificate begins another, and no text of one begins that of another.
use Rattle.std.proofs.Common.{◌≡◌, ◌≢◌, ℕ, ◌<◌, true, List, [], ◌∷◌, ◌++◌, length, get_or, decimal, refl, sym, ◌∙◌, ap, subst, inl, inr, append_assoc, arith, All}
use Rattle.std.specs.Prelude.{codes, flat_map}
use Rattle.std.proofs.lemmas.Fmt.{decimal_injective}
use Rattle.std.proofs.lemmas.List.{append-nil, append_cancel_left}
use Rattle.std.proofs.lemmas.List.Elements.{All-head, All-tail}
use Rattle.dm_base.specs.declared.verdict.Verdict.TheVariants.{Accepted, Rejected, Bound}
use Rattle.line_text.specs.Words.{IsEnd, number_word}
use Rattle.line_text.proofs.NumberLemmas.{decimal-IsPlain}
use Rattle.line_text.proofs.WordLemmas.{word_stands}
use Rattle.certify_facts.specs.declared.fact.Fact.{Fact}
use Rattle.certify_facts.specs.declared.fact.Fact.TheVariants as facts
use Rattle.certify_facts.specs.declared.fact.FactLine.{FactLine}
use Rattle.certify_facts.specs.declared.fact.Judge.{Judge}
use Rattle.certify_facts.specs.declared.fact.Judge.TheVariants as judges
use Rattle.certify_facts.specs.declared.fact.Reason.TheVariants as reasons
use Rattle.certify_facts.specs.Form.{IsCounted, IsOfModel}
use Rattle.certify_facts.specs.Told.{Told}
use Rattle.certify_file.specs.declared.line.CertificateLine.TheVariants as lines
use Rattle.certify_file.specs.CertificateText.{IsSmall, IsRightLine, fact_text, reason_text, fact_line, which_line, verdict_line, certificate_head, certificate_text, IsCertificate}
use Rattle.certify_file.specs.Lines.{has_no_feed, AreSmall, pair_word, IsNodeReason, IsAt, IsLink, IsAtLine, IsLinkLine, certificate_line, IsCertificateLine, IsAnyJudge, which_word}
use Rattle.certify_file.proofs.Parts.{IsPrefixFree, split_free, case_free, one_free, free_same}
use Rattle.certify_file.proofs.LineLemmas.{pair_split, label_split, label_pair_split, start_case, silent_case, enter_case, event_case, return_case, callgraph_split, IsPlaceAndReason, place_and_reason, place_split, at_split, AreCallers, callers_text, callers_split, link_split, link_case, at_case, end_case, fact_case, which_split, callgraph_case, stack_case, accepted_case, rejected_case}
pub use Rattle.line_text.proofs.FirstLines.{end_line}

-- numbers

number_free : (end : ℕ) → IsEnd end → IsPrefixFree IsSmall (number_word end)
number_free end ends v w small_v small_w agree =
    decimal_injective w v (omega arith) (omega arith) ((word_stands end (decimal v ++ end ∷ []) [] (decimal v) ends (decimal-IsPlain v (omega arith)) refl).only (decimal w) (decimal-IsPlain w (omega arith)) agree)

pair_free : (end : ℕ) → IsEnd end → IsPrefixFree AreSmall (pair_word end)
pair_free end ends = split_free (pair_split end) (number_free 32 (inl refl)) (λ a small. number_free end ends)

label_free : (label : List ℕ) → has_no_feed label ≡ true → IsPrefixFree IsSmall (λ n. label ++ number_word 10 n)
label_free label plain = split_free (label_split label 10 plain) (one_free label) (λ u one. number_free 10 (inr refl))

label_pair_free : (label : List ℕ) (end : ℕ) → IsEnd end → has_no_feed label ≡ true → IsPrefixFree AreSmall (λ p. label ++ pair_word end p)
label_pair_free label end ends plain = split_free (label_pair_split label end plain) (one_free label) (λ u one. pair_free end ends)

-- reasons

pub reason_free : IsPrefixFree IsNodeReason reason_text
reason_free reasons.Start w fits fits_w agree = case_free {make = λ u. reasons.Start} tt tt (start_case (reason_text reasons.Start) (omega arith) refl refl) (one_free (codes "start\n")) w fits_w agree
reason_free (reasons.Silent n) w fits fits_w agree = case_free {make = reasons.Silent} n fits.1 (silent_case (reason_text (reasons.Silent n)) (omega arith) refl (λ is. omega (arith, is))) (label_free (codes "silent ") refl) w fits_w agree
reason_free (reasons.Enter r s) w fits fits_w agree = case_free {make = λ p. reasons.Enter p.0 p.1} (r, s) fits.1 (enter_case (reason_text (reasons.Enter r s)) (omega arith) refl refl) (label_pair_free (codes "enter ") 10 (inr refl) refl) w fits_w agree
reason_free (reasons.Return r l) w fits fits_w agree = case_free {make = λ p. reasons.Return p.0 p.1} (r, l) fits.1 (return_case (reason_text (reasons.Return r l)) (omega arith) (λ is. omega (arith, is)) (λ is. omega (arith, is))) (label_pair_free (codes "return ") 10 (inr refl) refl) w fits_w agree
reason_free (reasons.Event n) w fits fits_w agree = case_free {make = reasons.Event} n fits.1 (event_case (reason_text (reasons.Event n)) (omega arith) refl (λ is. omega (arith, is))) (label_free (codes "event ") refl) w fits_w agree
reason_free (reasons.Link n) w fits fits_w agree = absurd (fits.0 tt)

-- lines of facts

letter_pair_free : (label : List ℕ) → has_no_feed label ≡ true → IsPrefixFree AreSmall (λ p. label ++ pair_word 32 p)
letter_pair_free label plain = label_pair_free label 32 (inl refl) plain

callgraph_free : IsPrefixFree (IsRightLine judges.Callgraph) fact_line
callgraph_free = split_free callgraph_split (letter_pair_free (codes "a ") refl) (λ p small. reason_free)

place_free : IsPrefixFree IsPlaceAndReason place_and_reason
place_free = split_free place_split (pair_free 32 (inl refl)) (λ p small. reason_free)

at_free : IsPrefixFree IsAtLine fact_line
at_free = split_free at_split (letter_pair_free (codes "a ") refl) (λ p small. place_free)

callers_free : IsPrefixFree AreCallers callers_text
callers_free = split_free callers_split (pair_free 32 (inl refl)) (λ p small. pair_free 10 (inr refl))

link_free : IsPrefixFree IsLinkLine fact_line
link_free = split_free link_split (letter_pair_free (codes "l ") refl) (λ p small. callers_free)

some_bytes : (fact : Fact) (more : List ℕ) → 0 < length (fact_text fact ++ more)
some_bytes (facts.Callgraph k v) more = omega arith
some_bytes (facts.At k i f v) more = omega arith
some_bytes (facts.Link i f j h s) more = omega arith

no_e : (fact : Fact) (more : List ℕ) → get_or (fact_text fact ++ more) 0 0 ≢ 101
no_e (facts.Callgraph k v) more is = omega (arith, is)
no_e (facts.At k i f v) more is = omega (arith, is)
no_e (facts.Link i f j h s) more is = omega (arith, is)

stack_free : IsPrefixFree (IsRightLine judges.Stack) fact_line
stack_free v w fits fits_w agree = by_fact v.fact refl fits.formed.model where
  by_fact : (fact : Fact) → v.fact ≡ fact → IsOfModel judges.Stack v.fact → w ≡ v
  by_fact (facts.Callgraph k x) is model = absurd (subst (IsOfModel judges.Stack) is model)
  by_fact (facts.At k i f x) is model =
      let starts : get_or (fact_line v) 0 0 ≡ 97 = ap (λ (y : Fact). get_or (fact_text y ++ reason_text v.reason) 0 0) is in
      case_free {make = λ l. l} v (subst IsAt (sym is) tt, fits) (at_case (fact_line v) (some_bytes v.fact (reason_text v.reason)) (λ other. omega (arith, starts, other))) at_free w fits_w agree
  by_fact (facts.Link i f j h s) is model =
      let starts : get_or (fact_line v) 0 0 ≡ 108 = ap (λ (y : Fact). get_or (fact_text y ++ reason_text v.reason) 0 0) is in
      case_free {make = λ l. l} v (subst IsLink (sym is) tt, fits) (link_case (fact_line v) (some_bytes v.fact (reason_text v.reason)) starts) link_free w fits_w agree

pub fact_line_free : (judge : Judge) → IsPrefixFree (IsRightLine judge) fact_line
fact_line_free judges.Callgraph = callgraph_free
fact_line_free judges.Stack = stack_free

-- the other lines

pub which_free : IsPrefixFree IsAnyJudge which_line
which_free = split_free which_split (one_free (codes "which ")) (λ u one. word_free) where
  word_free : IsPrefixFree IsAnyJudge which_word
  word_free judges.Callgraph w fits fits_w agree = case_free {make = λ u. judges.Callgraph} tt tt (callgraph_case (which_word judges.Callgraph) (omega arith) refl) (one_free (codes "callgraph\n")) w fits_w agree
  word_free judges.Stack w fits fits_w agree = case_free {make = λ u. judges.Stack} tt tt (stack_case (which_word judges.Stack) (omega arith) (λ is. omega (arith, is))) (one_free (codes "stack\n")) w fits_w agree

pub verdict_free : IsPrefixFree IsCounted verdict_line
verdict_free (Accepted n) w fits fits_w agree = case_free {make = Accepted} n fits (accepted_case (verdict_line (Accepted n)) (omega arith) refl) (label_free (codes "accepted ") refl) w fits_w agree
verdict_free (Rejected n) w fits fits_w agree = case_free {make = Rejected} n fits (rejected_case (verdict_line (Rejected n)) (omega arith) (λ is. omega (arith, is))) (label_free (codes "rejected ") refl) w fits_w agree
verdict_free (Bound n) w fits fits_w agree = absurd fits

pub line_free : (judge : Judge) → IsPrefixFree (IsCertificateLine judge) certificate_line
line_free judge (lines.Fact l) w fits fits_w agree = case_free {make = lines.Fact} l fits (fact_case judge (fact_line l) (some_bytes l.fact (reason_text l.reason)) (no_e l.fact (reason_text l.reason))) (fact_line_free judge) w fits_w agree
line_free judge lines.End w fits fits_w agree = case_free {make = λ u. lines.End} tt tt (end_case judge (codes "end\n") (omega arith) refl) (one_free (codes "end\n")) w fits_w agree

-- whole texts

-- the lines of the facts
abbrev pub lines_of : List FactLine → List ℕ
lines_of ls = flat_map fact_line ls

pub line_not_end : (l : FactLine) (x y : List ℕ) → fact_line l ++ x ≡ end_line ++ y → ⊥
line_not_end l x y is = by_fact l.fact (reason_text l.reason) is where
  by_fact : (fact : Fact) (more : List ℕ) → (fact_text fact ++ more) ++ x ≡ end_line ++ y → ⊥
  by_fact (facts.Callgraph k v) more is = let first : ◌≡◌ {A = ℕ} 97 101 = ap (λ (w : List ℕ). get_or w 0 0) is in omega (arith, first)
  by_fact (facts.At k i f v) more is = let first : ◌≡◌ {A = ℕ} 97 101 = ap (λ (w : List ℕ). get_or w 0 0) is in omega (arith, first)
  by_fact (facts.Link i f j h s) more is = let first : ◌≡◌ {A = ℕ} 108 101 = ap (λ (w : List ℕ). get_or w 0 0) is in omega (arith, first)

pub lines_same : (judge : Judge) (ls ms : List FactLine) (u v : List ℕ) → All (IsRightLine judge) ls → All (IsRightLine judge) ms → lines_of ls ++ (end_line ++ u) ≡ lines_of ms ++ (end_line ++ v) → (ms ≡ ls) × (u ≡ v)
lines_same judge [] [] u v in_ls in_ms is = (refl, append_cancel_left end_line u v is)
lines_same judge [] (m ∷ ms) u v in_ls in_ms is = absurd (line_not_end m (lines_of ms ++ (end_line ++ v)) u (sym (append_assoc (fact_line m) (lines_of ms) (end_line ++ v)) ∙ sym is))
lines_same judge (l ∷ ls) [] u v in_ls in_ms is = absurd (line_not_end l (lines_of ls ++ (end_line ++ u)) v (sym (append_assoc (fact_line l) (lines_of ls) (end_line ++ u)) ∙ is))
lines_same judge (l ∷ ls) (m ∷ ms) u v in_ls in_ms is =
    let first = free_same (IsRightLine judge) fact_line (fact_line_free judge) l m (All-head (IsRightLine judge) l ls in_ls) (All-head (IsRightLine judge) m ms in_ms) (lines_of ls ++ (end_line ++ u)) (lines_of ms ++ (end_line ++ v)) (sym (append_assoc (fact_line l) (lines_of ls) (end_line ++ u)) ∙ is ∙ append_assoc (fact_line m) (lines_of ms) (end_line ++ v)) in
    let more = lines_same judge ls ms u v (All-tail (IsRightLine judge) l ls in_ls) (All-tail (IsRightLine judge) m ms in_ms) first.1 in
    (ap (λ (x : FactLine). x ∷ ms) first.0 ∙ ap (λ (xs : List FactLine). l ∷ xs) more.0, more.1)

-- a text, and what follows it
text_and : (c : Told) (u : List ℕ) → certificate_text c ++ u ≡ certificate_head ++ (which_line c.judge ++ (verdict_line c.verdict ++ (lines_of c.lines ++ (end_line ++ u))))
text_and c u =
    append_assoc certificate_head (which_line c.judge ++ (verdict_line c.verdict ++ (lines_of c.lines ++ end_line))) u
    ∙ ap (λ (t : List ℕ). certificate_head ++ t) (append_assoc (which_line c.judge) (verdict_line c.verdict ++ (lines_of c.lines ++ end_line)) u
    ∙ ap (λ (t : List ℕ). which_line c.judge ++ t) (append_assoc (verdict_line c.verdict) (lines_of c.lines ++ end_line) u
    ∙ ap (λ (t : List ℕ). verdict_line c.verdict ++ t) (append_assoc (lines_of c.lines) end_line u)))

same_told : (c d : Told) → d.judge ≡ c.judge → d.verdict ≡ c.verdict → d.lines ≡ c.lines → d ≡ c
same_told c d judges verdicts lines = λ i. record { judge = judges i; verdict = verdicts i; lines = lines i }

-- two certificates whose texts begin one text are the same
pub texts_same : (c d : Told) (u v : List ℕ) → IsCounted c.verdict → IsCounted d.verdict → All (IsRightLine c.judge) c.lines → All (IsRightLine d.judge) d.lines → certificate_text c ++ u ≡ certificate_text d ++ v → (d ≡ c) × (u ≡ v)
texts_same c d u v counted_c counted_d right_c right_d is =
    let after = λ (e : Told) (w : List ℕ). verdict_line e.verdict ++ (lines_of e.lines ++ (end_line ++ w)) in
    let is_1 : which_line c.judge ++ after c u ≡ which_line d.judge ++ after d v = append_cancel_left certificate_head (which_line c.judge ++ after c u) (which_line d.judge ++ after d v) (sym (text_and c u) ∙ is ∙ text_and d v) in
    let one = free_same IsAnyJudge which_line which_free c.judge d.judge tt tt (after c u) (after d v) is_1 in
    let two = free_same IsCounted verdict_line verdict_free c.verdict d.verdict counted_c counted_d (lines_of c.lines ++ (end_line ++ u)) (lines_of d.lines ++ (end_line ++ v)) one.1 in
    let three = lines_same c.judge c.lines d.lines u v right_c (subst (λ (j : Judge). All (IsRightLine j) d.lines) one.0 right_d) two.1 in
    (same_told c d one.0 two.0 three.0, three.1)

pub same_certificate : (text : List ℕ) (c d : Told) → IsCertificate text c → IsCertificate text d → d ≡ c
same_certificate text c d read written =
    (texts_same c d [] [] read.counted written.counted read.right written.right (append-nil (certificate_text c) ∙ sym read.is ∙ written.is ∙ sym (append-nil (certificate_text d)))).0
