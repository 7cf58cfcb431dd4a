-- The lines of a certificate, by their parts and their first bytes.
use Rattle.std.proofs.Common.{◌≡◌, ◌≢◌, ℕ, zero, suc, ◌<◌, true, List, [], ◌∷◌, ◌++◌, length, get_or, decimal, refl, sym, ◌∙◌, ap, subst, inl, inr, append_assoc, Contains, arith}
use Rattle.std.specs.Prelude.{codes}
use Rattle.std.proofs.lemmas.List.Elements.{Contains-append_cases}
use Rattle.dm_base.specs.declared.verdict.Verdict.{Verdict}
use Rattle.dm_base.specs.declared.verdict.Verdict.TheVariants.{Accepted, Rejected, Bound}
use Rattle.line_text.specs.Reading.{Agree, IsCutShort}
use Rattle.line_text.specs.Words.{number_word}
use Rattle.line_text.proofs.NumberLemmas.{decimal-IsPlain}
use Rattle.line_text.proofs.Splits.{IsSplit, IsCase}
use Rattle.line_text.proofs.WordLemmas.{IsPlain-no_feed}
use Rattle.certify_facts.specs.declared.fact.Fact.{Fact}
use Rattle.certify_facts.specs.declared.fact.Fact.TheVariants as facts
use Rattle.certify_facts.specs.declared.fact.FactLine.{FactLine}
use Rattle.certify_facts.specs.declared.fact.Judge.{Judge}
use Rattle.certify_facts.specs.declared.fact.Judge.TheVariants as judges
use Rattle.certify_facts.specs.declared.fact.Reason.{Reason}
use Rattle.certify_facts.specs.declared.fact.Reason.TheVariants as reasons
use Rattle.certify_facts.specs.Form.{IsCounted, IsOfModel, IsOfLinks, GoesWith}
use Rattle.certify_file.specs.declared.line.CertificateLine.{CertificateLine}
use Rattle.certify_file.specs.declared.line.CertificateLine.TheVariants as lines
use Rattle.certify_file.specs.CertificateText.{IsSmall, IsSmallFact, IsSmallReason, IsRightLine, fact_text, reason_text, fact_line, which_line, verdict_line}
use Rattle.certify_file.specs.Lines.{has_no_feed, AreSmall, pair_word, IsNodeReason, IsAt, IsLink, IsAtLine, IsLinkLine, certificate_line, IsCertificateLine, IsAnyJudge, which_word}
use Rattle.certify_file.proofs.Parts.{IsEnded, no_feed_within, no_feed_append, ended_after, word_split, first_agrees, second_agrees, cut_at_start}

-- numbers

pub number_plain : (n : ℕ) → IsSmall n → Contains (number_word 32 n) 10 → ⊥
number_plain n small has =
    elim (Contains-append_cases (decimal n) (32 ∷ []) 10 has) [
      | inl front ↦ IsPlain-no_feed (decimal n) (decimal-IsPlain n (omega arith)) front
      | inr back ↦ other back
    ]
  where
    other : Contains {X = ℕ} (32 ∷ []) 10 → ⊥
    other (zero, within, is) = absurd (omega (arith, is))
    other (suc k, within, is) = omega (arith, within)

both_is : (p : ℕ × ℕ) → p ≡ (p.0, p.1)
both_is (a, b) = refl

pub pair_split : (end : ℕ) → IsSplit AreSmall (pair_word end) IsSmall (number_word 32) (λ a. IsSmall) (λ a. number_word end) (λ a b. (a, b))
pair_split end = record {
  apart = λ p fits. (p.0, p.1, fits.0, fits.1, both_is p);
  joined = λ a b small_a small_b. ((small_a, small_b), refl);
  goes_on = λ a small. (0, omega arith);
  plain = λ a small. number_plain a small;
}

pub label_split : (label : List ℕ) (end : ℕ) → has_no_feed label ≡ true → IsSplit IsSmall (λ n. label ++ number_word end n) (λ (u : Unit {0}). Unit {0}) (λ u. label) (λ u. IsSmall) (λ u. number_word end) (λ u n. n)
label_split label end plain = word_split IsSmall (λ n. label ++ number_word end n) (number_word end) label plain (λ n fits. refl) 0 (omega arith)

pub label_pair_split : (label : List ℕ) (end : ℕ) → has_no_feed label ≡ true → IsSplit AreSmall (λ p. label ++ pair_word end p) (λ (u : Unit {0}). Unit {0}) (λ u. label) (λ u. AreSmall) (λ u. pair_word end) (λ u p. p)
label_pair_split label end plain = word_split AreSmall (λ p. label ++ pair_word end p) (pair_word end) label plain (λ p fits. refl) (0, 0) (omega arith, omega arith)

-- two numbers, a space after each, have no line feed
pair_plain : (p : ℕ × ℕ) → AreSmall p → Contains (pair_word 32 p) 10 → ⊥
pair_plain p small has =
    elim (Contains-append_cases (number_word 32 p.0) (number_word 32 p.1) 10 has) [
      | inl front ↦ number_plain p.0 small.0 front
      | inr back ↦ number_plain p.1 small.1 back
    ]

letter_plain : (b : ℕ) (p : ℕ × ℕ) → b ≢ 10 → AreSmall p → Contains (b ∷ 32 ∷ pair_word 32 p) 10 → ⊥
letter_plain b p other small (zero, within, is) = other is
letter_plain b p other small (suc zero, within, is) = absurd (omega (arith, is))
letter_plain b p other small (suc (suc k), within, is) = pair_plain p small (k, omega (arith, within), is)

-- reasons

abbrev first_byte : Reason → ℕ
first_byte reasons.Start = 115
first_byte (reasons.Silent r) = 115
first_byte (reasons.Enter r s) = 101
first_byte (reasons.Return r l) = 114
first_byte (reasons.Event r) = 101
first_byte (reasons.Link r) = 0

abbrev second_byte : Reason → ℕ
second_byte reasons.Start = 116
second_byte (reasons.Silent r) = 105
second_byte (reasons.Enter r s) = 110
second_byte (reasons.Return r l) = 101
second_byte (reasons.Event r) = 118
second_byte (reasons.Link r) = 0

first_of : (r : Reason) (old : List ℕ) → IsNodeReason r → Agree (reason_text r) old → 0 < length old → get_or old 0 0 ≡ first_byte r
first_of reasons.Start old fits agree some = first_agrees 115 _ old agree some
first_of (reasons.Silent r) old fits agree some = first_agrees 115 _ old agree some
first_of (reasons.Enter r s) old fits agree some = first_agrees 101 _ old agree some
first_of (reasons.Return r l) old fits agree some = first_agrees 114 _ old agree some
first_of (reasons.Event r) old fits agree some = first_agrees 101 _ old agree some
first_of (reasons.Link r) old fits agree some = absurd (fits.0 tt)

second_of : (r : Reason) (old : List ℕ) → IsNodeReason r → Agree (reason_text r) old → 1 < length old → get_or old 1 0 ≡ second_byte r
second_of reasons.Start old fits agree some = second_agrees 115 116 _ old agree some
second_of (reasons.Silent r) old fits agree some = second_agrees 115 105 _ old agree some
second_of (reasons.Enter r s) old fits agree some = second_agrees 101 110 _ old agree some
second_of (reasons.Return r l) old fits agree some = second_agrees 114 101 _ old agree some
second_of (reasons.Event r) old fits agree some = second_agrees 101 118 _ old agree some
second_of (reasons.Link r) old fits agree some = absurd (fits.0 tt)

module _ (old : List ℕ) (some : 1 < length old) where
  begins : (r : Reason) → IsNodeReason r → Agree (reason_text r) old → first_byte r ≡ get_or old 0 0
  begins r fits agree = sym (first_of r old fits agree (omega (arith, some)))

  goes_on : (r : Reason) → IsNodeReason r → Agree (reason_text r) old → second_byte r ≡ get_or old 1 0
  goes_on r fits agree = sym (second_of r old fits agree some)

  pub start_case : get_or old 0 0 ≡ 115 → get_or old 1 0 ≡ 116 → IsCase IsNodeReason reason_text (λ (u : Unit {0}). Unit {0}) (λ u. codes "start\n") (λ u. reasons.Start) old
  start_case first second = record { made = λ u one. ((λ none. none, tt), refl); only = λ r fits agree. only r (begins r fits agree ∙ first) (goes_on r fits agree ∙ second) } where
    only : (r : Reason) → first_byte r ≡ 115 → second_byte r ≡ 116 → Unit {0} × Unit {0} × (r ≡ reasons.Start)
    only reasons.Start is then = (tt, tt, refl)
    only (reasons.Silent r) is then = absurd (omega (arith, then))
    only (reasons.Enter r s) is then = absurd (omega (arith, is))
    only (reasons.Return r l) is then = absurd (omega (arith, is))
    only (reasons.Event r) is then = absurd (omega (arith, is))
    only (reasons.Link r) is then = absurd (omega (arith, is))

  pub silent_case : get_or old 0 0 ≡ 115 → get_or old 1 0 ≢ 116 → IsCase IsNodeReason reason_text IsSmall (λ n. codes "silent " ++ number_word 10 n) reasons.Silent old
  silent_case first second = record { made = λ n fits. ((λ none. none, fits), refl); only = λ r fits agree. only r fits (begins r fits agree ∙ first) (λ then. second (sym (goes_on r fits agree) ∙ then)) } where
    only : (r : Reason) → IsNodeReason r → first_byte r ≡ 115 → second_byte r ≢ 116 → (n : ℕ) × IsSmall n × (r ≡ reasons.Silent n)
    only reasons.Start fits is then = absurd (then refl)
    only (reasons.Silent r) fits is then = (r, fits.1, refl)
    only (reasons.Enter r s) fits is then = absurd (omega (arith, is))
    only (reasons.Return r l) fits is then = absurd (omega (arith, is))
    only (reasons.Event r) fits is then = absurd (omega (arith, is))
    only (reasons.Link r) fits is then = absurd (omega (arith, is))

  pub enter_case : get_or old 0 0 ≡ 101 → get_or old 1 0 ≡ 110 → IsCase IsNodeReason reason_text AreSmall (λ p. codes "enter " ++ pair_word 10 p) (λ p. reasons.Enter p.0 p.1) old
  enter_case first second = record { made = λ p fits. ((λ none. none, fits), refl); only = λ r fits agree. only r fits (begins r fits agree ∙ first) (goes_on r fits agree ∙ second) } where
    only : (r : Reason) → IsNodeReason r → first_byte r ≡ 101 → second_byte r ≡ 110 → (p : ℕ × ℕ) × AreSmall p × (r ≡ reasons.Enter p.0 p.1)
    only reasons.Start fits is then = absurd (omega (arith, is))
    only (reasons.Silent r) fits is then = absurd (omega (arith, is))
    only (reasons.Enter r s) fits is then = ((r, s), fits.1, refl)
    only (reasons.Return r l) fits is then = absurd (omega (arith, is))
    only (reasons.Event r) fits is then = absurd (omega (arith, then))
    only (reasons.Link r) fits is then = absurd (omega (arith, is))

  pub event_case : get_or old 0 0 ≡ 101 → get_or old 1 0 ≢ 110 → IsCase IsNodeReason reason_text IsSmall (λ n. codes "event " ++ number_word 10 n) reasons.Event old
  event_case first second = record { made = λ n fits. ((λ none. none, fits), refl); only = λ r fits agree. only r fits (begins r fits agree ∙ first) (λ then. second (sym (goes_on r fits agree) ∙ then)) } where
    only : (r : Reason) → IsNodeReason r → first_byte r ≡ 101 → second_byte r ≢ 110 → (n : ℕ) × IsSmall n × (r ≡ reasons.Event n)
    only reasons.Start fits is then = absurd (omega (arith, is))
    only (reasons.Silent r) fits is then = absurd (omega (arith, is))
    only (reasons.Enter r s) fits is then = absurd (then refl)
    only (reasons.Return r l) fits is then = absurd (omega (arith, is))
    only (reasons.Event r) fits is then = (r, fits.1, refl)
    only (reasons.Link r) fits is then = absurd (omega (arith, is))

pub return_case : (old : List ℕ) → 0 < length old → get_or old 0 0 ≢ 115 → get_or old 0 0 ≢ 101 → IsCase IsNodeReason reason_text AreSmall (λ p. codes "return " ++ pair_word 10 p) (λ p. reasons.Return p.0 p.1) old
return_case old some other another = record { made = λ p fits. ((λ none. none, fits), refl); only = λ r fits agree. only r fits (λ is. other (first_of r old fits agree some ∙ is)) (λ is. another (first_of r old fits agree some ∙ is)) } where
  only : (r : Reason) → IsNodeReason r → first_byte r ≢ 115 → first_byte r ≢ 101 → (p : ℕ × ℕ) × AreSmall p × (r ≡ reasons.Return p.0 p.1)
  only reasons.Start fits not_s not_e = absurd (not_s refl)
  only (reasons.Silent r) fits not_s not_e = absurd (not_s refl)
  only (reasons.Enter r s) fits not_s not_e = absurd (not_e refl)
  only (reasons.Return r l) fits not_s not_e = ((r, l), fits.1, refl)
  only (reasons.Event r) fits not_s not_e = absurd (not_e refl)
  only (reasons.Link r) fits not_s not_e = absurd (fits.0 tt)

pub no_reason_left : (old : List ℕ) → length old ≡ 0 → IsCutShort IsNodeReason reason_text old
no_reason_left old none = cut_at_start IsNodeReason reason_text old none reasons.Start (λ no. no, tt) (λ is. cc)

one_letter : (b : ℕ) → b ≢ 10 → Contains {X = ℕ} (b ∷ []) 10 → ⊥
one_letter b other (zero, within, is) = other is
one_letter b other (suc k, within, is) = omega (arith, within)

one_is : (old : List ℕ) → length old ≡ 1 → old ≡ get_or old 0 0 ∷ []
one_is [] one = absurd (omega (arith, one))
one_is (b ∷ []) one = refl
one_is (b ∷ c ∷ old) one = absurd (omega (arith, one))

pub length_of_one : (old : List ℕ) (b : ℕ) → get_or old 0 0 ≡ b → 0 < b → length old < 2 → length old ≡ 1
length_of_one [] b first some less = absurd (omega (arith, first))
length_of_one (c ∷ []) b first some less = refl
length_of_one (c ∷ d ∷ old) b first some less = absurd (omega (arith, less))

pub cut_after_s : (old : List ℕ) → length old ≡ 1 → get_or old 0 0 ≡ 115 → IsCutShort IsNodeReason reason_text old
cut_after_s old one first = subst (IsCutShort IsNodeReason reason_text) (sym (one_is old one ∙ ap (λ (b : ℕ). b ∷ []) first)) (record {
  value = reasons.Start;
  rest = codes "tart\n";
  fits = (λ no. no, tt);
  more = λ is. cc;
  goes_on = refl;
  unended = one_letter 115 (λ is. omega (arith, is));
})

pub cut_after_e : (old : List ℕ) → length old ≡ 1 → get_or old 0 0 ≡ 101 → IsCutShort IsNodeReason reason_text old
cut_after_e old one first = subst (IsCutShort IsNodeReason reason_text) (sym (one_is old one ∙ ap (λ (b : ℕ). b ∷ []) first)) (record {
  value = reasons.Event 0;
  rest = codes "vent " ++ number_word 10 0;
  fits = (λ no. no, omega arith);
  more = λ is. cc;
  goes_on = refl;
  unended = one_letter 101 (λ is. omega (arith, is));
})

-- a reason that goes with every fact but links
some_reason : (r : Reason) × IsNodeReason r
some_reason = (reasons.Start, ((λ no. no), tt))

-- lines of facts

line_is : (l : FactLine) (fact : Fact) → l.fact ≡ fact → l ≡ record { fact = fact; reason = l.reason }
line_is l fact is = λ i. record { fact = is i; reason = l.reason }

-- the fact of a line of the callgraph model
pub callgraph_split : IsSplit (IsRightLine judges.Callgraph) fact_line AreSmall (λ p. codes "a " ++ pair_word 32 p) (λ p. IsNodeReason) (λ p. reason_text) (λ p r. record { fact = facts.Callgraph p.0 p.1; reason = r })
callgraph_split = record {
  apart = λ l fits. apart l l.fact refl fits.formed.model fits.formed.reason fits.fact fits.reason;
  joined = λ p r small fits. (record { formed = record { model = tt; reason = fits.0 }; fact = small; reason = fits.1 }, refl);
  goes_on = λ p small. some_reason;
  plain = λ p small. letter_plain 97 p (λ is. omega (arith, is)) small;
} where
  apart : (l : FactLine) (fact : Fact) → l.fact ≡ fact → IsOfModel judges.Callgraph l.fact → GoesWith l.fact l.reason → IsSmallFact l.fact → IsSmallReason l.reason → (p : ℕ × ℕ) × (r : Reason) × AreSmall p × IsNodeReason r × (l ≡ record { fact = facts.Callgraph p.0 p.1; reason = r })
  apart l (facts.Callgraph k v) is model goes small small_reason =
      ((k, v), l.reason, subst IsSmallFact is small, (subst (λ (f : Fact). GoesWith f l.reason) is goes, small_reason), line_is l (facts.Callgraph k v) is)
  apart l (facts.At k i f v) is model goes small small_reason = absurd (subst (IsOfModel judges.Callgraph) is model)
  apart l (facts.Link i f j h s) is model goes small small_reason = absurd (subst (IsOfModel judges.Callgraph) is model)

-- two numbers and a reason
abbrev pub IsPlaceAndReason : (ℕ × ℕ) × Reason → Type 0
IsPlaceAndReason b = AreSmall b.0 × IsNodeReason b.1

abbrev pub place_and_reason : (ℕ × ℕ) × Reason → List ℕ
place_and_reason b = pair_word 32 b.0 ++ reason_text b.1

pair_is : {A B : Type 0} (p : A × B) → p ≡ (p.0, p.1)
pair_is (a, b) = refl

pub place_split : IsSplit IsPlaceAndReason place_and_reason AreSmall (pair_word 32) (λ p. IsNodeReason) (λ p. reason_text) (λ p r. (p, r))
place_split = record {
  apart = λ b fits. (b.0, b.1, fits.0, fits.1, pair_is b);
  joined = λ p r small fits. ((small, fits), refl);
  goes_on = λ p small. some_reason;
  plain = λ p small. pair_plain p small;
}

pub at_split : IsSplit IsAtLine fact_line AreSmall (λ p. codes "a " ++ pair_word 32 p) (λ p. IsPlaceAndReason) (λ p. place_and_reason) (λ p b. record { fact = facts.At p.0 p.1 b.0.0 b.0.1; reason = b.1 })
at_split = record {
  apart = λ l fits. apart l l.fact refl fits.0 fits.1.formed.reason fits.1.fact fits.1.reason;
  joined = λ p b small fits. (
    (tt, record { formed = record { model = tt; reason = fits.1.0 }; fact = (small.0, small.1, fits.0.0, fits.0.1); reason = fits.1.1 }),
    ap (λ (t : List ℕ). 97 ∷ 32 ∷ t) (append_assoc (pair_word 32 p) (pair_word 32 b.0) (reason_text b.1)),
  );
  goes_on = λ p small. (((0, 0), reasons.Start), ((omega arith, omega arith), ((λ no. no), tt)));
  plain = λ p small. letter_plain 97 p (λ is. omega (arith, is)) small;
} where
  apart : (l : FactLine) (fact : Fact) → l.fact ≡ fact → IsAt l.fact → GoesWith l.fact l.reason → IsSmallFact l.fact → IsSmallReason l.reason → (p : ℕ × ℕ) × (b : (ℕ × ℕ) × Reason) × AreSmall p × IsPlaceAndReason b × (l ≡ record { fact = facts.At p.0 p.1 b.0.0 b.0.1; reason = b.1 })
  apart l (facts.Callgraph k v) is at goes small small_reason = absurd (subst IsAt is at)
  apart l (facts.At k i f v) is at goes small small_reason =
      let each = subst IsSmallFact is small in
      ((k, i), ((f, v), l.reason), (each.0, each.1), ((each.2, each.3), (subst (λ (x : Fact). GoesWith x l.reason) is goes, small_reason)), line_is l (facts.At k i f v) is)
  apart l (facts.Link i f j h s) is at goes small small_reason = absurd (subst IsAt is at)

-- the caller's activation, and the site with the number of the fact
abbrev pub AreCallers : (ℕ × ℕ) × (ℕ × ℕ) → Type 0
AreCallers b = AreSmall b.0 × AreSmall b.1

abbrev pub callers_text : (ℕ × ℕ) × (ℕ × ℕ) → List ℕ
callers_text b = pair_word 32 b.0 ++ pair_word 10 b.1

pub callers_split : IsSplit AreCallers callers_text AreSmall (pair_word 32) (λ p. AreSmall) (λ p. pair_word 10) (λ p q. (p, q))
callers_split = record {
  apart = λ b fits. (b.0, b.1, fits.0, fits.1, pair_is b);
  joined = λ p q small fits. ((small, fits), refl);
  goes_on = λ p small. ((0, 0), (omega arith, omega arith));
  plain = λ p small. pair_plain p small;
}

pub link_split : IsSplit IsLinkLine fact_line AreSmall (λ p. codes "l " ++ pair_word 32 p) (λ p. AreCallers) (λ p. callers_text) (λ p b. record { fact = facts.Link p.0 p.1 b.0.0 b.0.1 b.1.0; reason = reasons.Link b.1.1 })
link_split = record {
  apart = λ l fits. apart l l.fact l.reason refl refl fits.0 fits.1.formed.reason fits.1.fact fits.1.reason;
  joined = λ p b small fits. (
    (tt, record { formed = record { model = tt; reason = tt }; fact = (small.0, small.1, fits.0.0, fits.0.1, fits.1.0); reason = fits.1.1 }),
    ap (λ (t : List ℕ). 108 ∷ 32 ∷ t) (append_assoc (pair_word 32 p) (pair_word 32 b.0 ++ number_word 32 b.1.0) (number_word 10 b.1.1) ∙ ap (λ (t : List ℕ). pair_word 32 p ++ t) (append_assoc (pair_word 32 b.0) (number_word 32 b.1.0) (number_word 10 b.1.1))),
  );
  goes_on = λ p small. (((0, 0), (0, 0)), ((omega arith, omega arith), (omega arith, omega arith)));
  plain = λ p small. letter_plain 108 p (λ is. omega (arith, is)) small;
} where
  both_are : (l : FactLine) (fact : Fact) (reason : Reason) → l.fact ≡ fact → l.reason ≡ reason → l ≡ record { fact = fact; reason = reason }
  both_are l fact reason is why = λ i. record { fact = is i; reason = why i }

  apart : (l : FactLine) (fact : Fact) (reason : Reason) → l.fact ≡ fact → l.reason ≡ reason → IsLink l.fact → GoesWith l.fact l.reason → IsSmallFact l.fact → IsSmallReason l.reason → (p : ℕ × ℕ) × (b : (ℕ × ℕ) × (ℕ × ℕ)) × AreSmall p × AreCallers b × (l ≡ record { fact = facts.Link p.0 p.1 b.0.0 b.0.1 b.1.0; reason = reasons.Link b.1.1 })
  apart l (facts.Callgraph k v) reason is why link goes small small_reason = absurd (subst IsLink is link)
  apart l (facts.At k i f v) reason is why link goes small small_reason = absurd (subst IsLink is link)
  apart l (facts.Link i f j h s) (reasons.Link r) is why link goes small small_reason =
      let each = subst IsSmallFact is small in
      ((i, f), ((j, h), (s, r)), (each.0, each.1), ((each.2, each.3), (each.4, subst IsSmallReason why small_reason)), both_are l (facts.Link i f j h s) (reasons.Link r) is why)
  apart l (facts.Link i f j h s) reasons.Start is why link goes small small_reason = absurd (subst IsOfLinks why (subst (λ (x : Fact). GoesWith x l.reason) is goes))
  apart l (facts.Link i f j h s) (reasons.Silent r) is why link goes small small_reason = absurd (subst IsOfLinks why (subst (λ (x : Fact). GoesWith x l.reason) is goes))
  apart l (facts.Link i f j h s) (reasons.Enter r t) is why link goes small small_reason = absurd (subst IsOfLinks why (subst (λ (x : Fact). GoesWith x l.reason) is goes))
  apart l (facts.Link i f j h s) (reasons.Return r t) is why link goes small small_reason = absurd (subst IsOfLinks why (subst (λ (x : Fact). GoesWith x l.reason) is goes))
  apart l (facts.Link i f j h s) (reasons.Event r) is why link goes small small_reason = absurd (subst IsOfLinks why (subst (λ (x : Fact). GoesWith x l.reason) is goes))

-- which of both

abbrev letter : Fact → ℕ
letter (facts.Callgraph k v) = 97
letter (facts.At k i f v) = 97
letter (facts.Link i f j h s) = 108

letter_agrees : (fact : Fact) (more old : List ℕ) → Agree (fact_text fact ++ more) old → 0 < length old → get_or old 0 0 ≡ letter fact
letter_agrees (facts.Callgraph k v) more old agree some = first_agrees 97 _ old agree some
letter_agrees (facts.At k i f v) more old agree some = first_agrees 97 _ old agree some
letter_agrees (facts.Link i f j h s) more old agree some = first_agrees 108 _ old agree some

pub link_case : (old : List ℕ) → 0 < length old → get_or old 0 0 ≡ 108 → IsCase (IsRightLine judges.Stack) fact_line IsLinkLine fact_line (λ l. l) old
link_case old some first = record { made = λ l fits. (fits.1, refl); only = λ l fits agree. (l, (only l.fact (sym (letter_agrees l.fact (reason_text l.reason) old agree some) ∙ first), fits), refl) } where
  only : (fact : Fact) → letter fact ≡ 108 → IsLink fact
  only (facts.Callgraph k v) is = absurd (omega (arith, is))
  only (facts.At k i f v) is = absurd (omega (arith, is))
  only (facts.Link i f j h s) is = tt

pub at_case : (old : List ℕ) → 0 < length old → get_or old 0 0 ≢ 108 → IsCase (IsRightLine judges.Stack) fact_line IsAtLine fact_line (λ l. l) old
at_case old some other = record { made = λ l fits. (fits.1, refl); only = λ l fits agree. (l, (only l.fact fits.formed.model (λ is. other (letter_agrees l.fact (reason_text l.reason) old agree some ∙ is)), fits), refl) } where
  only : (fact : Fact) → IsOfModel judges.Stack fact → letter fact ≢ 108 → IsAt fact
  only (facts.Callgraph k v) model is = absurd model
  only (facts.At k i f v) model is = tt
  only (facts.Link i f j h s) model is = absurd (is refl)

at_start : IsRightLine judges.Stack (record { fact = facts.At 0 0 0 0; reason = reasons.Start })
at_start = record { formed = record { model = tt; reason = λ no. no }; fact = (omega arith, omega arith, omega arith, omega arith); reason = tt }

pub no_stack_line_left : (old : List ℕ) → length old ≡ 0 → IsCutShort (IsRightLine judges.Stack) fact_line old
no_stack_line_left old none = cut_at_start (IsRightLine judges.Stack) fact_line old none (record { fact = facts.At 0 0 0 0; reason = reasons.Start }) at_start (λ is. cc)

-- lines after the first three

fact_letter : (fact : Fact) → letter fact ≢ 101
fact_letter (facts.Callgraph k v) is = omega (arith, is)
fact_letter (facts.At k i f v) is = omega (arith, is)
fact_letter (facts.Link i f j h s) is = omega (arith, is)

pub end_case : (judge : Judge) (old : List ℕ) → 0 < length old → get_or old 0 0 ≡ 101 → IsCase (IsCertificateLine judge) certificate_line (λ (u : Unit {0}). Unit {0}) (λ u. codes "end\n") (λ u. lines.End) old
end_case judge old some first = record { made = λ u one. (tt, refl); only = only } where
  only : (line : CertificateLine) → IsCertificateLine judge line → Agree (certificate_line line) old → Unit {0} × Unit {0} × (line ≡ lines.End)
  only (lines.Fact l) fits agree = absurd (fact_letter l.fact (sym (letter_agrees l.fact (reason_text l.reason) old agree some) ∙ first))
  only lines.End fits agree = (tt, tt, refl)

pub fact_case : (judge : Judge) (old : List ℕ) → 0 < length old → get_or old 0 0 ≢ 101 → IsCase (IsCertificateLine judge) certificate_line (IsRightLine judge) fact_line lines.Fact old
fact_case judge old some other = record { made = λ l fits. (fits, refl); only = only } where
  only : (line : CertificateLine) → IsCertificateLine judge line → Agree (certificate_line line) old → (l : FactLine) × IsRightLine judge l × (line ≡ lines.Fact l)
  only (lines.Fact l) fits agree = (l, fits, refl)
  only lines.End fits agree = absurd (other (first_agrees 101 _ old agree some))

pub no_line_left : (judge : Judge) (old : List ℕ) → length old ≡ 0 → IsCutShort (IsCertificateLine judge) certificate_line old
no_line_left judge old none = cut_at_start (IsCertificateLine judge) certificate_line old none lines.End tt (λ is. cc)

-- the second line

pub which_split : IsSplit IsAnyJudge which_line (λ (u : Unit {0}). Unit {0}) (λ u. codes "which ") (λ u. IsAnyJudge) (λ u. which_word) (λ u judge. judge)
which_split = word_split IsAnyJudge which_line which_word (codes "which ") refl text judges.Stack tt where
  text : (judge : Judge) → IsAnyJudge judge → which_line judge ≡ codes "which " ++ which_word judge
  text judges.Callgraph fits = refl
  text judges.Stack fits = refl

pub callgraph_case : (old : List ℕ) → 0 < length old → get_or old 0 0 ≡ 99 → IsCase IsAnyJudge which_word (λ (u : Unit {0}). Unit {0}) (λ u. codes "callgraph\n") (λ u. judges.Callgraph) old
callgraph_case old some first = record { made = λ u one. (tt, refl); only = only } where
  only : (judge : Judge) → IsAnyJudge judge → Agree (which_word judge) old → Unit {0} × Unit {0} × (judge ≡ judges.Callgraph)
  only judges.Callgraph fits agree = (tt, tt, refl)
  only judges.Stack fits agree = let is = first_agrees 115 _ old agree some in absurd (omega (arith, is, first))

pub stack_case : (old : List ℕ) → 0 < length old → get_or old 0 0 ≢ 99 → IsCase IsAnyJudge which_word (λ (u : Unit {0}). Unit {0}) (λ u. codes "stack\n") (λ u. judges.Stack) old
stack_case old some other = record { made = λ u one. (tt, refl); only = only } where
  only : (judge : Judge) → IsAnyJudge judge → Agree (which_word judge) old → Unit {0} × Unit {0} × (judge ≡ judges.Stack)
  only judges.Callgraph fits agree = absurd (other (first_agrees 99 _ old agree some))
  only judges.Stack fits agree = (tt, tt, refl)

pub no_judge_left : (old : List ℕ) → length old ≡ 0 → IsCutShort IsAnyJudge which_word old
no_judge_left old none = cut_at_start IsAnyJudge which_word old none judges.Stack tt (λ is. cc)

-- the third line

pub accepted_case : (old : List ℕ) → 0 < length old → get_or old 0 0 ≡ 97 → IsCase IsCounted verdict_line IsSmall (λ n. codes "accepted " ++ number_word 10 n) Accepted old
accepted_case old some first = record { made = λ n fits. (fits, refl); only = only } where
  only : (verdict : Verdict) → IsCounted verdict → Agree (verdict_line verdict) old → (n : ℕ) × IsSmall n × (verdict ≡ Accepted n)
  only (Accepted n) fits agree = (n, fits, refl)
  only (Rejected n) fits agree = let is = first_agrees 114 _ old agree some in absurd (omega (arith, is, first))
  only (Bound n) fits agree = absurd fits

pub rejected_case : (old : List ℕ) → 0 < length old → get_or old 0 0 ≢ 97 → IsCase IsCounted verdict_line IsSmall (λ n. codes "rejected " ++ number_word 10 n) Rejected old
rejected_case old some other = record { made = λ n fits. (fits, refl); only = only } where
  only : (verdict : Verdict) → IsCounted verdict → Agree (verdict_line verdict) old → (n : ℕ) × IsSmall n × (verdict ≡ Rejected n)
  only (Accepted n) fits agree = absurd (other (first_agrees 97 _ old agree some))
  only (Rejected n) fits agree = (n, fits, refl)
  only (Bound n) fits agree = absurd fits

pub no_verdict_left : (old : List ℕ) → length old ≡ 0 → IsCutShort IsCounted verdict_line old
no_verdict_left old none = cut_at_start IsCounted verdict_line old none (Accepted 0) (omega arith) (λ is. cc)

-- each line has one line feed, at its end

number_ended : (n : ℕ) → IsSmall n → IsEnded (number_word 10 n)
number_ended n small = (decimal n, IsPlain-no_feed (decimal n) (decimal-IsPlain n (omega arith)), refl)

reason_ended : (r : Reason) → IsSmallReason r → IsEnded (reason_text r)
reason_ended reasons.Start small = (codes "start", no_feed_within (codes "start") refl, refl)
reason_ended (reasons.Silent r) small = ended_after (codes "silent ") (number_word 10 r) (no_feed_within (codes "silent ") refl) (number_ended r small)
reason_ended (reasons.Enter r s) small = ended_after (codes "enter ") (number_word 32 r ++ number_word 10 s) (no_feed_within (codes "enter ") refl) (ended_after (number_word 32 r) (number_word 10 s) (number_plain r small.0) (number_ended s small.1))
reason_ended (reasons.Return r l) small = ended_after (codes "return ") (number_word 32 r ++ number_word 10 l) (no_feed_within (codes "return ") refl) (ended_after (number_word 32 r) (number_word 10 l) (number_plain r small.0) (number_ended l small.1))
reason_ended (reasons.Event r) small = ended_after (codes "event ") (number_word 10 r) (no_feed_within (codes "event ") refl) (number_ended r small)
reason_ended (reasons.Link r) small = number_ended r small

fact_plain : (fact : Fact) → IsSmallFact fact → Contains (fact_text fact) 10 → ⊥
fact_plain (facts.Callgraph k v) small = letter_plain 97 (k, v) (λ is. omega (arith, is)) (small.0, small.1)
fact_plain (facts.At k i f v) small =
    no_feed_append (codes "a ") (pair_word 32 (k, i) ++ pair_word 32 (f, v)) (no_feed_within (codes "a ") refl)
    (no_feed_append (pair_word 32 (k, i)) (pair_word 32 (f, v)) (pair_plain (k, i) (small.0, small.1)) (pair_plain (f, v) (small.2, small.3)))
fact_plain (facts.Link i f j h s) small =
    no_feed_append (codes "l ") (pair_word 32 (i, f) ++ (pair_word 32 (j, h) ++ number_word 32 s)) (no_feed_within (codes "l ") refl)
    (no_feed_append (pair_word 32 (i, f)) (pair_word 32 (j, h) ++ number_word 32 s) (pair_plain (i, f) (small.0, small.1))
    (no_feed_append (pair_word 32 (j, h)) (number_word 32 s) (pair_plain (j, h) (small.2, small.3)) (number_plain s small.4)))

pub fact_line_ended : (judge : Judge) (l : FactLine) → IsRightLine judge l → IsEnded (fact_line l)
fact_line_ended judge l fits = ended_after (fact_text l.fact) (reason_text l.reason) (fact_plain l.fact fits.fact) (reason_ended l.reason fits.reason)

pub line_ended : (judge : Judge) (line : CertificateLine) → IsCertificateLine judge line → IsEnded (certificate_line line)
line_ended judge (lines.Fact l) fits = fact_line_ended judge l fits
line_ended judge lines.End fits = (codes "end", no_feed_within (codes "end") refl, refl)

pub which_ended : (judge : Judge) → IsAnyJudge judge → IsEnded (which_line judge)
which_ended judges.Callgraph fits = (codes "which callgraph", no_feed_within (codes "which callgraph") refl, refl)
which_ended judges.Stack fits = (codes "which stack", no_feed_within (codes "which stack") refl, refl)

pub verdict_ended : (verdict : Verdict) → IsCounted verdict → IsEnded (verdict_line verdict)
verdict_ended (Accepted n) fits = ended_after (codes "accepted ") (number_word 10 n) (no_feed_within (codes "accepted ") refl) (number_ended n fits)
verdict_ended (Rejected n) fits = ended_after (codes "rejected ") (number_word 10 n) (no_feed_within (codes "rejected ") refl) (number_ended n fits)
verdict_ended (Bound n) fits = absurd fits
