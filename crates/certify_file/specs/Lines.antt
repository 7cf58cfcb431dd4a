-- For private contracts and proofs alone: the lines of a certificate and their parts as values, and how each part of a text is refused.
use Rattle.std.specs.Prelude.{◌≡◌, ℕ, ◌+◌, ◌<◌, ◌^◌, Bool, true, not, ◌&&◌, nat_eq, List, [], ◌∷◌, ◌++◌, codes}
use Rattle.line_text.specs.declared.miss.Miss.{Miss}
use Rattle.line_text.specs.declared.miss.Miss.TheVariants as misses
use Rattle.line_text.specs.Files.{IsProperPrefix, IsBadLine, IsVersionLine}
use Rattle.line_text.specs.Reading.{Agree, IsCutShort}
use Rattle.line_text.specs.Words.{number_word}
use Rattle.certify_facts.specs.declared.fact.Fact.{Fact}
use Rattle.certify_facts.specs.declared.fact.Fact.TheVariants as facts
use Rattle.certify_facts.specs.declared.fact.FactLine.{FactLine}
use Rattle.certify_facts.specs.declared.fact.Judge.{Judge}
use Rattle.certify_facts.specs.declared.fact.Judge.TheVariants as judges
use Rattle.certify_facts.specs.declared.fact.Reason.{Reason}
use Rattle.certify_facts.specs.Form.{IsOfLinks}
use Rattle.certify_file.specs.declared.error.CertificateError.{CertificateError}
use Rattle.certify_file.specs.declared.error.CertificateError.TheVariants.{OutOfMemory, BadLine, NoEnd, TooLong, Version}
use Rattle.certify_file.specs.declared.line.CertificateLine.{CertificateLine}
use Rattle.certify_file.specs.declared.line.CertificateLine.TheVariants as lines
use Rattle.certify_file.specs.CertificateText.{IsSmall, IsSmallFact, IsSmallReason, IsRightLine, fact_line, certificate_head, IsFormedCertificate, HasTooManyFacts}

-- whether the word has no line feed
abbrev pub has_no_feed : List ℕ → Bool
has_no_feed [] = true
has_no_feed (b ∷ word) = not (nat_eq b 10) && has_no_feed word

abbrev pub AreSmall : ℕ × ℕ → Type 0
AreSmall p = IsSmall p.0 × IsSmall p.1

-- two numbers with a space between them, and the byte after them
abbrev pub pair_word : ℕ → ℕ × ℕ → List ℕ
pair_word end p = number_word 32 p.0 ++ number_word end p.1

-- each number of the line fits u32
pub record IsSmallLine (line : FactLine) : Type 0 where
  pub fact : IsSmallFact line.fact
  pub reason : IsSmallReason line.reason

-- a reason of a fact that is no link
abbrev pub IsNodeReason : Reason → Type 0
IsNodeReason reason = (IsOfLinks reason → ⊥) × IsSmallReason reason

abbrev pub IsAt : Fact → Type 0
IsAt (facts.Callgraph k v) = ⊥
IsAt (facts.At k i f v) = Unit {0}
IsAt (facts.Link i f j h s) = ⊥

abbrev pub IsLink : Fact → Type 0
IsLink (facts.Callgraph k v) = ⊥
IsLink (facts.At k i f v) = ⊥
IsLink (facts.Link i f j h s) = Unit {0}

-- the line of a fact about a node in the abstract-stack model
abbrev pub IsAtLine : FactLine → Type 0
IsAtLine line = IsAt line.fact × IsRightLine judges.Stack line

abbrev pub IsLinkLine : FactLine → Type 0
IsLinkLine line = IsLink line.fact × IsRightLine judges.Stack line

-- a line after the first three
abbrev pub certificate_line : CertificateLine → List ℕ
certificate_line (lines.Fact line) = fact_line line
certificate_line lines.End = codes "end\n"

abbrev pub IsCertificateLine : Judge → CertificateLine → Type 0
IsCertificateLine judge (lines.Fact line) = IsRightLine judge line
IsCertificateLine judge lines.End = Unit {0}

abbrev pub IsAnyJudge : Judge → Type 0
IsAnyJudge judge = Unit {0}

-- what follows `which `
abbrev pub which_word : Judge → List ℕ
which_word judges.Callgraph = codes "callgraph\n"
which_word judges.Stack = codes "stack\n"

-- the first line has the word, and the number of another version
abbrev pub HasOtherNumber : List ℕ → Type 0
HasOtherNumber line = (n : ℕ) × (n < 2 ^ 32) × (n ≡ 1 → ⊥) × IsVersionLine (codes "dyckmon-certificate ") n line

-- why the first line is refused
abbrev pub IsHeadRefusal : CertificateError → List ℕ → Type 0
IsHeadRefusal OutOfMemory line = ⊥
IsHeadRefusal TooLong line = ⊥
IsHeadRefusal Version line = HasOtherNumber line
IsHeadRefusal (BadLine k) line = (k ≡ 1) × (HasOtherNumber line → ⊥) × (Agree certificate_head line → ⊥)
IsHeadRefusal NoEnd line = (HasOtherNumber line → ⊥) × IsCutShort {V = Unit {0}} (λ u. Unit {0}) (λ u. certificate_head) line

-- why a text with the right first line is refused for the lines after it
abbrev pub IsLinesRefusal : CertificateError → List ℕ → Type 0
IsLinesRefusal OutOfMemory text = Unit {0}
IsLinesRefusal TooLong text = HasTooManyFacts text
IsLinesRefusal Version text = ⊥
IsLinesRefusal (BadLine k) text = (HasTooManyFacts text → ⊥) × IsBadLine IsFormedCertificate text k
IsLinesRefusal NoEnd text = (HasTooManyFacts text → ⊥) × IsProperPrefix IsFormedCertificate text

-- the refusal of the line after so many lines
abbrev pub refusal_of : Miss → ℕ → CertificateError
refusal_of misses.OutOfMemory count = OutOfMemory
refusal_of misses.Short count = NoEnd
refusal_of misses.Wrong count = BadLine (count + 1)
