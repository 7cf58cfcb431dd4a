-- The text of a certificate, and why a text is none.
use Rattle.std.specs.Prelude.{◌≡◌, ◌⊎◌, ℕ, ◌<◌, ◌≤◌, ◌^◌, List, [], ◌++◌, All, length, flat_map, codes}
use Rattle.dm_base.specs.declared.verdict.Verdict.{Verdict}
use Rattle.dm_base.specs.declared.verdict.Verdict.TheVariants.{Accepted, Rejected, Bound}
use Rattle.line_text.specs.Files.{IsProperPrefix, IsBadLine, HasOtherVersion}
use Rattle.line_text.specs.Words.{number_word}
use Rattle.certify_facts.specs.declared.fact.Fact.{Fact}
use Rattle.certify_facts.specs.declared.fact.Fact.TheVariants as facts
use Rattle.certify_facts.specs.declared.fact.FactLine.{FactLine}
use Rattle.certify_facts.specs.declared.fact.Judge.{Judge}
use Rattle.certify_facts.specs.declared.fact.Judge.TheVariants as judges
use Rattle.certify_facts.specs.declared.fact.Reason.{Reason}
use Rattle.certify_facts.specs.declared.fact.Reason.TheVariants as reasons
use Rattle.certify_facts.specs.Form.{IsCounted, IsFormed}
use Rattle.certify_facts.specs.Told.{Told}
use Rattle.certify_file.specs.declared.error.CertificateError.{CertificateError}
use Rattle.certify_file.specs.declared.error.CertificateError.TheVariants.{OutOfMemory, BadLine, NoEnd, TooLong, Version}

-- the greatest length of a text, in bytes: 64 MiB
abbrev pub longest : ℕ
longest = 67108864

-- the greatest number of lines of facts
abbrev pub most : ℕ
most = 1000000

-- a number that fits u32
abbrev pub IsSmall : ℕ → Type 0
IsSmall n = n < 2 ^ 32

-- each number of the fact fits u32
abbrev pub IsSmallFact : Fact → Type 0
IsSmallFact (facts.Callgraph k v) = IsSmall k × IsSmall v
IsSmallFact (facts.At k i f v) = IsSmall k × IsSmall i × IsSmall f × IsSmall v
IsSmallFact (facts.Link i f j h s) = IsSmall i × IsSmall f × IsSmall j × IsSmall h × IsSmall s

-- each number of the reason fits u32
abbrev pub IsSmallReason : Reason → Type 0
IsSmallReason reasons.Start = Unit {0}
IsSmallReason (reasons.Silent r) = IsSmall r
IsSmallReason (reasons.Enter r s) = IsSmall r × IsSmall s
IsSmallReason (reasons.Return r l) = IsSmall r × IsSmall l
IsSmallReason (reasons.Event r) = IsSmall r
IsSmallReason (reasons.Link r) = IsSmall r

-- a line that a certificate of this judge may have: a fact of its model, a reason that goes with it, and numbers that fit u32
pub record IsRightLine (judge : Judge) (line : FactLine) : Type 0 where
  pub formed : IsFormed judge line
  pub fact : IsSmallFact line.fact
  pub reason : IsSmallReason line.reason

-- `a K V`, `a K I F V` or `l I F J G S`, and a space
abbrev pub fact_text : Fact → List ℕ
fact_text (facts.Callgraph k v) = codes "a " ++ (number_word 32 k ++ number_word 32 v)
fact_text (facts.At k i f v) = codes "a " ++ ((number_word 32 k ++ number_word 32 i) ++ (number_word 32 f ++ number_word 32 v))
fact_text (facts.Link i f j h s) = codes "l " ++ ((number_word 32 i ++ number_word 32 f) ++ ((number_word 32 j ++ number_word 32 h) ++ number_word 32 s))

-- `start`, `silent R`, `enter R S`, `return R L`, `event R` or `R`, and the line feed
abbrev pub reason_text : Reason → List ℕ
reason_text reasons.Start = codes "start\n"
reason_text (reasons.Silent r) = codes "silent " ++ number_word 10 r
reason_text (reasons.Enter r s) = codes "enter " ++ (number_word 32 r ++ number_word 10 s)
reason_text (reasons.Return r l) = codes "return " ++ (number_word 32 r ++ number_word 10 l)
reason_text (reasons.Event r) = codes "event " ++ number_word 10 r
reason_text (reasons.Link r) = number_word 10 r

-- the fact, its reason and the line feed
abbrev pub fact_line : FactLine → List ℕ
fact_line line = fact_text line.fact ++ reason_text line.reason

abbrev pub certificate_head : List ℕ
certificate_head = codes "dyckmon-certificate 1\n"

-- `which callgraph` or `which stack`, and the line feed
abbrev pub which_line : Judge → List ℕ
which_line judges.Callgraph = codes "which callgraph\n"
which_line judges.Stack = codes "which stack\n"

-- `accepted N` or `rejected N`, and the line feed; no certificate claims more
abbrev pub verdict_line : Verdict → List ℕ
verdict_line (Accepted n) = codes "accepted " ++ number_word 10 n
verdict_line (Rejected n) = codes "rejected " ++ number_word 10 n
verdict_line (Bound n) = []

-- the first three lines, a line for each fact, and the end line
abbrev pub certificate_text : Told → List ℕ
certificate_text c = certificate_head ++ (which_line c.judge ++ (verdict_line c.verdict ++ (flat_map fact_line c.lines ++ codes "end\n")))

-- the text is that of the certificate
pub record IsCertificate (text : List ℕ) (c : Told) : Type 0 where
  pub counted : IsCounted c.verdict
  pub right : All (IsRightLine c.judge) c.lines
  pub is : text ≡ certificate_text c

abbrev pub IsFormedCertificate : List ℕ → Type 0
IsFormedCertificate text = (c : Told) × IsCertificate text c

-- a certificate within the limits
pub record IsCertificateWithin (text : List ℕ) (c : Told) : Type 0 where
  pub certificate : IsCertificate text c
  pub few : length c.lines ≤ most
  pub short : length text ≤ longest

-- the greatest number of lines of facts stands first, and then one more
pub record HasTooManyFacts (text : List ℕ) : Type 0 where
  pub front : Told
  pub last : FactLine
  pub rest : List ℕ
  pub full : length front.lines ≡ most
  pub counted : IsCounted front.verdict
  pub right : All (IsRightLine front.judge) front.lines
  pub right_last : IsRightLine front.judge last
  pub is : text ≡ certificate_head ++ (which_line front.judge ++ (verdict_line front.verdict ++ (flat_map fact_line front.lines ++ (fact_line last ++ rest))))

abbrev pub HasOtherCertificateVersion : List ℕ → Type 0
HasOtherCertificateVersion text = HasOtherVersion (codes "dyckmon-certificate ") (λ n. n ≡ 1) text

-- why a text is refused: its length comes first, then another version, then the first line that shows that there are too many facts or that is bad, then that it ends too early
abbrev pub IsCertificateRefusal : CertificateError → List ℕ → Type 0
IsCertificateRefusal OutOfMemory text = Unit {0}
IsCertificateRefusal TooLong text = (longest < length text) ⊎ HasTooManyFacts text
IsCertificateRefusal Version text = (length text ≤ longest) × HasOtherCertificateVersion text
IsCertificateRefusal (BadLine k) text = (length text ≤ longest) × (HasOtherCertificateVersion text → ⊥) × (HasTooManyFacts text → ⊥) × IsBadLine IsFormedCertificate text k
IsCertificateRefusal NoEnd text = (length text ≤ longest) × (HasOtherCertificateVersion text → ⊥) × (HasTooManyFacts text → ⊥) × IsProperPrefix IsFormedCertificate text
