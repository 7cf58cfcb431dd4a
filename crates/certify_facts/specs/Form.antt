-- Which lines and verdicts a certificate has.
use Rattle.std.specs.Prelude.{◌<◌, ◌^◌}
use Rattle.dm_base.specs.declared.verdict.Verdict.{Verdict}
use Rattle.dm_base.specs.declared.verdict.Verdict.TheVariants.{Accepted, Rejected, Bound}
use Rattle.certify_facts.specs.declared.fact.Fact.{Fact}
use Rattle.certify_facts.specs.declared.fact.Fact.TheVariants as facts
use Rattle.certify_facts.specs.declared.fact.FactLine.{FactLine}
use Rattle.certify_facts.specs.declared.fact.Judge.{Judge}
use Rattle.certify_facts.specs.declared.fact.Judge.TheVariants as judges
use Rattle.certify_facts.specs.declared.fact.Reason.{Reason}
use Rattle.certify_facts.specs.declared.fact.Reason.TheVariants as reasons

-- the verdict is Accepted or Rejected, and its number fits u32
abbrev pub IsCounted : Verdict → Type 0
IsCounted (Accepted n) = n < 2 ^ 32
IsCounted (Rejected n) = n < 2 ^ 32
IsCounted (Bound n) = ⊥

-- the fact is one of the judge's model
abbrev pub IsOfModel : Judge → Fact → Type 0
IsOfModel judges.Callgraph (facts.Callgraph k v) = Unit {0}
IsOfModel judges.Callgraph (facts.At k i f v) = ⊥
IsOfModel judges.Callgraph (facts.Link i f j h s) = ⊥
IsOfModel judges.Stack (facts.Callgraph k v) = ⊥
IsOfModel judges.Stack (facts.At k i f v) = Unit {0}
IsOfModel judges.Stack (facts.Link i f j h s) = Unit {0}

-- the reason is the one of links
abbrev pub IsOfLinks : Reason → Type 0
IsOfLinks reasons.Start = ⊥
IsOfLinks (reasons.Silent r) = ⊥
IsOfLinks (reasons.Enter r s) = ⊥
IsOfLinks (reasons.Return r l) = ⊥
IsOfLinks (reasons.Event r) = ⊥
IsOfLinks (reasons.Link r) = Unit {0}

-- the reason goes with this form of fact: links have one of their own
abbrev pub GoesWith : Fact → Reason → Type 0
GoesWith (facts.Callgraph k v) reason = IsOfLinks reason → ⊥
GoesWith (facts.At k i f v) reason = IsOfLinks reason → ⊥
GoesWith (facts.Link i f j h s) reason = IsOfLinks reason

-- the line has a fact of the judge's model, and a reason that goes with it
pub record IsFormed (judge : Judge) (line : FactLine) : Type 0 where
  pub model : IsOfModel judge line.fact
  pub reason : GoesWith line.fact line.reason
