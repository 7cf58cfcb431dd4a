use Rattle.std.proofs.Common.{◌≡◌, ◌≤◌, ◌++◌, length, All}
use Rattle.std.specs.Prelude.{flat_map}
use Rattle.certify_file.specs.CertificateText.{IsRightLine, fact_line, most}
use Rattle.certify_file.proofs.reading.read_facts.Given as goal

-- the lines of the facts that were read, and what is left, are the text
abbrev pub invariant-lines : goal.invariant-lines
invariant-lines l = record {
  right : All (IsRightLine l.judge) l.facts.items;
  few : length l.facts.items ≤ most;
  is : l.text ≡ flat_map fact_line l.facts.items ++ l.rest;
}

abbrev pub decreases-lines : goal.decreases-lines
decreases-lines l = length l.rest
