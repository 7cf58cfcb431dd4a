use Rattle.std.proofs.Common.{◌≡◌, ℕ, ◌<◌, ◌++◌, take, slice_index_or}
use Rattle.std.specs.Prelude.{flat_map}
use Rattle.certify_facts.specs.declared.fact.FactLine.{FactLine}
use Rattle.certify_file.specs.CertificateText.{fact_line}
use Rattle.certify_file.specs.Lines.{IsSmallLine}
use Rattle.certify_file.proofs.writing.push_lines.Given as goal

-- the lines of the facts before this one follow what stood there
abbrev pub invariant-loop-line : goal.invariant-loop-line
invariant-loop-line l = record {
  is : l.text.items ≡ l.fn.text.items ++ flat_map fact_line (take l.line-index l.lines);
  small : (k : ℕ) (d : FactLine) → k < l.line-index → IsSmallLine (slice_index_or l.lines k d);
}
