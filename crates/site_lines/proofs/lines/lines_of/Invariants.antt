use Rattle.std.proofs.Common.{◌≡◌, take}
use Rattle.c_tree.specs.View.{program_of}
use Rattle.c_check_counts.specs.SeenCalls.{seen}
use Rattle.site_lines.specs.SiteLines.{site_lines}
use Rattle.site_lines.proofs.lines.lines_of.Given as goal

abbrev pub invariant-loop-site : goal.invariant-loop-site
invariant-loop-site l =
    (l.reader.file ≡ l.file) × (l.reader.text ≡ l.text) × (l.lines.items ≡ site_lines l.file l.text (program_of l.program) 0 (seen (take l.site l.places)))
