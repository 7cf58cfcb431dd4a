use Rattle.std.proofs.Common.{◌≡◌, ◌++◌, take, flat_map}
use Rattle.expected_events.specs.Text.{open_line}
use Rattle.expected_events.proofs.writing.push_opened.Given as goal

abbrev pub invariant-loop-site : goal.invariant-loop-site
invariant-loop-site l = l.text.items ≡ l.fn.text.items ++ flat_map open_line (take l.site-index l.sites)
