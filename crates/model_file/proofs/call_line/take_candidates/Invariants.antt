use Rattle.std.proofs.Common.{◌≤◌, ◌-◌, ◌++◌}
use Rattle.model_file.specs.Words.{AreCandidates, numbers_text}
use Rattle.model_file.proofs.CandidateLemmas.{Later}
use Rattle.model_file.proofs.Narrowing.{LeadsInto}
use Rattle.model_file.proofs.call_line.take_candidates.Given as goal

abbrev pub invariant-loop-cursor : goal.invariant-loop-cursor
invariant-loop-cursor l = LeadsInto AreCandidates numbers_text l.fn.cursor.rest.now (Later l.least) numbers_text l.cursor.rest.now (λ ns. l.candidates.items ++ ns) × (l.least ≤ 4294967295)

abbrev pub decreases-loop-cursor : goal.decreases-loop-cursor
decreases-loop-cursor l = 4294967296 - l.least
