use Rattle.c_meaning.proofs.Candidates.{callees_are_candidates}
use Rattle.c_meaning.proofs.values.callees_are_candidates.Goals as goal

-- src/laws.rt:17:1
pub returns : goal.returns
returns c = callees_are_candidates
