use Rattle.c_meaning.proofs.Answering.{records_are_judged}
use Rattle.c_meaning.proofs.BadResultLemmas.{bad_results_are_recorded}
use Rattle.c_meaning.proofs.laws.records_are_judged.Goals as goal

-- src/laws.rt:24:1
pub returns-clause-answers : goal.returns-clause-answers
returns-clause-answers c = records_are_judged

-- src/laws.rt:24:1
pub returns-clause-bad_result : goal.returns-clause-bad_result
returns-clause-bad_result c = bad_results_are_recorded
