use Rattle.sys_table.proofs.ResultsLemmas.{same_records, not_refused}
use Rattle.sys_table.proofs.laws.one_list_of_results.Goals as goal

pub returns-clause-one : goal.returns-clause-one
returns-clause-one c text records others first then = same_records text others records then first

pub returns-clause-unrefused : goal.returns-clause-unrefused
returns-clause-unrefused c text records error within refusal = not_refused error text records within refusal

pub returns-clause-written : goal.returns-clause-written
returns-clause-written c text records are few short = record { results = are; few = few; short = short }
