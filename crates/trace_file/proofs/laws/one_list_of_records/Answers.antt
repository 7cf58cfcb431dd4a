use Rattle.std.proofs.Common.{ℕ, List, [], sym, subst}
use Rattle.std.proofs.lemmas.List.{append-nil}
use Rattle.trace_file.specs.Traces.{AreTraces}
use Rattle.trace_file.proofs.OneReading as reading
use Rattle.trace_file.proofs.laws.one_list_of_records.Goals as goal

pub returns-clause-one : goal.returns-clause-one
returns-clause-one c = λ text version other records others first then.
    let same = reading.one_traces text [] version other records others first.traces (subst (λ (t : List ℕ). AreTraces t other others) (sym (append-nil text)) then.traces) in
    (same.0, same.1)

pub returns-clause-unrefused : goal.returns-clause-unrefused
returns-clause-unrefused c = reading.traces_unrefused

pub returns-clause-written : goal.returns-clause-written
returns-clause-written c text version records are few known short = record { traces = are; few = few; known = known; short = short }
