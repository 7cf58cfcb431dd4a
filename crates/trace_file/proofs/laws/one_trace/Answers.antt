use Rattle.std.proofs.Common.{ℕ, List, [], sym, subst}
use Rattle.std.proofs.lemmas.List.{append-nil}
use Rattle.trace_file.specs.Trace.{IsTrace}
use Rattle.trace_file.proofs.OneReading as reading
use Rattle.trace_file.proofs.laws.one_trace.Goals as goal

pub returns-clause-one : goal.returns-clause-one
returns-clause-one c = λ text events others end other first then.
    let same = reading.one_trace text [] events others end other first.trace (subst (λ (t : List ℕ). IsTrace t others other) (sym (append-nil text)) then.trace) in
    (same.0, same.1)

pub returns-clause-unrefused : goal.returns-clause-unrefused
returns-clause-unrefused c = reading.trace_unrefused

pub returns-clause-written : goal.returns-clause-written
returns-clause-written c text events end is few short = record { trace = is; few = few; short = short }
