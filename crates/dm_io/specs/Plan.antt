-- The calls of a store or sink in memory, some of which are to fail.
use Rattle.std.specs.Prelude.{◌==◌, ℕ, Bool, List, min, max, refl}
use Rattle.std.specs.Coded.{Coded, code_by, coded×, coded_ℕ, coded_list}
use Rattle.std.specs.List.{list_any}
use Rattle.dm_io.specs.Faults.{raised}

-- the numbers of the calls that fail, the most bytes of a call, the number of the next call from 0 on, and the faults so far
pub record CallPlan : Type 0 where
  pub failing : List ℕ
  pub most : ℕ
  pub next : ℕ
  pub faults : ℕ

-- a plan is stored as the tuple of its parts
abbrev pub plan_code : Coded CallPlan
plan_code =
    code_by (List ℕ × (ℕ × (ℕ × ℕ))) (coded× (coded_list coded_ℕ) (coded× coded_ℕ (coded× coded_ℕ coded_ℕ)))
    (λ p. (p.failing, (p.most, (p.next, p.faults))))
    (λ t. record { failing = t.0; most = t.1.0; next = t.1.1.0; faults = t.1.1.1 })
    (λ _. refl)

-- the plan before the first call
abbrev pub first_plan : List ℕ → ℕ → CallPlan
first_plan failing most = record { failing = failing; most = most; next = 0; faults = 0 }

-- the next call is one of those that fail
abbrev pub is_failing : CallPlan → Bool
is_failing plan = list_any (λ n. n == plan.next) plan.failing

-- how many of so many bytes one call gives or takes: at most `most`, or at most 1 where that is 0
abbrev pub share : CallPlan → ℕ → ℕ
share plan count = min (max plan.most 1) count

-- the plan after a call that was no fault
abbrev pub after_call : CallPlan → CallPlan
after_call plan = record plan { next = raised plan.next }

-- the plan after a call that was a fault
abbrev pub after_fault : CallPlan → CallPlan
after_fault plan = record plan { next = raised plan.next; faults = raised plan.faults }
