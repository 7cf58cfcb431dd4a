use Rattle.std.proofs.Common.{◌≡◌, ℕ, List, ◌++◌, decimal, ◌∙◌, append_assoc}
use Rattle.std.specs.Prelude.{codes}
use Rattle.std.proofs.lemmas.Result.{IfOk-equal}
use Rattle.dm_base.specs.declared.outcome.Outcome.{Outcome}
use Rattle.dm_base.specs.declared.outcome.Outcome.TheVariants.{Undefined}
use Rattle.trace_file.specs.EventText.{outcome_text}
use Rattle.trace_file.proofs.writing.push_outcome.Goals as goal

undefined_text : (old mid : List ℕ) (number kind : ℕ) (outcome : Outcome) → mid ≡ old ++ codes "undefined U" → number ≡ kind → outcome ≡ Undefined kind → mid ++ decimal number ≡ old ++ outcome_text outcome
undefined_text old mid number kind outcome pushed same is =
    rw (pushed, same, is) (append_assoc old (codes "undefined U") (decimal kind))

pub returns-in_ok-push_bytes-in-Undefined-clause-text : goal.returns-in_ok-push_bytes-in-Undefined-clause-text
returns-in_ok-push_bytes-in-Undefined-clause-text c =
    IfOk-equal _ _ _ _ c.push_decimal.ensures
    (undefined_text _ _ _ _ _ c.in_ok-push_bytes-in-Undefined.ensures (c.from-in-Undefined.ensures ∙ c.number.ensures.number) c.in-Undefined.is)
