use Rattle.std.proofs.Common.{inl, inr}
use Rattle.line_text.proofs.NumberLemmas.{front_cases, front_of_shorter}
use Rattle.fleet_schedule.proofs.pids.+is_front.Goals as goal

pub returns-else-number-front-2 : goal.returns-else-number-front-2
returns-else-number-front-2 t c = (
  λ holds. front_of_shorter c.args.front c.args.number (c.is_front.ensures.0 holds),
  λ front. elim (front_cases c.args.front c.args.number front) [ inl same ↦ absurd (c.if-number-front-2.false same) | inr shorter ↦ c.is_front.ensures.1 shorter ],
)
