use Rattle.std.proofs.Common.{◌∙◌}
use Rattle.inline_model.proofs.building.only_function.Goals as goal

pub returns : goal.returns
returns c = record {
  function = c.start_of-one.result.now;
  is_start = c.start_of-one.ensures;
  is = λ i. record { name = (c.in_ok-name.ensures ∙ c.as_slice.ensures) i; entry = 0; exit = c.saturating_sub.ensures i };
}
