use Rattle.c_syntax_printing.proofs.UnitFails.{none_spelled, none_within}
use Rattle.c_syntax_printing.proofs.refusals.no_unit_is_spelled_where_units_fail.Goals as goal

pub returns : goal.returns
returns g = record {
  any_depth = none_spelled;
  limited = none_within;
}
