use Rattle.c_syntax_printing.proofs.ItemFails.{item_fails, item_leads, more_items_fail}
use Rattle.c_syntax_printing.proofs.refusals.a_unit_fails_where_an_item_fails.Goals as goal

pub returns : goal.returns
returns g = record {
  item_fails = λ b i r. item_fails {b = b} {i = i} {r = r};
  item_leads = λ b c i j r. item_leads {b = b} {c = c} {i = i} {j = j} {r = r};
  more_items_fail = λ b t i r. more_items_fail {b = b} {t = t} {i = i} {r = r};
}
