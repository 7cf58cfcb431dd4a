use Rattle.c_syntax_printing.proofs.UnitOpens.{first_item_opens, later_item_opens, unit_goes_on}
use Rattle.c_syntax_printing.proofs.openings.a_unit_goes_on_past_the_limits.Goals as goal

pub returns : goal.returns
returns g = record {
  first_item_opens = λ at p n i r. first_item_opens {at = at} {p = p} {n = n} {i = i} {r = r};
  later_item_opens = λ at p n d a i j r. later_item_opens {at = at} {p = p} {n = n} {d = d} {a = a} {i = i} {j = j} {r = r};
  unit_goes_on = λ at p n tokens front r. unit_goes_on {at = at} {p = p} {n = n} tokens front r;
}
