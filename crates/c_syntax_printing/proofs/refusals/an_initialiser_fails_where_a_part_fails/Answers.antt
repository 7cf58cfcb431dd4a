use Rattle.c_syntax_printing.proofs.InitFails.{first_init_fails, first_init_leads, init_list_fails, init_value_fails, list_goes_on, list_unclosed, no_init_left}
use Rattle.c_syntax_printing.proofs.refusals.an_initialiser_fails_where_a_part_fails.Goals as goal

pub returns : goal.returns
returns g = record {
  init_value_fails = λ b i r. init_value_fails {b = b} {i = i} {r = r};
  no_init_left = λ p i. no_init_left {p = p} i;
  init_list_fails = λ b t i r. init_list_fails {b = b} {t = t} {i = i} {r = r};
  first_init_fails = λ b i r. first_init_fails {b = b} {i = i} {r = r};
  first_init_leads = λ b c i j r. first_init_leads {b = b} {c = c} {i = i} {j = j} {r = r};
  list_unclosed = λ b i. list_unclosed {b = b} i;
  list_goes_on = λ b t i r. list_goes_on {b = b} {t = t} {i = i} {r = r};
}
