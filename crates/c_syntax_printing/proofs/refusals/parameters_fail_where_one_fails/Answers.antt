use Rattle.c_syntax_printing.proofs.DeclaratorFails.{first_param_fails, first_param_leads, next_param_fails, next_param_leads, params_unclosed}
use Rattle.c_syntax_printing.proofs.refusals.parameters_fail_where_one_fails.Goals as goal

pub returns : goal.returns
returns g = record {
  first_param_fails = λ b i r. first_param_fails {b = b} {i = i} {r = r};
  first_param_leads = λ b c i j r. first_param_leads {b = b} {c = c} {i = i} {j = j} {r = r};
  next_param_fails = λ b t i r. next_param_fails {b = b} {t = t} {i = i} {r = r};
  next_param_leads = λ b c t i j r. next_param_leads {b = b} {c = c} {t = t} {i = i} {j = j} {r = r};
  params_unclosed = λ b i. params_unclosed {b = b} i;
}
