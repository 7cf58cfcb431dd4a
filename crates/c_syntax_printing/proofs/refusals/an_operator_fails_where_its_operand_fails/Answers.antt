use Rattle.c_syntax_printing.proofs.LevelFails.{assigned_after_operators, assigned_cast, assigned_too_high, assigned_value_fails, choice_fails, choice_too_high, comma_fails, comma_first, comma_too_high, exprs_fail, exprs_first, first_operand, level_up, next_fails, next_leads, operator_fails, operator_too_high, test_fails, value_fails}
use Rattle.c_syntax_printing.proofs.refusals.an_operator_fails_where_its_operand_fails.Goals as goal

pub returns : goal.returns
returns g = record {
  first_operand = λ b i r n. first_operand {b = b} {i = i} {r = r} n;
  level_up = λ b i r n m. level_up {b = b} {i = i} {r = r} n m;
  operator_fails = λ b o l most d e t i k r. operator_fails b o l most {d = d} {e = e} {t = t} {i = i} {k = k} {r = r};
  operator_too_high = λ o l most p n d e t i j. operator_too_high o l most {p = p} {n = n} {d = d} {e = e} {t = t} {i = i} {j = j};
  test_fails = λ b i r. test_fails {b = b} {i = i} {r = r};
  choice_fails = λ b c t i j r. choice_fails {b = b} {c = c} {t = t} {i = i} {j = j} {r = r};
  choice_too_high = λ p n d e t i j. choice_too_high {p = p} {n = n} {d = d} {e = e} {t = t} {i = i} {j = j};
  value_fails = λ b i r. value_fails {b = b} {i = i} {r = r};
  assigned_value_fails = λ b d op a t i j r. assigned_value_fails {b = b} {d = d} {op = op} {a = a} {t = t} {i = i} {j = j} {r = r};
  assigned_too_high = λ p n d op a t i j. assigned_too_high {p = p} {n = n} {d = d} {op = op} {a = a} {t = t} {i = i} {j = j};
  assigned_after_operators = λ b c d e i h j. assigned_after_operators {b = b} {c = c} {d = d} {e = e} {i = i} {h = h} {j = j};
  assigned_cast = λ b d e t i j. assigned_cast {b = b} {d = d} {e = e} {t = t} {i = i} {j = j};
  comma_first = λ b i r. comma_first {b = b} {i = i} {r = r};
  comma_fails = λ b d a t i j r. comma_fails {b = b} {d = d} {a = a} {t = t} {i = i} {j = j} {r = r};
  comma_too_high = λ p n d a t i j. comma_too_high {p = p} {n = n} {d = d} {a = a} {t = t} {i = i} {j = j};
  exprs_first = λ b i r. exprs_first {b = b} {i = i} {r = r};
  exprs_fail = λ b c i j r. exprs_fail {b = b} {c = c} {i = i} {j = j} {r = r};
  next_fails = λ b t i r. next_fails {b = b} {t = t} {i = i} {r = r};
  next_leads = λ b c t i j r. next_leads {b = b} {c = c} {t = t} {i = i} {j = j} {r = r};
}
