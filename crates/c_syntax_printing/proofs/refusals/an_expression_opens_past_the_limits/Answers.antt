use Rattle.c_syntax_printing.proofs.ExprOpens.{arguments_open, assigned_too_deep, assigned_value_opens, call_too_high, cast_opens, cast_operand_opens, cast_too_deep, cast_type_opens, comma_first_opens, comma_opens, comma_too_deep, first_of_list_opens, first_operand_opens, index_opens, index_too_high, int_too_deep, later_of_list_opens, level_up_opens, member_too_high, name_too_deep, operator_opens, operator_opens_left, operator_opens_right, operator_too_deep, pair_too_deep, parentheses_open, postfix_opens, postfix_too_high, sizeof_type_opens, step_opens, step_too_deep, string_too_deep, suffixes_open, test_opens, test_too_high, unary_opens, value_opens, yes_opens}
use Rattle.c_syntax_printing.proofs.refusals.an_expression_opens_past_the_limits.Goals as goal

pub returns : goal.returns
returns g = record {
  postfix_opens = λ at p n i r. postfix_opens {at = at} {p = p} {n = n} {i = i} {r = r};
  unary_opens = λ at p n i r. unary_opens {at = at} {p = p} {n = n} {i = i} {r = r};
  cast_opens = λ at p n i r. cast_opens {at = at} {p = p} {n = n} {i = i} {r = r};
  first_operand_opens = λ at p n i r l. first_operand_opens {at = at} {p = p} {n = n} {i = i} {r = r} l;
  level_up_opens = λ at p n i r l m. level_up_opens {at = at} {p = p} {n = n} {i = i} {r = r} l m;
  test_opens = λ at p n i r. test_opens {at = at} {p = p} {n = n} {i = i} {r = r};
  value_opens = λ at p n i r. value_opens {at = at} {p = p} {n = n} {i = i} {r = r};
  comma_first_opens = λ at p n i r. comma_first_opens {at = at} {p = p} {n = n} {i = i} {r = r};
  name_too_deep = λ p name t i. name_too_deep {p = p} {name = name} {t = t} {i = i};
  int_too_deep = λ p n t i u. int_too_deep {p = p} {n = n} {t = t} {i = i} {u = u};
  string_too_deep = λ p bytes t i. string_too_deep {p = p} {bytes = bytes} {t = t} {i = i};
  parentheses_open = λ at p n t i r. parentheses_open {at = at} {p = p} {n = n} {t = t} {i = i} {r = r};
  pair_too_deep = λ n t u i. pair_too_deep {n = n} {t = t} {u = u} {i = i};
  step_opens = λ at p n t i r s. step_opens {at = at} {p = p} {n = n} {t = t} {i = i} {r = r} s;
  operator_opens = λ at p n op t i r. operator_opens {at = at} {p = p} {n = n} {op = op} {t = t} {i = i} {r = r};
  step_too_deep = λ p t i s. step_too_deep {p = p} {t = t} {i = i} s;
  operator_too_deep = λ p op t i. operator_too_deep {p = p} {op = op} {t = t} {i = i};
  cast_too_deep = λ p t i. cast_too_deep {p = p} {t = t} {i = i};
  cast_type_opens = λ at p n t i r. cast_type_opens {at = at} {p = p} {n = n} {t = t} {i = i} {r = r};
  sizeof_type_opens = λ at p n t u i r. sizeof_type_opens {at = at} {p = p} {n = n} {t = t} {u = u} {i = i} {r = r};
  cast_operand_opens = λ at p n d y t u i j r. cast_operand_opens {at = at} {p = p} {n = n} {d = d} {y = y} {t = t} {u = u} {i = i} {j = j} {r = r};
  suffixes_open = λ at p n d a i j r. suffixes_open {at = at} {p = p} {n = n} {d = d} {a = a} {i = i} {j = j} {r = r};
  index_opens = λ at p n q a t i r. index_opens {at = at} {p = p} {n = n} {q = q} {a = a} {t = t} {i = i} {r = r};
  arguments_open = λ at p n q a t i r. arguments_open {at = at} {p = p} {n = n} {q = q} {a = a} {t = t} {i = i} {r = r};
  index_too_high = λ at p n q a t i. index_too_high {at = at} {p = p} {n = n} {q = q} {a = a} {t = t} {i = i};
  call_too_high = λ at p n q a t i. call_too_high {at = at} {p = p} {n = n} {q = q} {a = a} {t = t} {i = i};
  member_too_high = λ at p n q a t i y. member_too_high {at = at} {p = p} {n = n} {q = q} {a = a} {t = t} {i = i} y;
  postfix_too_high = λ at p n q a t i y. postfix_too_high {at = at} {p = p} {n = n} {q = q} {a = a} {t = t} {i = i} y;
  operator_opens_right = λ at p n d o l most a t i k r. operator_opens_right {at = at} {p = p} {n = n} {d = d} o l most {a = a} {t = t} {i = i} {k = k} {r = r};
  operator_opens_left = λ at p n d o l most a t i k. operator_opens_left {at = at} {p = p} {n = n} {d = d} o l most {a = a} {t = t} {i = i} {k = k};
  yes_opens = λ at p n d a t i j r. yes_opens {at = at} {p = p} {n = n} {d = d} {a = a} {t = t} {i = i} {j = j} {r = r};
  test_too_high = λ at p n d a t i j. test_too_high {at = at} {p = p} {n = n} {d = d} {a = a} {t = t} {i = i} {j = j};
  assigned_value_opens = λ at p n d op a t i j r. assigned_value_opens {at = at} {p = p} {n = n} {d = d} {op = op} {a = a} {t = t} {i = i} {j = j} {r = r};
  assigned_too_deep = λ at p n d op a t i j. assigned_too_deep {at = at} {p = p} {n = n} {d = d} {op = op} {a = a} {t = t} {i = i} {j = j};
  first_of_list_opens = λ at p n i r. first_of_list_opens {at = at} {p = p} {n = n} {i = i} {r = r};
  later_of_list_opens = λ at p n d a t i j r. later_of_list_opens {at = at} {p = p} {n = n} {d = d} {a = a} {t = t} {i = i} {j = j} {r = r};
  comma_opens = λ at p n d a t i j r. comma_opens {at = at} {p = p} {n = n} {d = d} {a = a} {t = t} {i = i} {j = j} {r = r};
  comma_too_deep = λ at p n d a t i j. comma_too_deep {at = at} {p = p} {n = n} {d = d} {a = a} {t = t} {i = i} {j = j};
}
