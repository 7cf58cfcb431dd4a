use Rattle.c_syntax_printing.proofs.BodyOpens.{after_case_opens, after_default_opens, break_too_deep, case_opens, continue_too_deep, do_body_opens, do_is_deep, do_test_opens, do_too_deep, else_opens, evaluation_too_deep, first_stmt_opens, for_body_opens, for_decl_opens, for_first_opens, for_is_deep, for_step_opens, for_test_opens, group_labels_open, group_stmts_open, if_body_opens, later_group_opens, later_stmt_opens, return_too_deep, switch_groups_open, switch_test_opens, while_body_opens}
use Rattle.c_syntax_printing.proofs.openings.a_body_opens_past_the_limits.Goals as goal

pub returns : goal.returns
returns g = record {
  if_body_opens = λ at p n d e t o c i j r. if_body_opens {at = at} {p = p} {n = n} {d = d} {e = e} {t = t} {o = o} {c = c} {i = i} {j = j} {r = r};
  while_body_opens = λ at p n d e t o c i j r. while_body_opens {at = at} {p = p} {n = n} {d = d} {e = e} {t = t} {o = o} {c = c} {i = i} {j = j} {r = r};
  else_opens = λ at p n d e s t o c u i j k r. else_opens {at = at} {p = p} {n = n} {d = d} {e = e} {s = s} {t = t} {o = o} {c = c} {u = u} {i = i} {j = j} {k = k} {r = r};
  do_body_opens = λ at p n t i r. do_body_opens {at = at} {p = p} {n = n} {t = t} {i = i} {r = r};
  do_test_opens = λ at p n d s t u o i j r. do_test_opens {at = at} {p = p} {n = n} {d = d} {s = s} {t = t} {u = u} {o = o} {i = i} {j = j} {r = r};
  for_first_opens = λ at p n t o i r. for_first_opens {at = at} {p = p} {n = n} {t = t} {o = o} {i = i} {r = r};
  for_decl_opens = λ at p n t o i r. for_decl_opens {at = at} {p = p} {n = n} {t = t} {o = o} {i = i} {r = r};
  for_test_opens = λ at p n d f t o i j r. for_test_opens {at = at} {p = p} {n = n} {d = d} {f = f} {t = t} {o = o} {i = i} {j = j} {r = r};
  for_step_opens = λ at p n d f e t o u i j k r. for_step_opens {at = at} {p = p} {n = n} {d = d} {f = f} {e = e} {t = t} {o = o} {u = u} {i = i} {j = j} {k = k} {r = r};
  for_body_opens = λ at p n d f e y t o u c i j k l r. for_body_opens {at = at} {p = p} {n = n} {d = d} {f = f} {e = e} {y = y} {t = t} {o = o} {u = u} {c = c} {i = i} {j = j} {k = k} {l = l} {r = r};
  switch_test_opens = λ at p n t o i r. switch_test_opens {at = at} {p = p} {n = n} {t = t} {o = o} {i = i} {r = r};
  switch_groups_open = λ at p n d e t o c l i j r. switch_groups_open {at = at} {p = p} {n = n} {d = d} {e = e} {t = t} {o = o} {c = c} {l = l} {i = i} {j = j} {r = r};
  case_opens = λ at p n t i r. case_opens {at = at} {p = p} {n = n} {t = t} {i = i} {r = r};
  after_case_opens = λ at p n d e t c i j r. after_case_opens {at = at} {p = p} {n = n} {d = d} {e = e} {t = t} {c = c} {i = i} {j = j} {r = r};
  after_default_opens = λ at p n t c j r. after_default_opens {at = at} {p = p} {n = n} {t = t} {c = c} {j = j} {r = r};
  first_stmt_opens = λ at p n i r. first_stmt_opens {at = at} {p = p} {n = n} {i = i} {r = r};
  later_stmt_opens = λ at p n d s i j r. later_stmt_opens {at = at} {p = p} {n = n} {d = d} {s = s} {i = i} {j = j} {r = r};
  group_labels_open = λ at p n i r. group_labels_open {at = at} {p = p} {n = n} {i = i} {r = r};
  group_stmts_open = λ at p n d ls i j r. group_stmts_open {at = at} {p = p} {n = n} {d = d} {ls = ls} {i = i} {j = j} {r = r};
  later_group_opens = λ at p n d ls ss i j k r. later_group_opens {at = at} {p = p} {n = n} {d = d} {ls = ls} {ss = ss} {i = i} {j = j} {k = k} {r = r};
  do_too_deep = λ p t i. do_too_deep {p = p} {t = t} {i = i};
  break_too_deep = λ p t i. break_too_deep {p = p} {t = t} {i = i};
  continue_too_deep = λ p t i. continue_too_deep {p = p} {t = t} {i = i};
  return_too_deep = λ p t i. return_too_deep {p = p} {t = t} {i = i};
  evaluation_too_deep = λ p u i. evaluation_too_deep {p = p} {u = u} {i = i};
  do_is_deep = λ at p t i. do_is_deep {at = at} {p = p} {t = t} {i = i};
  for_is_deep = λ at p t i. for_is_deep {at = at} {p = p} {t = t} {i = i};
}
