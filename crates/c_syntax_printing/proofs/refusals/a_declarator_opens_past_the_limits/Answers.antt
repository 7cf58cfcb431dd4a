use Rattle.c_syntax_printing.proofs.DeclOpens.{array_too_high, declarator_parentheses_open, function_too_high, lengthens_open, named_too_deep, pointer_opens, pointer_too_deep, size_opens, type_opens}
use Rattle.c_syntax_printing.proofs.InitOpens.{first_init_opens, init_list_opens, init_value_opens, later_init_opens, list_too_deep}
use Rattle.c_syntax_printing.specs.Declarators.{Suited}
use Rattle.c_syntax_printing.proofs.refusals.a_declarator_opens_past_the_limits.Goals as goal

pub returns : goal.returns
returns g = record {
  type_opens = λ at p n s i j r. type_opens {at = at} {p = p} {n = n} {s = s} {i = i} {j = j} {r = r};
  pointer_opens = λ w at p n t i j r. pointer_opens {N = Suited w} {at = at} {p = p} {n = n} {t = t} {i = i} {j = j} {r = r};
  pointer_too_deep = λ w p t i. pointer_too_deep {N = Suited w} {p = p} {t = t} {i = i};
  named_too_deep = λ w p x t i. named_too_deep {N = Suited w} {p = p} {x = x} {t = t} {i = i};
  declarator_parentheses_open = λ w at p n t i r. declarator_parentheses_open {N = Suited w} {at = at} {p = p} {n = n} {t = t} {i = i} {r = r};
  lengthens_open = λ w at p n q e i j r. lengthens_open {N = Suited w} {at = at} {p = p} {n = n} {q = q} {e = e} {i = i} {j = j} {r = r};
  size_opens = λ w at p n q a t i r. size_opens {N = Suited w} {at = at} {p = p} {n = n} {q = q} {a = a} {t = t} {i = i} {r = r};
  array_too_high = λ w at p n q a t i. array_too_high {N = Suited w} {at = at} {p = p} {n = n} {q = q} {a = a} {t = t} {i = i};
  function_too_high = λ w at p n q a t i. function_too_high {N = Suited w} {at = at} {p = p} {n = n} {q = q} {a = a} {t = t} {i = i};
  init_value_opens = λ at p n i r. init_value_opens {at = at} {p = p} {n = n} {i = i} {r = r};
  list_too_deep = λ p t i. list_too_deep {p = p} {t = t} {i = i};
  init_list_opens = λ at p n t i r. init_list_opens {at = at} {p = p} {n = n} {t = t} {i = i} {r = r};
  first_init_opens = λ at p n i r. first_init_opens {at = at} {p = p} {n = n} {i = i} {r = r};
  later_init_opens = λ at p n d a t i j r. later_init_opens {at = at} {p = p} {n = n} {d = d} {a = a} {t = t} {i = i} {j = j} {r = r};
}
