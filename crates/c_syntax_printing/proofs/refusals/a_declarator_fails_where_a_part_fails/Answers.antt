use Rattle.c_syntax_printing.proofs.DeclaratorFails.{array_fails, bare_fails, bare_later_fails, bare_too_high, declarator_fails_as, declarator_tail_fails, function_fails, lengthened_fails, lengthened_too_high, lengthens_wrong, named_fails, nameless_fails, names_carry, no_declarator_left, no_pair_for_declarator, no_pair_for_name, nothing_inside, pointer_fails, size_fails, type_fails}
use Rattle.c_syntax_printing.specs.Declarators.{Suited}
use Rattle.c_syntax_printing.proofs.refusals.a_declarator_fails_where_a_part_fails.Goals as goal

pub returns : goal.returns
returns g = record {
  declarator_fails_as = λ b i r. declarator_fails_as {b = b} {i = i} {r = r};
  pointer_fails = λ w b t i r. pointer_fails {N = Suited w} {b = b} {t = t} {i = i} {r = r};
  no_declarator_left = λ w p i. no_declarator_left {N = Suited w} {p = p} i;
  named_fails = λ w b i. named_fails {N = Suited w} {b = b} i;
  nameless_fails = λ w b i. nameless_fails {N = Suited w} {b = b} i;
  names_carry = λ w. names_carry w;
  declarator_tail_fails = λ w b t i r. declarator_tail_fails {N = Suited w} {b = b} {t = t} {i = i} {r = r};
  nothing_inside = λ w b t i. nothing_inside {N = Suited w} {b = b} {t = t} {i = i};
  no_pair_for_declarator = λ w n t i. no_pair_for_declarator {N = Suited w} {n = n} {t = t} {i = i};
  no_pair_for_name = λ w n t i. no_pair_for_name {N = Suited w} {n = n} {t = t} {i = i};
  lengthened_fails = λ w b d e i j r. lengthened_fails {N = Suited w} {b = b} {d = d} {e = e} {i = i} {j = j} {r = r};
  lengthened_too_high = λ w p n d e i j. lengthened_too_high {N = Suited w} {p = p} {n = n} {d = d} {e = e} {i = i} {j = j};
  bare_fails = λ w b i r. bare_fails {N = Suited w} {b = b} {i = i} {r = r};
  bare_later_fails = λ w b d e i j r. bare_later_fails {N = Suited w} {b = b} {d = d} {e = e} {i = i} {j = j} {r = r};
  bare_too_high = λ w p n d e i j. bare_too_high {N = Suited w} {p = p} {n = n} {d = d} {e = e} {i = i} {j = j};
  lengthens_wrong = λ b i. lengthens_wrong {b = b} i;
  array_fails = λ b t i r. array_fails {b = b} {t = t} {i = i} {r = r};
  size_fails = λ b i r. size_fails {b = b} {i = i} {r = r};
  function_fails = λ b t i r. function_fails {b = b} {t = t} {i = i} {r = r};
  type_fails = λ b i r. type_fails {b = b} {i = i} {r = r};
}
