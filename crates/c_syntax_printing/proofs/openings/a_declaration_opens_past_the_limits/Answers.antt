use Rattle.c_syntax_printing.proofs.PartOpens.{decl_is_deep, decl_opens, first_param_opens, later_param_opens, next_part_opens, part_declarator_opens, part_init_opens}
use Rattle.c_syntax_printing.proofs.openings.a_declaration_opens_past_the_limits.Goals as goal

pub returns : goal.returns
returns g = record {
  first_param_opens = λ at p n s i j r. first_param_opens {at = at} {p = p} {n = n} {s = s} {i = i} {j = j} {r = r};
  later_param_opens = λ at p n d s e t i j k r. later_param_opens {at = at} {p = p} {n = n} {d = d} {s = s} {e = e} {t = t} {i = i} {j = j} {k = k} {r = r};
  part_declarator_opens = λ at p n i r. part_declarator_opens {at = at} {p = p} {n = n} {i = i} {r = r};
  part_init_opens = λ at p n d e t i j r. part_init_opens {at = at} {p = p} {n = n} {d = d} {e = e} {t = t} {i = i} {j = j} {r = r};
  next_part_opens = λ at p n d e v t i j k r. next_part_opens {at = at} {p = p} {n = n} {d = d} {e = e} {v = v} {t = t} {i = i} {j = j} {k = k} {r = r};
  decl_opens = λ at p n s i j r. decl_opens {at = at} {p = p} {n = n} {s = s} {i = i} {j = j} {r = r};
  decl_is_deep = λ at p u i. decl_is_deep {at = at} {p = p} {u = u} {i = i};
}
