use Rattle.c_syntax_printing.proofs.MemberOpens.{enum_opens, enumerator_value_opens, first_declarator_opens, first_member_opens, later_declarator_opens, later_enumerator_opens, later_member_opens, struct_opens}
use Rattle.c_syntax_printing.proofs.UnitOpens.{item_body_opens, item_parts_open}
use Rattle.c_syntax_printing.proofs.openings.an_item_opens_past_the_limits.Goals as goal

pub returns : goal.returns
returns g = record {
  first_declarator_opens = λ at p n i r. first_declarator_opens {at = at} {p = p} {n = n} {i = i} {r = r};
  later_declarator_opens = λ at p n d e t i j r. later_declarator_opens {at = at} {p = p} {n = n} {d = d} {e = e} {t = t} {i = i} {j = j} {r = r};
  first_member_opens = λ at p n s i j r. first_member_opens {at = at} {p = p} {n = n} {s = s} {i = i} {j = j} {r = r};
  later_member_opens = λ at p n d s es t i j k r. later_member_opens {at = at} {p = p} {n = n} {d = d} {s = s} {es = es} {t = t} {i = i} {j = j} {k = k} {r = r};
  struct_opens = λ at p n x t u l i r. struct_opens {at = at} {p = p} {n = n} {x = x} {t = t} {u = u} {l = l} {i = i} {r = r};
  enumerator_value_opens = λ at p n x t u i r. enumerator_value_opens {at = at} {p = p} {n = n} {x = x} {t = t} {u = u} {i = i} {r = r};
  later_enumerator_opens = λ at p n d x e t u i j r. later_enumerator_opens {at = at} {p = p} {n = n} {d = d} {x = x} {e = e} {t = t} {u = u} {i = i} {j = j} {r = r};
  enum_opens = λ at p n z t l i j r. enum_opens {at = at} {p = p} {n = n} {z = z} {t = t} {l = l} {i = i} {j = j} {r = r};
  item_parts_open = λ at p n st s i j k r. item_parts_open {at = at} {p = p} {n = n} {st = st} {s = s} {i = i} {j = j} {k = k} {r = r};
  item_body_opens = λ at p n d st s e t i j k m r. item_body_opens {at = at} {p = p} {n = n} {d = d} {st = st} {s = s} {e = e} {t = t} {i = i} {j = j} {k = k} {m = m} {r = r};
}
