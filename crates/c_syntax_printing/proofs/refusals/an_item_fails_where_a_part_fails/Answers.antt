use Rattle.c_syntax_printing.proofs.ItemFails.{bare_enum_fails, body_fails, declarators_unclosed, enum_closes, enum_closes_after_comma, enum_goes_on, enum_nameless, enum_tagless, enum_unclosed, enumerator_fails, enumerator_value_fails, first_declarator_fails, first_declarator_leads, member_fails, member_leads, members_close, more_members_fail, next_declarator_fails, no_body_fails, no_value_fails, other_enum_fails, other_fails, other_struct_fails, struct_fails, struct_nameless, tagged_enum_fails}
use Rattle.c_syntax_printing.proofs.refusals.an_item_fails_where_a_part_fails.Goals as goal

pub returns : goal.returns
returns g = record {
  first_declarator_fails = λ b i r. first_declarator_fails {b = b} {i = i} {r = r};
  first_declarator_leads = λ b c i j r. first_declarator_leads {b = b} {c = c} {i = i} {j = j} {r = r};
  declarators_unclosed = λ b i. declarators_unclosed {b = b} i;
  next_declarator_fails = λ b t i r. next_declarator_fails {b = b} {t = t} {i = i} {r = r};
  member_fails = λ b i r. member_fails {b = b} {i = i} {r = r};
  member_leads = λ b c i j r. member_leads {b = b} {c = c} {i = i} {j = j} {r = r};
  more_members_fail = λ b i r. more_members_fail {b = b} {i = i} {r = r};
  members_close = λ b t i r. members_close {b = b} {t = t} {i = i} {r = r};
  struct_fails = λ b t n l i r. struct_fails {b = b} {t = t} {n = n} {l = l} {i = i} {r = r};
  struct_nameless = λ b t i. struct_nameless {b = b} {t = t} i;
  enum_nameless = λ b i. enum_nameless {b = b} i;
  enumerator_fails = λ b t i r. enumerator_fails {b = b} {t = t} {i = i} {r = r};
  enumerator_value_fails = λ b t i r. enumerator_value_fails {b = b} {t = t} {i = i} {r = r};
  no_value_fails = λ b i r. no_value_fails {b = b} {i = i} {r = r};
  enum_unclosed = λ b i. enum_unclosed {b = b} i;
  enum_closes = λ b t i r. enum_closes {b = b} {t = t} {i = i} {r = r};
  enum_closes_after_comma = λ b t u i r. enum_closes_after_comma {b = b} {t = t} {u = u} {i = i} {r = r};
  enum_goes_on = λ b t i r. enum_goes_on {b = b} {t = t} {i = i} {r = r};
  enum_tagless = λ b t i. enum_tagless {b = b} {t = t} i;
  bare_enum_fails = λ b t l i r. bare_enum_fails {b = b} {t = t} {l = l} {i = i} {r = r};
  tagged_enum_fails = λ b t n l i r. tagged_enum_fails {b = b} {t = t} {n = n} {l = l} {i = i} {r = r};
  other_fails = λ b i r. other_fails {b = b} {i = i} {r = r};
  other_struct_fails = λ b t k r. other_struct_fails {b = b} {t = t} {k = k} {r = r};
  other_enum_fails = λ b t k r. other_enum_fails {b = b} {t = t} {k = k} {r = r};
  body_fails = λ b t i r. body_fails {b = b} {t = t} {i = i} {r = r};
  no_body_fails = λ b i r. no_body_fails {b = b} {i = i} {r = r};
}
