use Rattle.c_syntax_printing.proofs.SpecFails.{char_fails, consts_fail, end_fails, enum_fails, int_fails, no_tag_follows, no_words, signed_bare, signed_fails, signed_int, struct_fails, unsigned_bare, unsigned_char_fails, unsigned_fails, unsigned_int_fails, void_fails}
use Rattle.c_syntax_printing.proofs.refusals.specifiers_fail_where_a_word_fails.Goals as goal

pub returns : goal.returns
returns g = record {
  consts_fail = λ h i r. consts_fail {h = h} {i = i} {r = r};
  after_void = λ t i r. void_fails {t = t} {i = i} {r = r};
  after_char = λ t i r. char_fails {t = t} {i = i} {r = r};
  after_int = λ t i r. int_fails {t = t} {i = i} {r = r};
  after_signed = λ t i r. signed_fails {t = t} {i = i} {r = r};
  after_unsigned = λ t i r. unsigned_fails {t = t} {i = i} {r = r};
  after_struct = λ t i r. struct_fails {t = t} {i = i} {r = r};
  after_enum = λ t i r. enum_fails {t = t} {i = i} {r = r};
  signed_bare = λ i j r. signed_bare {i = i} {j = j} {r = r};
  signed_int = λ t i j r. signed_int {t = t} {i = i} {j = j} {r = r};
  unsigned_bare = λ i j r. unsigned_bare {i = i} {j = j} {r = r};
  unsigned_int = λ t i j r. unsigned_int_fails {t = t} {i = i} {j = j} {r = r};
  unsigned_char = λ t i j r. unsigned_char_fails {t = t} {i = i} {j = j} {r = r};
  end_fails = λ i j. end_fails {i = i} {j = j};
  no_tag_follows = λ i. no_tag_follows i;
  no_words = λ i. no_words i;
}
