use Rattle.c_syntax_printing.proofs.DeclForms.{no_assign_fails}
use Rattle.c_syntax_printing.proofs.PartFails.{case_fails, default_fails, do_needs_two, else_fails, first_decl_fails, first_expr_fails, for_needs_two, if_needs_two, item_decl_fails, item_stmt_fails, labels_end_fails, maybe_fails, more_labels_fail, next_part_fails, no_decl_left, no_labels_begin, no_stmt_begins, no_stmt_left, parts_unclosed, switch_needs_two, while_needs_two}
use Rattle.c_syntax_printing.proofs.refusals.labels_and_heads_fail_where_a_part_fails.Goals as goal

pub returns : goal.returns
returns g = record {
  default_fails = λ b t i r. default_fails {b = b} {t = t} {i = i} {r = r};
  case_fails = λ b t i r. case_fails {b = b} {t = t} {i = i} {r = r};
  no_labels_begin = λ b i. no_labels_begin {b = b} i;
  more_labels_fail = λ b i r. more_labels_fail {b = b} {i = i} {r = r};
  labels_end_fails = λ b i. labels_end_fails {b = b} i;
  maybe_fails = λ b i r end. maybe_fails {b = b} {i = i} {r = r} end;
  first_decl_fails = λ b i r. first_decl_fails {b = b} {i = i} {r = r};
  first_expr_fails = λ b i r. first_expr_fails {b = b} {i = i} {r = r};
  no_stmt_left = λ p i. no_stmt_left {p = p} i;
  no_stmt_begins = λ b i. no_stmt_begins {b = b} i;
  if_needs_two = λ p t i. if_needs_two {p = p} {t = t} {i = i};
  while_needs_two = λ p t i. while_needs_two {p = p} {t = t} {i = i};
  do_needs_two = λ p t i. do_needs_two {p = p} {t = t} {i = i};
  for_needs_two = λ p t i. for_needs_two {p = p} {t = t} {i = i};
  switch_needs_two = λ p t i. switch_needs_two {p = p} {t = t} {i = i};
  item_decl_fails = λ b i r. item_decl_fails {b = b} {i = i} {r = r};
  item_stmt_fails = λ b i r. item_stmt_fails {b = b} {i = i} {r = r};
  else_fails = λ b t i r. else_fails {b = b} {t = t} {i = i} {r = r};
  no_decl_left = λ p i. no_decl_left {p = p} i;
  parts_unclosed = λ b i. parts_unclosed {b = b} i;
  next_part_fails = λ b t i r. next_part_fails {b = b} {t = t} {i = i} {r = r};
  no_assign_fails = λ b i r. no_assign_fails b {i = i} {r = r};
}
