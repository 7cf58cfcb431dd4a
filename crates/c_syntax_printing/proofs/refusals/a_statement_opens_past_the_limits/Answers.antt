use Rattle.c_syntax_printing.proofs.StmtOpens.{after_decl_opens, after_stmt_opens, block_opens, block_too_deep, evaluation_opens, for_too_deep, if_is_deep, if_test_opens, if_too_deep, item_decl_opens, item_stmt_opens, return_opens, semicolon_too_deep, switch_is_deep, switch_too_deep, while_is_deep, while_test_opens, while_too_deep}
use Rattle.c_syntax_printing.proofs.refusals.a_statement_opens_past_the_limits.Goals as goal

pub returns : goal.returns
returns g = record {
  semicolon_too_deep = λ p t i. semicolon_too_deep {p = p} {t = t} {i = i};
  block_too_deep = λ p t i. block_too_deep {p = p} {t = t} {i = i};
  if_too_deep = λ p t i. if_too_deep {p = p} {t = t} {i = i};
  while_too_deep = λ p t i. while_too_deep {p = p} {t = t} {i = i};
  for_too_deep = λ p t i. for_too_deep {p = p} {t = t} {i = i};
  switch_too_deep = λ p t i. switch_too_deep {p = p} {t = t} {i = i};
  if_is_deep = λ at p t i. if_is_deep {at = at} {p = p} {t = t} {i = i};
  while_is_deep = λ at p t i. while_is_deep {at = at} {p = p} {t = t} {i = i};
  switch_is_deep = λ at p t i. switch_is_deep {at = at} {p = p} {t = t} {i = i};
  if_test_opens = λ at p n t o i r. if_test_opens {at = at} {p = p} {n = n} {t = t} {o = o} {i = i} {r = r};
  while_test_opens = λ at p n t o i r. while_test_opens {at = at} {p = p} {n = n} {t = t} {o = o} {i = i} {r = r};
  evaluation_opens = λ at p n i r. evaluation_opens {at = at} {p = p} {n = n} {i = i} {r = r};
  return_opens = λ at p n t i r. return_opens {at = at} {p = p} {n = n} {t = t} {i = i} {r = r};
  block_opens = λ at p n t i r. block_opens {at = at} {p = p} {n = n} {t = t} {i = i} {r = r};
  item_stmt_opens = λ at p n i r. item_stmt_opens {at = at} {p = p} {n = n} {i = i} {r = r};
  item_decl_opens = λ at p n i r. item_decl_opens {at = at} {p = p} {n = n} {i = i} {r = r};
  after_stmt_opens = λ at p n d s i j r. after_stmt_opens {at = at} {p = p} {n = n} {d = d} {s = s} {i = i} {j = j} {r = r};
  after_decl_opens = λ at p n d x i j r. after_decl_opens {at = at} {p = p} {n = n} {d = d} {x = x} {i = i} {j = j} {r = r};
}
