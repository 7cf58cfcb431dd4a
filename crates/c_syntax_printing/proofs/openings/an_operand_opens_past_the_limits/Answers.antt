use Rattle.c_syntax_printing.proofs.ThirdPartOpens.{char_too_deep, no_opens}
use Rattle.c_syntax_printing.proofs.Begun.{expression_begins}
use Rattle.c_syntax_printing.proofs.openings.an_operand_opens_past_the_limits.Goals as goal

pub returns : goal.returns
returns g = record {
  char_too_deep = λ p c t i. char_too_deep {p = p} {c = c} {t = t} {i = i};
  no_opens = λ at p n d a b t u i j k r. no_opens {at = at} {p = p} {n = n} {d = d} {a = a} {b = b} {t = t} {u = u} {i = i} {j = j} {k = k} {r = r};
  expression_begins = λ d u. expression_begins {d = d} u;
}
