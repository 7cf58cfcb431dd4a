use Rattle.c_syntax_printing.proofs.PrefixFails.{cast_bare, no_node_left, no_operand, no_pair_left, past_there, sizeof_fails, sizeof_operand, sizeof_type_fails, step_fails, string_follows, suffix_after_type, unary_bare, unary_fails}
use Rattle.c_syntax_printing.proofs.refusals.an_operand_fails_at_its_first_token.Goals as goal

pub returns : goal.returns
returns g = record {
  no_operand = λ b i. no_operand {b = b} i;
  string_follows = λ b d e i j. string_follows {b = b} {d = d} {e = e} {i = i} {j = j};
  no_node_left = λ p l i. no_node_left {p = p} {l = l} i;
  no_pair_left = λ n t i. no_pair_left {n = n} {t = t} {i = i};
  unary_bare = λ b i r. unary_bare {b = b} {i = i} {r = r};
  step = λ b t i r p. step_fails {b = b} {t = t} {i = i} {r = r} p;
  operator = λ b op t i r. unary_fails {b = b} {op = op} {t = t} {i = i} {r = r};
  after_sizeof = λ b t i r. sizeof_fails {b = b} {t = t} {i = i} {r = r};
  sizeof_operand = λ b i r. sizeof_operand {b = b} {i = i} {r = r};
  sizeof_type_fails = λ b t i r. sizeof_type_fails {b = b} {t = t} {i = i} {r = r};
  suffix_after_type = λ i. suffix_after_type i;
  cast_bare = λ b i r. cast_bare {b = b} {i = i} {r = r};
  parenthesis_is_left = λ b i r. past_there {b = b} {i = i} {r = r};
}
