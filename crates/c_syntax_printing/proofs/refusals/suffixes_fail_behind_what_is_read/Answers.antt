use Rattle.c_syntax_printing.proofs.SuffixFails.{arguments_fail, call_fails, postfixed_fails, postfixed_too_high, string_after_suffixes}
use Rattle.c_syntax_printing.proofs.refusals.suffixes_fail_behind_what_is_read.Goals as goal

pub returns : goal.returns
returns g = record {
  postfixed_fails = λ b d e i j r. postfixed_fails {b = b} {d = d} {e = e} {i = i} {j = j} {r = r};
  string_after_suffixes = λ b d e i j. string_after_suffixes {b = b} {d = d} {e = e} {i = i} {j = j};
  postfixed_too_high = λ p n d e i j. postfixed_too_high {p = p} {n = n} {d = d} {e = e} {i = i} {j = j};
  arguments_fail = λ b i r. arguments_fail {b = b} {i = i} {r = r};
  call_fails = λ b t i r. call_fails {b = b} {t = t} {i = i} {r = r};
}
