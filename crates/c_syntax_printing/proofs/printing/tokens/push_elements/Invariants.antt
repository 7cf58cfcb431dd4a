use Rattle.std.proofs.Common.{◌≡◌, ◌++◌, drop}
use Rattle.c_syntax.specs.Text.{elements_text}
use Rattle.c_syntax_printing.proofs.printing.tokens.push_elements.Given as goal

abbrev pub invariant-loop-byte : goal.invariant-loop-byte
invariant-loop-byte l = l.out.items ++ elements_text l.quote (drop l.byte-index l.bytes) ≡ l.fn.out.items ++ elements_text l.quote l.bytes
