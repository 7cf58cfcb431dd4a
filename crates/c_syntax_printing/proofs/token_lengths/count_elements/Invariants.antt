use Rattle.std.proofs.Common.{drop}
use Rattle.c_syntax_printing.proofs.TokenLengths.{IsLeft}
use Rattle.c_syntax_printing.proofs.token_lengths.count_elements.Given as goal

abbrev pub invariant-loop-byte : goal.invariant-loop-byte
invariant-loop-byte l = IsLeft l.fn.total l.bytes l.total (drop l.byte-index l.bytes) l.quote
