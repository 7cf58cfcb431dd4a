use Rattle.std.proofs.Common.{map}
use Rattle.c_lexer.proofs.MarkLemmas.{IsLongestSoFar}
use Rattle.c_lexer.proofs.words.longest_front.Given as goal

abbrev pub invariant-loop-number : goal.invariant-loop-number
invariant-loop-number l = IsLongestSoFar (map (λ word. word.now) l.words) l.text l.number l.longest l.length
