use Rattle.std.proofs.Common.{arith}
use Rattle.c_lexer.specs.TokenSpelling.{nothing}
use Rattle.c_lexer.proofs.lexer.read_tokens.Goals as goal
use Rattle.c_lexer.proofs.LexerLemmas.{read_more}

pub loop-at-init : goal.loop-at-init
loop-at-init c = record { within = omega arith; reads = rw c.new-tokens.ensures.items nothing }

pub loop-at-preserved : goal.loop-at-preserved
loop-at-preserved c = record { within = c.in_ok-at.ensures.taken.within; reads = read_more _ _ _ _ _ c.loop-at.invariant.reads c.in_ok-at.ensures.taken }
