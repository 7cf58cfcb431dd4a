use Rattle.c_lexer.specs.declared.keyword.TheConstants.{CONST}
use Rattle.std.proofs.Common.{ap, arith, length}
use Rattle.c_syntax.specs.Specifiers.{no_const}
use Rattle.c_parser_phrases.proofs.Words.{const_taken, consts_end}
use Rattle.c_parser_phrases.proofs.RefusalsOfSpecifiers.{word_from}
use Rattle.std.proofs.Common.{sym}
use Rattle.c_parser_phrases.proofs.cursor.Cursor.consts.Goals as goal

pub loop-preserved : goal.loop-preserved
loop-preserved c = record {
  reads = λ k r. c.loop.invariant.reads k (const_taken c.loop-test.ensures.1 c.loop-test.ensures.2 r);
  shorter = omega (arith, ap length c.loop-test.ensures.2, c.loop.invariant.shorter);
}

pub returns-clause-took : goal.returns-clause-took
returns-clause-took c = consts_end c.loop-test.ensures.1 (c.loop.invariant.reads _ no_const)

pub returns-clause-ends : goal.returns-clause-ends
returns-clause-ends c = word_from CONST (sym c.loop-test.ensures.1) c.loop-test.ensures.0
