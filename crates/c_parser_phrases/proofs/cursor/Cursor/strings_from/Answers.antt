use Rattle.std.proofs.Common.{arith}
use Rattle.c_syntax.specs.Grammar.{last_string}
use Rattle.c_parser_phrases.proofs.Words.{string_added, string_shorter, string_ended}
use Rattle.c_parser_phrases.proofs.cursor.Cursor.strings_from.Goals as goal

pub loop-init : goal.loop-init
loop-init c = record { reads = λ t h. last_string h; shorter = omega arith }

pub loop-preserved : goal.loop-preserved
loop-preserved c = record {
  reads = string_added c.in_ok-string.field-0 c.if-branch.true c.in_ok-string.ensures c.loop.invariant.reads;
  shorter = omega (arith, string_shorter _ _ _ _ c.in_ok-string.field-0 c.if-branch.true c.in_ok-string.ensures, c.loop.invariant.shorter);
}

pub returns-clause-ends : goal.returns-clause-ends
returns-clause-ends c = string_ended _ _ _ _ c.in_ok-string.field-0 c.if-branch.false c.in_ok-string.ensures
