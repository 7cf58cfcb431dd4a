use Rattle.std.proofs.Common.{List, ◌≤◌, length}
use Rattle.c_lexer.specs.declared.token.Token.{Token}
use Rattle.c_syntax.specs.Specifiers.{Consts}
use Rattle.c_parser_phrases.proofs.cursor.Cursor.consts.Given as goal

abbrev pub invariant-loop : goal.invariant-loop
invariant-loop l = record {
  reads : (k : List Token) → Consts l.self.rest.now k → Consts l.fn.self.rest.now k;
  shorter : length l.self.rest.now ≤ length l.fn.self.rest.now;
}

abbrev pub decreases-loop : goal.decreases-loop
decreases-loop l = length l.self.rest.now
