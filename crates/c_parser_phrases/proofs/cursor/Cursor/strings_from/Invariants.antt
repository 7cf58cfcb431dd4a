use Rattle.std.proofs.Common.{◌≤◌, length}
use Rattle.c_parser_phrases.specs.Standing.{TookStrings}
use Rattle.c_parser_phrases.proofs.cursor.Cursor.strings_from.Given as goal

abbrev pub invariant-loop : goal.invariant-loop
invariant-loop l = record {
  reads : TookStrings l.fn.bytes.items l.bytes.items l.fn.self.rest.now l.self.rest.now;
  shorter : length l.self.rest.now ≤ length l.fn.self.rest.now;
}

abbrev pub decreases-loop : goal.decreases-loop
decreases-loop l = length l.self.rest.now
