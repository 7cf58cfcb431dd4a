use Rattle.std.proofs.Common.{◌<◌, ℕ, List, length}
use Rattle.c_lexer.specs.declared.token.Token.{Token}
use Rattle.c_syntax_printing.specs.Opens.{Opens}
use Rattle.c_syntax_printing.specs.Deep.{DeepMembers}
use Rattle.c_syntax_printing.specs.Fails.{Fails}
use Rattle.c_syntax_printing.specs.Phrases.{Bound}
use Rattle.c_syntax_printing.specs.Items.{InStruct, MembersRest}
use Rattle.c_parser.specs.Lists.{Goes, Rest}
use Rattle.c_parser.specs.Parsed.{AreMembers}
use Rattle.c_parser.proofs.items.members.Given as goal

abbrev pub invariant-next : goal.invariant-next
invariant-next l = record {
  goes : Goes (AreMembers l.room) (Rest (AreMembers l.room)) l.members.items l.fn.cursor.rest.now l.cursor.rest.now;
  leads : (x : Bound) (r : List Token) → Fails (MembersRest x) l.cursor.rest.now r → Fails (InStruct x) l.fn.cursor.rest.now r;
  opens : (at n : ℕ) (q : List Token) → Opens (DeepMembers at l.room.pairs n) l.cursor.rest.now q → Opens (DeepMembers at l.room.pairs n) l.fn.cursor.rest.now q;
  shorter : length l.cursor.rest.now < length l.fn.cursor.rest.now;
}

abbrev pub decreases-next : goal.decreases-next
decreases-next l = length l.cursor.rest.now
