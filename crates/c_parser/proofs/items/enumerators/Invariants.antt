use Rattle.std.proofs.Common.{◌≡◌, ◌<◌, ℕ, List, ◌∷◌, length}
use Rattle.c_lexer.specs.declared.token.Token.{Token}
use Rattle.c_syntax_printing.specs.Opens.{Opens}
use Rattle.c_syntax_printing.specs.Deep.{DeepEnumerators}
use Rattle.c_lexer.specs.declared.punctuator.TheConstants.{COMMA}
use Rattle.c_syntax.specs.Tokens.{Is}
use Rattle.c_syntax_printing.specs.Fails.{Fails}
use Rattle.c_syntax_printing.specs.Phrases.{Bound}
use Rattle.c_syntax_printing.specs.Items.{InEnum, EnumEnd}
use Rattle.c_parser.specs.Lists.{Goes, RestAfterComma}
use Rattle.c_parser.specs.Parsed.{AreEnumerators}
use Rattle.c_parser.proofs.items.enumerators.Given as goal

abbrev pub invariant-next : goal.invariant-next
invariant-next l = record {
  goes : Goes (AreEnumerators l.room) (RestAfterComma (AreEnumerators l.room)) l.list.items l.fn.cursor.rest.now l.cursor.rest.now;
  leads : (x : Bound) (r : List Token) → Fails (EnumEnd x) l.cursor.rest.now r → Fails (InEnum x) l.fn.cursor.rest.now r;
  opens : (at n : ℕ) (t : Token) (m q : List Token) → l.cursor.rest.now ≡ t ∷ m → Is COMMA t → Opens (DeepEnumerators at l.room.pairs n) m q → Opens (DeepEnumerators at l.room.pairs n) l.fn.cursor.rest.now q;
  shorter : length l.cursor.rest.now < length l.fn.cursor.rest.now;
}

abbrev pub decreases-next : goal.decreases-next
decreases-next l = length l.cursor.rest.now
