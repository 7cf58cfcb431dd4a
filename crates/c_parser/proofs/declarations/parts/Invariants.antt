use Rattle.std.proofs.Common.{◌≡◌, ◌≤◌, ℕ, List, ◌∷◌, length}
use Rattle.c_lexer.specs.declared.token.Token.{Token}
use Rattle.c_lexer.specs.declared.punctuator.TheConstants.{COMMA}
use Rattle.c_syntax.specs.Tokens.{Is}
use Rattle.c_syntax_printing.specs.Opens.{Opens, DeepParts}
use Rattle.c_syntax.specs.View.{declarator_of}
use Rattle.c_parser_phrases.specs.Phrases.{HasDeclarator}
use Rattle.c_syntax_printing.specs.Fails.{Fails}
use Rattle.c_syntax_printing.specs.Phrases.{Bound}
use Rattle.c_syntax_printing.specs.Declarations.{PartsTail, PartsEnd}
use Rattle.c_parser.specs.Lists.{Goes, RestAfterComma}
use Rattle.c_parser.specs.Parsed.{AreParts}
use Rattle.c_parser.proofs.declarations.parts.Given as goal

abbrev pub invariant-next : goal.invariant-next
invariant-next l = record {
  goes : (start : List Token) → HasDeclarator l.room (declarator_of l.fn.first) start l.fn.cursor.rest.now → Goes (AreParts l.room) (RestAfterComma (AreParts l.room)) l.parts.items start l.cursor.rest.now;
  leads : (x : Bound) (r : List Token) → Fails (PartsEnd x) l.cursor.rest.now r → Fails (PartsTail x) l.fn.cursor.rest.now r;
  opens : (start : List Token) → HasDeclarator l.room (declarator_of l.fn.first) start l.fn.cursor.rest.now → (at n : ℕ) (t : Token) (m q : List Token) → l.cursor.rest.now ≡ t ∷ m → Is COMMA t → Opens (DeepParts at l.room.pairs n) m q → Opens (DeepParts at l.room.pairs n) start q;
  no_longer : length l.cursor.rest.now ≤ length l.fn.cursor.rest.now;
}

abbrev pub decreases-next : goal.decreases-next
decreases-next l = length l.cursor.rest.now
