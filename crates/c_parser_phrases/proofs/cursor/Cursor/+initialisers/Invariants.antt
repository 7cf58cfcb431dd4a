use Rattle.std.proofs.Common.{◌≤◌, ◌<◌, ◌+◌, ◌*◌, ℕ, List, length}
use Rattle.c_parser_phrases.specs.Reading.{OpensInits, OpensInitMore}
use Rattle.c_lexer.specs.declared.token.Token.{Token}
use Rattle.c_syntax.specs.Limits.{height_of_inits}
use Rattle.c_syntax.specs.Statements.{ReadsInits}
use Rattle.c_syntax.specs.WritesUnit.{inits_of}
use Rattle.c_syntax_printing.specs.Fails.{Fails}
use Rattle.c_syntax_printing.specs.Phrases.{Bound}
use Rattle.c_syntax_printing.specs.Initialisers.{InList, ListEnd}
use Rattle.c_parser_phrases.proofs.cursor.Cursor.+initialisers.Given as goal

abbrev pub decreases-initialiser : goal.decreases-initialiser
decreases-initialiser l = 2 * length l.self.now.rest.now

abbrev pub decreases-initialisers : goal.decreases-initialisers
decreases-initialisers l = 2 * length l.self.now.rest.now + 1

abbrev pub invariant-initialisers-loop-list : goal.invariant-initialisers-loop-list
invariant-initialisers-loop-list l = record {
  reads : ReadsInits l.room.pairs (inits_of l.list.items) l.fn.self.rest.now l.self.rest.now;
  leads : (b : Bound) (r : List Token) → Fails (ListEnd b) l.self.rest.now r → Fails (InList b) l.fn.self.rest.now r;
  opens : (at : ℕ) (r : List Token) → OpensInitMore at l.room.pairs l.room.nodes l.self.rest.now r → OpensInits at l.room.pairs l.room.nodes l.fn.self.rest.now r;
  fits : height_of_inits (inits_of l.list.items) ≤ l.room.nodes;
  shorter : length l.self.rest.now < length l.fn.self.rest.now;
}

abbrev pub decreases-initialisers-loop-list : goal.decreases-initialisers-loop-list
decreases-initialisers-loop-list l = length l.self.rest.now
