use Rattle.std.proofs.Common.{◌<◌, ℕ, List, length}
use Rattle.c_lexer.specs.declared.token.Token.{Token}
use Rattle.c_syntax_printing.specs.Opens.{Opens}
use Rattle.c_syntax_printing.specs.Deep.{DeepLabels}
use Rattle.c_syntax_printing.specs.Fails.{Fails}
use Rattle.c_syntax_printing.specs.Phrases.{Bound, SomeLabels}
use Rattle.c_syntax_printing.specs.Labels.{LabelsRest}
use Rattle.c_parser.specs.Lists.{Goes, Rest}
use Rattle.c_parser.specs.Parsed.{AreLabels}
use Rattle.c_parser.proofs.labels.labels.Given as goal

abbrev pub invariant-next : goal.invariant-next
invariant-next l = record {
  goes : Goes (AreLabels l.room) (Rest (AreLabels l.room)) l.labels.items l.fn.cursor.rest.now l.cursor.rest.now;
  leads : (x : Bound) (r : List Token) → Fails (LabelsRest x) l.cursor.rest.now r → Fails (SomeLabels x) l.fn.cursor.rest.now r;
  opens : (at n : ℕ) (q : List Token) → Opens (DeepLabels at l.room.pairs n) l.cursor.rest.now q → Opens (DeepLabels at l.room.pairs n) l.fn.cursor.rest.now q;
  shorter : length l.cursor.rest.now < length l.fn.cursor.rest.now;
}

abbrev pub decreases-next : goal.decreases-next
decreases-next l = length l.cursor.rest.now
