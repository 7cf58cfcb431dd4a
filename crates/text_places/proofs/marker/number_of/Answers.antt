use Rattle.std.proofs.Common.{sym, arith}
use Rattle.text_places.proofs.MarkerLemmas.{number_of_decimal, number_unread}
use Rattle.text_places.proofs.marker.number_of.Goals as goal

pub returns-in-Some : goal.returns-in-Some
returns-in-Some c = sym (number_of_decimal c.args.digits.now c.in-Some.number (omega arith) c.in-Some.ensures.some)

pub returns-in-None : goal.returns-in-None
returns-in-None c = sym (number_unread c.args.digits.now c.in-None.ensures.none)
