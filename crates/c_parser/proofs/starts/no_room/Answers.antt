use Rattle.std.proofs.Common.{arith}
use Rattle.c_syntax_printing.proofs.PartFails.{no_stmt_left, no_stmt_begins}
use Rattle.c_parser.proofs.FirstGoesOn.{no_room_nests}
use Rattle.c_parser.proofs.starts.no_room.Goals as goal

pub returns-then-first_head-lt20-clause-refuses : goal.returns-then-first_head-lt20-clause-refuses
returns-then-first_head-lt20-clause-refuses c p = no_stmt_begins c.args.cursor.now.rest.now (λ h. omega (arith, h, c.first_head.ensures, c.if-first_head-lt20.true))

pub returns-clause-refuses : goal.returns-clause-refuses
returns-clause-refuses c p = (c.args.cursor.now.rest.now, no_stmt_left c.args.cursor.now.rest.now)

pub returns-clause-nests : goal.returns-clause-nests
returns-clause-nests c room z = no_room_nests room _ c.args.cursor.now.rest.now z c.place.ensures (omega (arith, c.first_head.ensures, c.if-first_head-lt20.false))
