use Rattle.c_syntax_printing.specs.Phrases.{APlainDecl}
use Rattle.c_parser_phrases.specs.Refusing.{bound_of}
use Rattle.c_parser.proofs.StmtStops.{stops_deep}
use Rattle.c_parser.proofs.DeclStops.{no_decl_room}
use Rattle.c_parser.proofs.Passing.{decl_nests}
use Rattle.c_parser.proofs.declarations.declaration.Goals as goal

pub returns-then-room-eq0-clause-stops : goal.returns-then-room-eq0-clause-stops
returns-then-room-eq0-clause-stops c =
    stops_deep APlainDecl (bound_of c.args.room) _ c.in-Err.error c.sure_to_be_deep.result c.sure_to_be_deep.ensures (no_decl_room c.args.cursor.now.rest.now c.if-room-eq0.true) c.in-Err.ensures.stops

pub returns-then-room-eq0-clause-nests : goal.returns-then-room-eq0-clause-nests
returns-then-room-eq0-clause-nests c = decl_nests c.args.room c.args.cursor.now.rest.now c.sure_to_be_deep.result c.if-room-eq0.true c.requires
