use Rattle.c_check_globals.proofs.Moves.{given_nothing}
use Rattle.c_check_globals.proofs.structs.tag_item.Goals as goal
use Rattle.c_check_scopes.specs.View.{env_of}
use Rattle.c_rules.specs.Items.{no_output, tag_declaration}
use Rattle.c_syntax.specs.View.{ident_of}

pub returns : goal.returns
returns c = given_nothing no_output c.tag_declaration.result (tag_declaration (env_of c.args.env.now) (ident_of c.args.x.now)) c.tag_declaration.ensures
