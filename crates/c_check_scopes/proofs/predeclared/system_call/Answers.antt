use Rattle.std.proofs.Common.{Some, ap, sym, ◌∙◌}
use Rattle.c_check_scopes.proofs.CountLemmas.{call_some, call_none}
use Rattle.c_check_scopes.proofs.predeclared.system_call.Goals as goal

pub returns-in-Some : goal.returns-in-Some
returns-in-Some c = call_some c.args.name.now c.find.result c.index.result (c.in-Some.is ∙ ap Some (sym c.index.ensures.index)) c.index.ensures.known c.find.ensures.some c.find.ensures.each

pub returns-in-None : goal.returns-in-None
returns-in-None c = call_none c.args.name.now c.find.result c.in-None.is c.find.ensures.none
