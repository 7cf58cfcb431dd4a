use Rattle.c_check_scopes.proofs.IndexLemmas.{get_told, found_there, nothing_there}
use Rattle.c_check_scopes.proofs.scopes.Scopes.find.Goals as goal

pub returns-in-Some : goal.returns-in-Some
returns-in-Some c =
    found_there c.get.result c.deref.result.now c.self.inside.entries.items c.args.self.now c.args.name.now c.newest_of.result c.in-Some.place (get_told c.get.result c.deref.result.now c.in-Some.place c.get.ensures.lookup.1 c.get.ensures.lookup.3) c.deref.ensures.value c.self.view_is c.newest_of.ensures c.in-Some.is

pub returns-in-None : goal.returns-in-None
returns-in-None c = nothing_there c.args.self.now c.args.name.now c.newest_of.result c.newest_of.ensures c.in-None.is
