use Rattle.c_tree.specs.View.{ctype_of}
use Rattle.c_check_scopes.proofs.TableLemmas.{size_returned}
use Rattle.c_check_scopes.proofs.structs.StructTable.sizeof.Goals as goal

pub returns : goal.returns
returns c = size_returned c.self.inside.structs.items c.deref.result.now c.args.self.now (ctype_of c.args.t.now) c.size_in.result c.deref.ensures.value c.self.view_is c.self.invariant c.size_in.ensures
