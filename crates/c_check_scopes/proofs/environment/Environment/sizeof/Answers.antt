use Rattle.c_tree.specs.Layout.{sizeof}
use Rattle.c_tree.specs.View.{ctype_of}
use Rattle.c_check_scopes.proofs.FittingLemmas.{size_small}
use Rattle.c_check_scopes.proofs.SeenLemmas.{number_is}
use Rattle.c_check_scopes.proofs.environment.Environment.sizeof.Goals as goal

pub unreachable-requires : goal.unreachable-requires
unreachable-requires c = c.in-None.ensures (size_small c.args.self.now.structs (ctype_of c.args.t.now) c.requires.few)

pub returns : goal.returns
returns c = number_is (λ structs. sizeof structs (ctype_of c.args.t.now)) c.args.self.now.structs c.in-Some.size c.in-Some.ensures.1
