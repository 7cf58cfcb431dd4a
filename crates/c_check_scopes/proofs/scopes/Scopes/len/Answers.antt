use Rattle.std.proofs.Common.{arith, ap, length, []}
use Rattle.c_check_scopes.proofs.IndexLemmas.{length_onto}
use Rattle.c_check_scopes.proofs.scopes.Scopes.len.Goals as goal

pub returns : goal.returns
returns c = omega (arith, c.len.ensures, ap length c.self.view_is, length_onto c.self.inside.entries.items [])
