use Rattle.std.proofs.Common.{arith}
use Rattle.c_check_scopes.proofs.NumberLemmas.{known_in, new_in}
use Rattle.c_check_scopes.proofs.numbering.Numbering.push.Goals as goal

pub invariant_of-self-then-contains : goal.invariant_of-self-then-contains
invariant_of-self-then-contains c = rw c.in_ok-push.ensures.items (known_in _ c.self.inside.names.items c.args.name c.args.self.now c.contains.result c.self.view_is c.contains.ensures c.if-contains.true c.self.invariant)

pub invariant_of-self-in-Ok : goal.invariant_of-self-in-Ok
invariant_of-self-in-Ok c =
    rw c.in_ok-push-2.ensures.items (new_in _ _ c.self.inside.names.items c.args.name c.len-place.result c.args.self.now c.contains.result c.self.view_is c.contains.ensures c.if-contains.false (omega (arith, c.len-place.ensures, c.self.inside.names.ok)) c.in-Ok.ensures.updates.0 c.self.invariant)
