use Rattle.std.proofs.Common.{◌≡◌, List, ◌++◌, length}
use Rattle.c_check_scopes.specs.Bound.{Bound}
use Rattle.c_check_scopes.proofs.scopes.Scopes.leave.Given as goal

abbrev pub invariant-loop-self : goal.invariant-loop-self
invariant-loop-self l = (inner outer : List Bound) → l.fn.self ≡ inner ++ outer → length outer ≡ l.count → (mid : List Bound) × (l.self ≡ mid ++ outer)

abbrev pub decreases-loop-self : goal.decreases-loop-self
decreases-loop-self l = length l.self
