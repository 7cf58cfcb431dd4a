use Rattle.std.proofs.Common.{◌≡◌, None}
use Rattle.std.specs.Prelude.{replicate}
use Rattle.c_check_scopes.proofs.structs.without_definitions.Given as goal

abbrev pub invariant-loop : goal.invariant-loop
invariant-loop l = l.structs.items ≡ replicate l.counter None
