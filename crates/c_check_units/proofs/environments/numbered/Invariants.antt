use Rattle.std.proofs.Common.{◌≡◌, take}
use Rattle.c_syntax.specs.SeenNames.{seen}
use Rattle.c_check_units.proofs.environments.numbered.Given as goal

abbrev pub invariant-loop-name : goal.invariant-loop-name
invariant-loop-name l = l.numbers ≡ seen (take l.name-index l.names)
