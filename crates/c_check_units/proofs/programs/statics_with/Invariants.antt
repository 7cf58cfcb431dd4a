use Rattle.std.proofs.Common.{◌≡◌, ◌++◌, map, take}
use Rattle.c_syntax.specs.SeenNames.{seen}
use Rattle.c_rules.specs.Units.{static_string}
use Rattle.c_tree.specs.View.{static_of}
use Rattle.c_check_units.proofs.programs.statics_with.Given as goal

abbrev pub invariant-loop-bytes : goal.invariant-loop-bytes
invariant-loop-bytes l = map static_of l.statics.items ≡ map static_of l.fn.objects.items ++ map static_string (seen (take l.bytes-index l.strings))
