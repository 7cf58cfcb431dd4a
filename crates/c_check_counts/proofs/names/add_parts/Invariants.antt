use Rattle.std.proofs.Common.{◌≡◌, [], ◌∷◌, ◌++◌, take}
use Rattle.std.specs.Prelude.{flat_map}
use Rattle.c_check_counts.specs.Named.{name_of_part}
use Rattle.c_syntax.specs.SeenNames.{seen}
use Rattle.c_check_counts.proofs.names.add_parts.Given as goal

abbrev pub invariant-loop-part : goal.invariant-loop-part
invariant-loop-part l = seen l.into.items ≡ seen l.fn.into.items ++ flat_map (λ p. name_of_part p ∷ []) (take l.part-index l.parts)
