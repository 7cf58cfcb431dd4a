use Rattle.std.proofs.Common.{◌≡◌, ◌++◌, take}
use Rattle.std.specs.Prelude.{flat_map}
use Rattle.c_rules.specs.Tags.{tags_of_declarator}
use Rattle.c_syntax.specs.View.{declarator_of}
use Rattle.c_syntax.specs.SeenNames.{seen}
use Rattle.c_check_counts.proofs.tags.add_declarators.Given as goal

abbrev pub invariant-loop-d : goal.invariant-loop-d
invariant-loop-d l = seen l.into.items ≡ seen l.fn.into.items ++ flat_map (λ d. tags_of_declarator (declarator_of d)) (take l.d-index l.ds)
