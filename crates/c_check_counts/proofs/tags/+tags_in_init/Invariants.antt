use Rattle.std.proofs.Common.{◌≡◌, ◌++◌, take}
use Rattle.std.specs.Prelude.{flat_map}
use Rattle.c_rules.specs.Tags.{tags_of_init}
use Rattle.c_syntax.specs.UnitView.{init_of}
use Rattle.c_syntax.specs.SeenNames.{seen}
use Rattle.c_check_counts.proofs.tags.+tags_in_init.Given as goal

abbrev pub invariant-add_inits-loop-i : goal.invariant-add_inits-loop-i
invariant-add_inits-loop-i l = seen l.into.items ≡ seen l.fn.into.items ++ flat_map (λ i. tags_of_init (init_of i)) (take l.i-index l.is)
