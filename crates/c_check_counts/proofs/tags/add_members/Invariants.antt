use Rattle.std.proofs.Common.{◌≡◌, ◌++◌, take}
use Rattle.std.specs.Prelude.{flat_map}
use Rattle.c_check_counts.specs.HeldTags.{tags_of_member}
use Rattle.c_syntax.specs.SeenNames.{seen}
use Rattle.c_check_counts.proofs.tags.add_members.Given as goal

abbrev pub invariant-loop-m : goal.invariant-loop-m
invariant-loop-m l = seen l.into.items ≡ seen l.fn.into.items ++ flat_map tags_of_member (take l.m-index l.ms)
