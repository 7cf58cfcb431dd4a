use Rattle.std.proofs.Common.{◌≡◌, ◌++◌, take}
use Rattle.std.specs.Prelude.{flat_map}
use Rattle.c_check_counts.specs.HeldTags.{tags_of_label}
use Rattle.c_syntax.specs.SeenNames.{seen}
use Rattle.c_check_counts.proofs.tags.add_labels.Given as goal

abbrev pub invariant-loop-label : goal.invariant-loop-label
invariant-loop-label l = seen l.into.items ≡ seen l.fn.into.items ++ flat_map tags_of_label (take l.label-index l.labels)
