-- For private contracts and proofs alone: labels of a switch, one by one.
use Rattle.std.specs.Prelude.{Bool, true, false}
use Rattle.c_tree.specs.declared.tree.TLabel.{TLabel}
use Rattle.c_tree.specs.declared.tree.TLabel.TheVariants.{Case, Default}

abbrev pub is_default : TLabel → Bool
is_default (Case v) = false
is_default Default = true
