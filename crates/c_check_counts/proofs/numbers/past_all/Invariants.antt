use Rattle.std.proofs.Common.{◌≡◌, drop}
use Rattle.c_check_scopes.specs.Variables.{past_names}
use Rattle.c_check_counts.specs.Numbered.{HaveNumbers, next_of}
use Rattle.c_syntax.specs.SeenNames.{seen}
use Rattle.c_check_counts.proofs.numbers.past_all.Given as goal

abbrev pub invariant-loop-name : goal.invariant-loop-name
invariant-loop-name l = record {
  past : past_names (next_of l.reached) (seen (drop l.name-index l.names)) ≡ past_names (next_of l.fn.next) (seen l.names);
  left : HaveNumbers (next_of l.reached) (seen (drop l.name-index l.names));
}
