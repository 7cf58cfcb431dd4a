use Rattle.std.proofs.Common.{◌≡◌, [], take}
use Rattle.c_rules.specs.Names.{each_once}
use Rattle.c_syntax.specs.SeenNames.{seen}
use Rattle.c_check_counts.proofs.unit_tags.distinct_names.Given as goal

abbrev pub invariant-loop-name : goal.invariant-loop-name
invariant-loop-name l = record {
  once : l.once ≡ each_once [] (seen (take l.name-index l.names));
  same : seen l.list.items ≡ l.once;
}
