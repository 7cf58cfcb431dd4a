use Rattle.c_tree.proofs.PatternLemmas.{patterns_right}
use Rattle.c_tree.proofs.laws.patterns_are_right.Goals as goal

-- src/laws.rt:15:1
pub returns : goal.returns
returns c = patterns_right
