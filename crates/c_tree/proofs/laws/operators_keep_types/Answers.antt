use Rattle.std.proofs.Common.{refl}
use Rattle.c_tree.specs.Tree.{integer}
use Rattle.c_tree.proofs.OperatorLemmas.{converted, arithmetic_fits}
use Rattle.c_tree.proofs.laws.operators_keep_types.Goals as goal

-- src/laws.rt:5:1
pub returns-clause-conversions : goal.returns-clause-conversions
returns-clause-conversions c = λ i to x h. converted to (integer i) i x refl h

-- src/laws.rt:5:1
pub returns-clause-arithmetic : goal.returns-clause-arithmetic
returns-clause-arithmetic c = arithmetic_fits
