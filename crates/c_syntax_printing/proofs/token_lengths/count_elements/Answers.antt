use Rattle.c_syntax_printing.proofs.TokenLengths.{all_left, element_counted, elements_counted}
use Rattle.std.proofs.Common.{arith}
use Rattle.c_syntax_printing.proofs.token_lengths.count_elements.Goals as goal

pub loop-byte-init : goal.loop-byte-init
loop-byte-init c = all_left _ _ _

pub loop-byte-preserved : goal.loop-byte-preserved
loop-byte-preserved c =
    element_counted _ _ _ _ _ c.loop-byte.byte-index c.args.quote c.loop-byte-test.true c.element_length.ensures.value c.loop-byte.invariant c.add-total.ensures

pub returns : goal.returns
returns c = elements_counted _ _ _ c.loop-byte.byte-index _ (omega arith) c.loop-byte.invariant
