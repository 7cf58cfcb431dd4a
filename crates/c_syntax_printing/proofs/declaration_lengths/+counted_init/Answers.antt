use Rattle.std.proofs.Common.{arith, false}
use Rattle.c_syntax_printing.proofs.Counting.{and_then, counted_as, all_counted, one_counted}
use Rattle.c_syntax_printing.proofs.Rows.{list_is}
use Rattle.c_syntax.specs.UnitView.{init_of}
use Rattle.c_syntax.specs.Print.{init_kinds}
use Rattle.c_syntax.specs.Writes.{separator}
use Rattle.c_syntax.specs.WritesUnit.{inits_of, left_inits}
use Rattle.c_syntax_printing.proofs.Lists.{inits_first, no_inits_left}
use Rattle.c_syntax_printing.proofs.declaration_lengths.+counted_init.Goals as goal

pub count_init-returns-in-List : goal.count_init-returns-in-List
count_init-returns-in-List t c =
    rw c.in-List.is
    (counted_as _ (list_is c.args.init.now.at c.in-List.all _ c.deref.ensures.value)
    (and_then (and_then c.count_punctuator-total.ensures c.count_inits-total.ensures) c.count_punctuator.ensures))

pub count_inits-loop-init-preserved : goal.count_inits-loop-init-preserved
count_inits-loop-init-preserved t c =
    one_counted (λ xs. left_inits c.loop-init.first (inits_of xs)) (λ xs. left_inits false (inits_of xs)) (λ x k. separator c.loop-init.first (init_kinds (init_of x) k)) (inits_first c.loop-init.first)
    c.args.all.now c.loop-init.init-index c.init-item.result c.loop-init-test.true c.init-item.is c.loop-init.invariant (and_then c.count_separator-total.ensures c.count_init-total.ensures)

pub count_inits-returns : goal.count_inits-returns
count_inits-returns t c =
    all_counted (λ xs. left_inits c.loop-init.first (inits_of xs)) (no_inits_left c.loop-init.first) c.args.all.now c.loop-init.init-index (omega arith) c.loop-init.invariant
