use Rattle.std.proofs.Common.{arith, false}
use Rattle.c_syntax.proofs.Writing.{and_then, and_last, all_written, one_written}
use Rattle.c_syntax.proofs.UnitRows.{list_last}
use Rattle.c_syntax.specs.UnitView.{init_of}
use Rattle.c_syntax.specs.Print.{init_kinds}
use Rattle.c_syntax.specs.Writes.{separator}
use Rattle.c_syntax.specs.WritesUnit.{inits_of, left_inits}
use Rattle.c_syntax_printing.proofs.Lists.{inits_first, no_inits_left}
use Rattle.c_syntax_printing.proofs.printing.declarations.+printed_init.Goals as goal

pub write_init-returns-in_ok-write_inits-in-List : goal.write_init-returns-in_ok-write_inits-in-List
write_init-returns-in_ok-write_inits-in-List t c =
    rw c.in-List.is
    (list_last _ _ c.push_punctuator-in-List.new.out.items c.args.init.now.at c.in-List.all _ c.deref.ensures.value
    (and_last _ _ _ (and_then c.in_ok-push_punctuator-in-List.ensures c.in_ok-write_inits-in-List.ensures) c.push_punctuator-in-List.ensures))

pub write_inits-loop-init-preserved : goal.write_inits-loop-init-preserved
write_inits-loop-init-preserved t c =
    one_written (λ xs. left_inits c.loop-init.first (inits_of xs)) (λ xs. left_inits false (inits_of xs)) (λ x k. separator c.loop-init.first (init_kinds (init_of x) k)) (inits_first c.loop-init.first)
    c.args.all.now c.loop-init.init-index c.init-item.result c.loop-init-test.true c.init-item.is c.loop-init.invariant (and_then c.in_ok-push_separator.ensures c.in_ok-write_init.ensures)

pub write_inits-returns : goal.write_inits-returns
write_inits-returns t c =
    all_written (λ xs. left_inits c.loop-init.first (inits_of xs)) (no_inits_left c.loop-init.first) c.args.all.now c.loop-init.init-index (omega arith) c.loop-init.invariant
