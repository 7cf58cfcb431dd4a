use Rattle.std.proofs.Common.{sym, ◌∙◌}
use Rattle.std.proofs.lemmas.Bool.{false≢true}
use Rattle.dm_base.proofs.Fitting.{FitArguments-here, FitArguments-next, FitArguments-before}
use Rattle.dm_base.proofs.matching.do_arguments_fit.Goals as goal

pub returns-then-not-does_entry_fit : goal.returns-then-not-does_entry_fit
returns-then-not-does_entry_fit c = (
  λ e. absurd (false≢true e),
  λ fit.
      let here = FitArguments-here c.args.pattern.now c.args.arguments.now c.loop-i.i c.get.result _ c.get.ensures c.get-in-loop-i.ensures (c.loop-i.invariant.needed fit) in
      sym c.if-not-does_entry_fit.true ∙ c.does_entry_fit.ensures.1 here,
)

pub loop-i-preserved : goal.loop-i-preserved
loop-i-preserved c = record {
  enough = λ rest. c.loop-i.invariant.enough (FitArguments-before c.args.pattern.now c.args.arguments.now c.loop-i.i c.get.result _ c.get.ensures c.get-in-loop-i.ensures (c.does_entry_fit.ensures.0 c.if-not-does_entry_fit.false) rest);
  needed = λ fit. FitArguments-next c.args.pattern.now c.args.arguments.now c.loop-i.i c.get.result _ c.get.ensures c.get-in-loop-i.ensures (c.loop-i.invariant.needed fit);
}
