use Rattle.std.proofs.Common.{sym, ◌∙◌, subst, arith}
use Rattle.std.proofs.lemmas.Option.{none-some, same_Some}
use Rattle.std.proofs.lemmas.Result.{on_ok_weaker}
use Rattle.callgraph_monitor.specs.Ahead.{ReturnsTo}
use Rattle.callgraph_monitor.proofs.Costs.{leave-few}
use Rattle.callgraph_monitor.proofs.Pushed.{pushes-like, pushes-none}
use Rattle.callgraph_monitor.proofs.quiet.push_returns.Goals as goal

pub returns-in-Some-clause-added : goal.returns-in-Some-clause-added
returns-in-Some-clause-added c =
    on_ok_weaker c.push_callers.result
    (λ added. pushes-like c.args.ends.now.items c.push_callers.new.ends.items added
    (λ b to. (c.in-Some.function, c.in-Some.ensures.some.0, c.in-Some.ensures.some.1, to))
    (λ b (f, entry, has, to). subst (λ h. ReturnsTo c.args.model.now h b) (same_Some f c.in-Some.function (sym (c.function_that_ends_at.ensures.only f entry has) ∙ c.in-Some.is)) to))
    c.push_callers.ensures.added

pub returns-in-Some-clause-few : goal.returns-in-Some-clause-few
returns-in-Some-clause-few c =
    on_ok_weaker c.push_callers.result
    (λ few. omega (arith, few, leave-few c.args.model.now c.in-Some.function c.in-Some.ensures.some.0 c.args.node c.in-Some.ensures.some.1))
    c.push_callers.ensures.few

pub returns-in-None-clause-added : goal.returns-in-None-clause-added
returns-in-None-clause-added c = pushes-none c.args.ends.now.items (λ b (f, entry, has, to). none-some f (sym c.in-None.is ∙ c.function_that_ends_at.ensures.only f entry has))
