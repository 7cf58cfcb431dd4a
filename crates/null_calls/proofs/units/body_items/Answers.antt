use Rattle.std.proofs.Common.{sym}
use Rattle.std.proofs.lemmas.Result.{IfOk-weaker}
use Rattle.null_calls_expressions.proofs.Turns.{alike}
use Rattle.null_calls.proofs.units.body_items.Goals as goal

pub returns-in-Some : goal.returns-in-Some
returns-in-Some c = IfOk-weaker c.block_items.result _ _ (λ made. alike (sym c.in-Some.ensures)) c.block_items.ensures

pub returns-in-None : goal.returns-in-None
returns-in-None c = IfOk-weaker c.alone.result _ _ (λ made. alike (sym c.in-None.ensures)) c.alone.ensures
