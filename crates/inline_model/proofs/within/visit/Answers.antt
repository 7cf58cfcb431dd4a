use Rattle.std.proofs.Common.{inl, inr}
use Rattle.flow_model.proofs.Grown.{adds-then, adds-like}
use Rattle.inline_model.proofs.Saturating.{leads_of, of_leads}
use Rattle.inline_model.proofs.within.visit.Goals as goal

pub returns : goal.returns
returns c =
    adds-like c.args.pool.now c.follow_returns.new.pool
    (adds-then c.args.pool.now c.follow_calls.new.pool c.follow_returns.new.pool
    (adds-then c.args.pool.now c.follow_sys.new.pool c.follow_calls.new.pool
    (adds-then c.args.pool.now c.follow_silent.new.pool c.follow_sys.new.pool c.follow_silent.ensures c.follow_sys.ensures) c.follow_calls.ensures) c.follow_returns.ensures)
    (leads_of c.args.model.now c.args.done.now c.args.node) (of_leads c.args.model.now c.args.done.now c.args.node)
