use Rattle.std.proofs.Common.{refl}
use Rattle.flow_model.proofs.Grown.{adds-add, adds-like}
use Rattle.inline_model.proofs.within.add_where.Goals as goal

pub returns-then-condition : goal.returns-then-condition
returns-then-condition c = adds-like c.args.pool.now c.add.new.self (adds-add c.args.pool.now c.add.new.self c.args.node c.add.result c.add.ensures.added c.add.ensures.had c.add.ensures.same) (λ b same. (c.if-condition.true, same)) (λ b both. both.1)
