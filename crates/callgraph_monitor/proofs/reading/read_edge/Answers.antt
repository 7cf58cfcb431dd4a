use Rattle.flow_model.proofs.Grown.{adds-add, adds-like}
use Rattle.callgraph_monitor.proofs.reading.read_edge.Goals as goal

pub returns-then-fits : goal.returns-then-fits
returns-then-fits c =
    adds-like c.args.pool.now c.add.new.self (adds-add c.args.pool.now c.add.new.self c.args.edge.now.to c.add.result c.add.ensures.added c.add.ensures.had c.add.ensures.same)
    (λ b to. (c.fits.ensures.0 c.if-fits.true, to)) (λ b both. both.1)
