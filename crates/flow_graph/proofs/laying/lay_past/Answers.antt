use Rattle.flow_graph.proofs.laying.lay_past.Goals as goal

pub returns : goal.returns
returns c = rw c.if-has_default.false c.add_silent.ensures
