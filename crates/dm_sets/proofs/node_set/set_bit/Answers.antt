use Rattle.dm_sets.proofs.Words.{bit-set_same, bit-set_other}
use Rattle.dm_sets.proofs.node_set.set_bit.Goals as goal

pub returns-clause-here : goal.returns-clause-here
returns-clause-here c = bit-set_same c.args.words.now c.args.k c.requires

pub returns-clause-others : goal.returns-clause-others
returns-clause-others c = λ j differ. bit-set_other c.args.words.now c.args.k j c.requires differ
