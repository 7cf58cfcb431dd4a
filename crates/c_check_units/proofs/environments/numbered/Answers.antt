use Rattle.c_check_units.proofs.EnvironmentLemmas.{numbered_more, numbered_all}
use Rattle.c_check_units.proofs.environments.numbered.Goals as goal

pub loop-name-preserved : goal.loop-name-preserved
loop-name-preserved c = numbered_more c.args.names.now c.loop-name.name-index _ c.loop-name.numbers c.push.new.self c.loop-name-test.true c.loop-name.invariant c.in_ok-push.ensures

pub returns : goal.returns
returns c = numbered_all c.args.names.now c.loop-name.name-index c.loop-name.numbers c.loop-name-test.false c.loop-name.invariant
